-- Steps of one machine.
use Rattle.std.proofs.Common.{◌≡◌, ℕ, zero, suc, ◌+◌, ◌*◌, ◌<◌, ◌≤◌, Bool, true, false, [], ◌++◌, Some, None, sym, ◌∙◌, ap, refl, arith, append_assoc, subst}
use Rattle.std.specs.Prelude.{Option}
use Rattle.std.specs.Option.{option_to_list}
use Rattle.kern_events.specs.declared.outcome.Outcome.{Outcome}
use Rattle.kern_runs.specs.Machines.{Machine, IsMachine, after, events, jumps_in, count_of, IsGoing}

-- one step and i more, and then k
suc-add : (i k : ℕ) → suc i + k ≡ suc (i + k)
suc-add i k = omega arith

none-add : (k : ℕ) → 0 + k ≡ k
none-add k = omega arith

pub after-add : {S : Type 0} (m : Machine S) (i k : ℕ) (s : S) → after m (i + k) s ≡ after m k (after m i s)
after-add m zero k s = ap (λ n. after m n s) (none-add k)
after-add m (suc i) k s = ap (λ n. after m n s) (suc-add i k) ∙ after-add m i k (m.next s)

pub events-add : {S : Type 0} (m : Machine S) (i k : ℕ) (s : S) → events m (i + k) s ≡ events m i s ++ events m k (after m i s)
events-add m zero k s = ap (λ n. events m n s) (none-add k)
events-add m (suc i) k s =
    ap (λ n. events m n s) (suc-add i k)
    ∙ (ap (λ es. option_to_list (m.emits s) ++ es) (events-add m i k (m.next s))
    ∙ sym (append_assoc (option_to_list (m.emits s)) (events m i (m.next s)) (events m k (after m i (m.next s)))))

pub jumps_in-add : {S : Type 0} (m : Machine S) (i k : ℕ) (s : S) → jumps_in m (i + k) s ≡ jumps_in m i s + jumps_in m k (after m i s)
jumps_in-add m zero k s = ap (λ n. jumps_in m n s) (none-add k) ∙ sym (none-add (jumps_in m k s))
jumps_in-add m (suc i) k s =
    let more = jumps_in-add m i k (m.next s) in
    let sum : count_of (m.jumps s) + jumps_in m (i + k) (m.next s) ≡ count_of (m.jumps s) + jumps_in m i (m.next s) + jumps_in m k (after m i (m.next s)) = omega (arith, more) in
    ap (λ n. jumps_in m n s) (suc-add i k) ∙ sum

pub IsGoing-add : {S : Type 0} (m : Machine S) (i k : ℕ) (s : S) → IsGoing m i s → IsGoing m k (after m i s) → IsGoing m (i + k) s
IsGoing-add m zero k s first second = let P : ℕ → Type 0 = λ n. IsGoing m n s in subst P (sym (none-add k)) second
IsGoing-add m (suc i) k s first second =
    let P : ℕ → Type 0 = λ n. IsGoing m n s in subst P (sym (suc-add i k)) (first.0, IsGoing-add m i k (m.next s) first.1 second)

-- a state with an outcome stays as it is, and is silent
pub after-outcome : {S : Type 0} (m : Machine S) (is : IsMachine m) (k : ℕ) (s : S) (o : Outcome) → m.outcome s ≡ Some o → after m k s ≡ s
after-outcome m is zero s o come = refl
after-outcome m is (suc k) s o come = ap (after m k) (is.stays s o come) ∙ after-outcome m is k s o come

pub events-outcome : {S : Type 0} (m : Machine S) (is : IsMachine m) (k : ℕ) (s : S) (o : Outcome) → m.outcome s ≡ Some o → events m k s ≡ []
events-outcome m is zero s o come = refl
events-outcome m is (suc k) s o come =
    ap (λ e. option_to_list e ++ events m k (m.next s)) (is.silent s o come)
    ∙ (ap (events m k) (is.stays s o come) ∙ events-outcome m is k s o come)

-- a step is one jump at most
pub count_of-le : (b : Bool) → count_of b ≤ 1
count_of-le true = omega arith
count_of-le false = omega arith

-- no more steps are jumps than there are
pub jumps_in-le : {S : Type 0} (m : Machine S) (k : ℕ) (s : S) → jumps_in m k s ≤ k
jumps_in-le m zero s = omega arith
jumps_in-le m (suc k) s = omega (arith, count_of-le (m.jumps s), jumps_in-le m k (m.next s))

-- going steps are bounded by their jumps
pub going-bound : {S : Type 0} (m : Machine S) (is : IsMachine m) (k : ℕ) (s : S) → IsGoing m k s
    → k ≤ jumps_in m k s * (m.size + 1) + m.before_jump s
going-bound m is zero s going = omega arith
going-bound m is (suc k) s going = by_jump (m.jumps s) refl (going-bound m is k (m.next s) going.1)
  where
    by_jump : (b : Bool) → m.jumps s ≡ b → k ≤ jumps_in m k (m.next s) * (m.size + 1) + m.before_jump (m.next s)
        → suc k ≤ (count_of b + jumps_in m k (m.next s)) * (m.size + 1) + m.before_jump s
    by_jump true e bound = let small = is.small (m.next s) in omega arith
    by_jump false e bound = let falls = is.falls s going.0 e in omega arith

-- a state before the end of going steps has come to no outcome
pub going-none : {S : Type 0} (m : Machine S) (k count : ℕ) (s : S) → IsGoing m count s → k < count → m.outcome (after m k s) ≡ None
going-none m k zero s going lt = absurd (omega arith)
going-none m zero (suc count) s going lt = going.0
going-none m (suc k) (suc count) s going lt = going-none m k count (m.next s) going.1 (omega arith)

-- where no outcome has come at the end, none has before
pub going-before : {S : Type 0} (m : Machine S) (is : IsMachine m) (k : ℕ) (s : S) → m.outcome (after m k s) ≡ None → IsGoing m k s
going-before m is zero s none = tt
going-before m is (suc k) s none = by_outcome (m.outcome s) refl (going-before m is k (m.next s) none)
  where
    by_outcome : (o : Option Outcome) → m.outcome s ≡ o → IsGoing m k (m.next s) → (m.outcome s ≡ None) × IsGoing m k (m.next s)
    by_outcome None e rest = (e, rest)
    by_outcome (Some o) e rest =
        let late : m.outcome (after m (suc k) s) ≡ Some o = ap m.outcome (after-outcome m is (suc k) s o e) ∙ e in
        let no : Some o ≡ None = sym late ∙ none in
        absurd cc
