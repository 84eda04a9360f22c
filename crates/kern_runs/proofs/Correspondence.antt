-- Machines whose steps correspond show the same.
use Rattle.std.proofs.Common.{◌≡◌, ◌≢◌, ℕ, zero, suc, ◌+◌, ◌-◌, ◌*◌, ◌<◌, ◌≤◌, List, ◌++◌, Some, None, sym, ◌∙◌, ap, refl, arith, append-nil, subst, inl, inr}
use Rattle.std.specs.Prelude.{Option, unwrap_or, ◌⊎◌}
use Rattle.std.specs.Option.{option_to_list}
use Rattle.std.proofs.lemmas.Bool.{cases_lt}
use Rattle.std.proofs.lemmas.Nat.{mul-le}
use Rattle.kern_events.specs.declared.event.Event.{Event}
use Rattle.kern_events.specs.declared.outcome.Outcome.{Outcome}
use Rattle.kern_events.specs.declared.outcome.Outcome.TheVariants.{Ended, Fault, Asks, Running}
use Rattle.kern_runs.specs.Runs.{Run, Same, Follows, FollowsFrom, Alike, stretch}
use Rattle.kern_runs.specs.Machines.{Machine, IsMachine, Corresponds, after, events, run, jumps_in, count_of, IsGoing}
use Rattle.kern_runs.proofs.Steps.{after-add, events-add, jumps_in-add, IsGoing-add, after-outcome, events-outcome, jumps_in-le, count_of-le, going-bound, going-none, going-before}

-- steps of b that do what so many steps of a do
pub record Follower {S T : Type 0} (a : Machine S) (b : Machine T) (R : S → T → Type 0) (k : ℕ) (s : S) (t : T) : Type 0 where
  pub count : ℕ
  pub going : IsGoing b count t
  pub same_events : events b count t ≡ events a k s
  pub few_jumps : jumps_in b count t ≤ k
  pub enough_jumps : a.outcome (after a k s) ≡ None → jumps_in b count t ≡ jumps_in a k s
  pub related : R (after a k s) (after b count t)

none-some : (o : Outcome) (x : Option Outcome) → x ≡ Some o → x ≡ None → ⊥
none-some o x some none = cc

pub follow : {S T : Type 0} (a : Machine S) (b : Machine T) (R : S → T → Type 0) → IsMachine a → Corresponds a b R
    → (k : ℕ) (s : S) (t : T) → R s t → Follower a b R k s t
follow a b R is_a c zero s t r =
    record { count = 0; going = tt; same_events = refl; few_jumps = omega arith; enough_jumps = λ _. refl; related = r }
follow {S} {T} a b R is_a c (suc k) s t r = by_outcome (a.outcome s) refl (λ y related. follow a b R is_a c k (a.next s) y related)
  where
    by_outcome : (o : Option Outcome) → a.outcome s ≡ o → ((y : T) → R (a.next s) y → Follower a b R k (a.next s) y) → Follower a b R (suc k) s t
    by_outcome (Some o) come again =
        let At : S → Type 0 = λ x. R x t in
        let stays = after-outcome a is_a (suc k) s o come in
        record {
          count = 0;
          going = tt;
          same_events = sym (events-outcome a is_a (suc k) s o come);
          few_jumps = omega arith;
          enough_jumps = λ none. let come_late : a.outcome (after a (suc k) s) ≡ Some o = ap a.outcome stays ∙ come in absurd (none-some o _ come_late none);
          related = subst At (sym stays) r;
        }
    by_outcome None going again =
        let m = c.steps s t r going in
        let f = again (after b m.count t) m.related in
        let At : T → Type 0 = λ y. R (after a k (a.next s)) y in
        record {
          count = m.count + f.count;
          going = IsGoing-add b m.count f.count t m.going f.going;
          same_events = events-add b m.count f.count t ∙ (ap (λ es. es ++ events b f.count (after b m.count t)) m.same_events ∙ ap (λ es. option_to_list (a.emits s) ++ es) f.same_events);
          few_jumps = omega (arith, jumps_in-add b m.count f.count t, m.same_jumps, f.few_jumps, count_of-le (a.jumps s));
          enough_jumps = λ none. jumps_in-add b m.count f.count t ∙ (ap (λ n. n + jumps_in b f.count (after b m.count t)) m.same_jumps ∙ ap (λ n. count_of (a.jumps s) + n) (f.enough_jumps none));
          related = subst At (sym (after-add b m.count f.count t)) f.related;
        }

-- an outcome is shown with the same events
follows-some : (o : Outcome) (x y : Run) → o ≢ Running → Same x y → FollowsFrom o x y
follows-some Ended x y ends same = same
follows-some (Fault kind) x y ends same = same
follows-some Asks x y ends same = same
follows-some Running x y ends same = absurd (ends refl)

-- what a machine with an outcome shows
shows-some : {S T : Type 0} (a : Machine S) (b : Machine T) (s : S) (t : T) (k n : ℕ) (o : Outcome) → o ≢ Running
    → a.outcome (after a k s) ≡ Some o → b.outcome (after b n t) ≡ Some o → events b n t ≡ events a k s → Follows (run a s k) (run b t n)
shows-some a b s t k n o ends come other_come same =
    let outcome : unwrap_or (a.outcome (after a k s)) Running ≡ o = ap (λ x. unwrap_or x Running) come in
    let other : unwrap_or (b.outcome (after b n t)) Running ≡ o = ap (λ x. unwrap_or x Running) other_come in
    let P : Outcome → Type 0 = λ x. FollowsFrom x (run a s k) (run b t n) in
    subst P (sym outcome) (follows-some o (run a s k) (run b t n) ends (record { outcome = other ∙ sym outcome; events = same }))

-- what a machine shows that is running
shows-none : {S T : Type 0} (a : Machine S) (b : Machine T) (s : S) (t : T) (k n : ℕ) (rest : List Event)
    → a.outcome (after a k s) ≡ None → events b n t ≡ events a k s ++ rest → Follows (run a s k) (run b t n)
shows-none a b s t k n rest none whole =
    let outcome : unwrap_or (a.outcome (after a k s)) Running ≡ Running = ap (λ x. unwrap_or x Running) none in
    let P : Outcome → Type 0 = λ x. FollowsFrom x (run a s k) (run b t n) in
    subst P (sym outcome) (record { rest = rest; whole = whole })

-- going steps with few jumps are within the stretch
within-stretch : (jumps k size whole before count : ℕ) → jumps ≤ k → size ≤ whole → before ≤ size → count ≤ jumps * (size + 1) + before
    → count ≤ stretch whole k
within-stretch jumps k size whole before count few small short bound =
    omega (arith, mul-le jumps (size + 1) k (size + 1) few (omega arith), mul-le (k + 1) (size + 1) (k + 1) (whole + 1) (omega arith) (omega arith), bound)

-- so many steps have more jumps than k
many-jumps : (jumps k size whole before : ℕ) → size ≤ whole → before ≤ size → stretch whole k ≤ jumps * (size + 1) + before → k < jumps
many-jumps jumps k size whole before small short bound = by_less (cases_lt k jumps)
  where
    by_less : (k < jumps) ⊎ (jumps ≤ k) → k < jumps
    by_less (inl lt) = lt
    by_less (inr le) =
        absurd (omega (arith, mul-le jumps (size + 1) k (size + 1) le (omega arith), mul-le (k + 1) (size + 1) (k + 1) (whole + 1) (omega arith) (omega arith), bound))

-- steps that are part of more steps
split-count : (count n : ℕ) → count ≤ n → n ≡ count + (n - count)
split-count count n le = omega arith

pub forward : {S T : Type 0} (a : Machine S) (b : Machine T) (R : S → T → Type 0) → IsMachine a → IsMachine b → Corresponds a b R
    → (size : ℕ) → b.size ≤ size → (k : ℕ) (s : S) (t : T) → R s t → Follows (run a s k) (run b t (stretch size k))
forward a b R is_a is_b c size small k s t r = by_outcome (a.outcome (after a k s)) refl
  where
    f : Follower a b R k s t
    f = follow a b R is_a c k s t r

    n : ℕ
    n = stretch size k

    rest : ℕ
    rest = n - f.count

    parts : n ≡ f.count + rest
    parts = split-count f.count n
        (within-stretch (jumps_in b f.count t) k b.size size (b.before_jump t) f.count f.few_jumps small (is_b.small t) (going-bound b is_b f.count t f.going))

    all_events : events b n t ≡ events a k s ++ events b rest (after b f.count t)
    all_events = ap (λ i. events b i t) parts ∙ (events-add b f.count rest t ∙ ap (λ es. es ++ events b rest (after b f.count t)) f.same_events)

    by_outcome : (o : Option Outcome) → a.outcome (after a k s) ≡ o → Follows (run a s k) (run b t n)
    by_outcome None none = shows-none a b s t k n (events b rest (after b f.count t)) none all_events
    by_outcome (Some o) come =
        let late : b.outcome (after b f.count t) ≡ Some o = sym (c.outcomes (after a k s) (after b f.count t) f.related) ∙ come in
        let end : after b n t ≡ after b f.count t =
        ap (λ i. after b i t) parts ∙ (after-add b f.count rest t ∙ after-outcome b is_b rest (after b f.count t) o late) in
        shows-some a b s t k n o (is_a.comes (after a k s) o come) come (ap b.outcome end ∙ late)
        (all_events ∙ (ap (λ es. events a k s ++ es) (events-outcome b is_b rest (after b f.count t) o late) ∙ append-nil (events a k s)))

pub backward : {S T : Type 0} (a : Machine S) (b : Machine T) (R : S → T → Type 0) → IsMachine a → IsMachine b → Corresponds a b R
    → (size : ℕ) → a.size ≤ size → (k : ℕ) (s : S) (t : T) → R s t → Follows (run b t k) (run a s (stretch size k))
backward a b R is_a is_b c size small k s t r = by_outcome (a.outcome (after a n s)) refl
  where
    n : ℕ
    n = stretch size k

    f : Follower a b R n s t
    f = follow a b R is_a c n s t r

    longer : k < f.count → Follows (run b t k) (run a s n)
    longer lt =
        let rest = f.count - k in
        let parts : f.count ≡ k + rest = omega arith in
        shows-none b a t s k n (events b rest (after b k t)) (going-none b k f.count t f.going lt)
        (sym f.same_events ∙ (ap (λ i. events b i t) parts ∙ events-add b k rest t))

    by_outcome : (o : Option Outcome) → a.outcome (after a n s) ≡ o → Follows (run b t k) (run a s n)
    by_outcome None none =
        let bound = going-bound a is_a n s (going-before a is_a n s none) in
        let jumps = many-jumps (jumps_in a n s) k a.size size (a.before_jump s) small (is_a.small s) bound in
        longer (omega (arith, jumps, f.enough_jumps none, jumps_in-le b f.count t))
    by_outcome (Some o) come = by_count (cases_lt k f.count)
      where
        late : b.outcome (after b f.count t) ≡ Some o
        late = sym (c.outcomes (after a n s) (after b f.count t) f.related) ∙ come

        by_count : (k < f.count) ⊎ (f.count ≤ k) → Follows (run b t k) (run a s n)
        by_count (inl lt) = longer lt
        by_count (inr le) =
            let rest = k - f.count in
            let parts : k ≡ f.count + rest = omega arith in
            let end : after b k t ≡ after b f.count t =
            ap (λ i. after b i t) parts ∙ (after-add b f.count rest t ∙ after-outcome b is_b rest (after b f.count t) o late) in
            let all_events : events b k t ≡ events a n s =
            ap (λ i. events b i t) parts ∙ (events-add b f.count rest t ∙ (ap (λ es. events b f.count t ++ es) (events-outcome b is_b rest (after b f.count t) o late)
            ∙ (append-nil (events b f.count t) ∙ f.same_events))) in
            shows-some b a t s k n o (is_a.comes (after a n s) o come) (ap b.outcome end ∙ late) come (sym all_events)

-- machines that correspond are alike
pub alike : {S T : Type 0} (a : Machine S) (b : Machine T) (R : S → T → Type 0) → IsMachine a → IsMachine b → Corresponds a b R
    → (s : S) (t : T) → R s t → Alike (run a s) (run b t) (a.size + b.size)
alike a b R is_a is_b c s t r = record {
  forward = λ k. forward a b R is_a is_b c (a.size + b.size) (omega arith) k s t r;
  backward = λ k. backward a b R is_a is_b c (a.size + b.size) (omega arith) k s t r;
}

-- steps of c that do what so many going steps of b do
record Joined {T U : Type 0} (b : Machine T) (c : Machine U) (Q : T → U → Type 0) (steps : ℕ) (t : T) (u : U) : Type 0 where
  count : ℕ
  going : IsGoing c count u
  same_events : events c count u ≡ events b steps t
  same_jumps : jumps_in c count u ≡ jumps_in b steps t
  related : Q (after b steps t) (after c count u)

-- a list of steps of b, each a list of steps of c
join-steps : {T U : Type 0} (b : Machine T) (c : Machine U) (Q : T → U → Type 0) → Corresponds b c Q → (count : ℕ) (t : T) (u : U) → IsGoing b count t → Q t u
    → Joined b c Q count t u
join-steps b c Q second zero t u going q = record { count = 0; going = tt; same_events = refl; same_jumps = refl; related = q }
join-steps {T} {U} b c Q second (suc count) t u going q =
    let m = second.steps t u q going.0 in
    let j = join-steps b c Q second count (b.next t) (after c m.count u) going.1 m.related in
    let At : U → Type 0 = λ x. Q (after b count (b.next t)) x in
    record {
      count = m.count + j.count;
      going = IsGoing-add c m.count j.count u m.going j.going;
      same_events = events-add c m.count j.count u ∙ (ap (λ es. es ++ events c j.count (after c m.count u)) m.same_events ∙ ap (λ es. option_to_list (b.emits t) ++ es) j.same_events);
      same_jumps = jumps_in-add c m.count j.count u ∙ (ap (λ n. n + jumps_in c j.count (after c m.count u)) m.same_jumps ∙ ap (λ n. count_of (b.jumps t) + n) j.same_jumps);
      related = subst At (sym (after-add c m.count j.count u)) j.related;
    }

-- correspondences one behind the other are one
pub join : {S T U : Type 0} (a : Machine S) (b : Machine T) (c : Machine U) (R : S → T → Type 0) (Q : T → U → Type 0)
    → Corresponds a b R → Corresponds b c Q → Corresponds a c (λ s u. (t : T) × R s t × Q t u)
join a b c R Q first second = record {
  outcomes = λ s u r. first.outcomes s r.0 r.1 ∙ second.outcomes r.0 u r.2;
  steps = λ s u r none.
      let m = first.steps s r.0 r.1 none in
      let j = join-steps b c Q second m.count r.0 u m.going r.2 in
      record {
        count = j.count;
        going = j.going;
        same_events = j.same_events ∙ m.same_events;
        same_jumps = j.same_jumps ∙ m.same_jumps;
        related = (after b m.count r.0, m.related, j.related);
      };
}
