-- What is told is what comes first.
use Rattle.std.proofs.Common.{◌≡◌, ℕ, zero, suc, ◌<◌, ◌≤◌, Bool, true, false, List, [], ◌∷◌, length, get_or, All, Some, None, ap, refl, arith, subst, inl, inr}
use Rattle.std.specs.Prelude.{Option, MatchOption, Contains, Any, min, ◌⊎◌, if◌then◌else◌}
use Rattle.std.proofs.lemmas.Bool.{cases_lt}
use Rattle.std.proofs.lemmas.Bool.Decides.{nat_tests}
use Rattle.rule_order.specs.declared.breaks.Break.{Break}
use Rattle.rule_order.specs.Breaks.{RulePlaces, is_before, earlier, break_at, least, least_with, first_refusal, IsFirst}
use Rattle.rule_order.specs.Laws.{FirstBreakIsFirst, LeastIsLeast}

empty-all : {A : Type 0} (P : A → Type 0) (xs : List A) → xs ≡ [] → All P xs
empty-all P [] e = λ k d lt. absurd (omega arith)
empty-all P (x ∷ xs) e = λ k d lt. absurd (omega (arith, ap length e))

all-more : {A : Type 0} (P : A → Type 0) (x : A) (xs : List A) → P x → All P xs → All P (x ∷ xs)
all-more P x xs here there zero d lt = here
all-more P x xs here there (suc k) d lt = there k d (omega arith)

contains-more : {A : Type 0} (x y : A) (xs : List A) → Contains xs y → Contains (x ∷ xs) y
contains-more x y xs h = (suc h.0, omega (arith, h.1), h.2)

record LeastOf (places : List ℕ) (place : ℕ) : Type 0 where
  contained : Contains places place
  below : All (λ other. place ≤ other) places

least-more : (x : ℕ) (xs : List ℕ) (o : Option ℕ) → MatchOption o (xs ≡ []) (LeastOf xs) → LeastOf (x ∷ xs) (least_with x o)
least-more x xs None e = record { contained = (0, omega arith, refl); below = all-more (λ other. x ≤ other) x xs (omega arith) (empty-all (λ other. x ≤ other) xs e) }
least-more x xs (Some q) h = by_less (cases_lt q x)
  where
    by_less : (q < x) ⊎ (x ≤ q) → LeastOf (x ∷ xs) (min x q)
    by_less (inl lt) =
        let is : q ≡ min x q = omega arith in
        let P : ℕ → Type 0 = λ n. LeastOf (x ∷ xs) n in
        subst P is (record { contained = contains-more x q xs h.contained; below = all-more (λ other. q ≤ other) x xs (omega arith) h.below })
    by_less (inr le) =
        let is : x ≡ min x q = omega arith in
        let P : ℕ → Type 0 = λ n. LeastOf (x ∷ xs) n in
        subst P is (record { contained = (0, omega arith, refl); below = all-more (λ other. x ≤ other) x xs (omega arith) (λ k d lt. omega (arith, h.below k d lt)) })

least-of : (places : List ℕ) → MatchOption (least places) (places ≡ []) (LeastOf places)
least-of [] = refl
least-of (x ∷ xs) = least-more x xs (least xs) (least-of xs)

pub least-is : LeastIsLeast
least-is places = by_option (least places) (least-of places)
  where
    by_option : (o : Option ℕ) → MatchOption o (places ≡ []) (LeastOf places)
        → MatchOption o (places ≡ []) (λ place. Contains places place × All (λ other. place ≤ other) places)
    by_option None e = e
    by_option (Some p) h = (h.contained, h.below)

not_before-trans : (a b c : Break) → is_before a b ≡ false → is_before b c ≡ false → is_before a c ≡ false
not_before-trans a b c first second = grind (arith, nat_tests)

before-asym : (a b : Break) → is_before a b ≡ true → is_before b a ≡ false
before-asym a b before = grind (arith, nat_tests)

not_before-le : (rule place other : ℕ) → place ≤ other → is_before (record { rule = rule; place = other }) (record { rule = rule; place = place }) ≡ false
not_before-le rule place other le = grind (arith, nat_tests)

-- no break of a rule comes before one at its least place
rule-first : (r : RulePlaces) (place : ℕ) → LeastOf r.places place
    → All (λ other. is_before (record { rule = r.rule; place = other }) (record { rule = r.rule; place = place }) ≡ false) r.places
rule-first r place h k d lt = not_before-le r.rule place (get_or r.places k d) (h.below k d lt)

abbrev NoneBefore : Break → RulePlaces → Type 0
NoneBefore told r = All (λ place. is_before (record { rule = r.rule; place = place }) told ≡ false) r.places

any-more : (told : Break) (r : RulePlaces) (rs : List RulePlaces) → Any (λ x. (x.rule ≡ told.rule) × Contains x.places told.place) rs
    → Any (λ x. (x.rule ≡ told.rule) × Contains x.places told.place) (r ∷ rs)
any-more told r rs h = (suc h.0, h.1, omega (arith, h.2), h.3, h.4)

-- one rule before others
first-more : (r : RulePlaces) (rs : List RulePlaces) (p : Option ℕ) (rest : Option Break) → MatchOption p (r.places ≡ []) (LeastOf r.places)
    → MatchOption rest (All (λ x. x.places ≡ []) rs) (IsFirst rs)
    → MatchOption (earlier (break_at r.rule p) rest) (All (λ x. x.places ≡ []) (r ∷ rs)) (IsFirst (r ∷ rs))
first-more r rs None None none nones = all-more (λ x. x.places ≡ []) r rs none nones
first-more r rs None (Some b) none first =
    record {
      broken = any-more b r rs first.broken;
      first = all-more (NoneBefore b) r rs (empty-all (λ place. is_before (record { rule = r.rule; place = place }) b ≡ false) r.places none) first.first;
    }
first-more r rs (Some place) None h nones =
    record {
      broken = (0, r, omega arith, refl, (refl, h.contained));
      first = all-more (NoneBefore (record { rule = r.rule; place = place })) r rs (rule-first r place h)
          (λ k d lt. empty-all (λ other. is_before (record { rule = (get_or rs k d).rule; place = other }) (record { rule = r.rule; place = place }) ≡ false) (get_or rs k d).places (nones k d lt));
    }
first-more r rs (Some place) (Some b) h first = by_before (is_before b here) refl
  where
    here : Break
    here = record { rule = r.rule; place = place }

    by_before : (t : Bool) → is_before b here ≡ t → MatchOption (if t then Some b else Some here) (All (λ x. x.places ≡ []) (r ∷ rs)) (IsFirst (r ∷ rs))
    by_before true e =
        record {
          broken = any-more b r rs first.broken;
          first = all-more (NoneBefore b) r rs
              (λ k d lt. not_before-trans (record { rule = r.rule; place = get_or r.places k d }) here b (rule-first r place h k d lt) (before-asym b here e))
              first.first;
        }
    by_before false e =
        record {
          broken = (0, r, omega arith, refl, (refl, h.contained));
          first = all-more (NoneBefore here) r rs (rule-first r place h)
              (λ k d lt. λ i f below. not_before-trans (record { rule = (get_or rs k d).rule; place = get_or (get_or rs k d).places i f }) b here (first.first k d lt i f below) e);
        }

pub first-is : FirstBreakIsFirst
first-is [] = λ k d lt. absurd (omega arith)
first-is (r ∷ rs) = first-more r rs (least r.places) (first_refusal rs) (least-of r.places) (first-is rs)
