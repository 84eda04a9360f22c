-- The highest rank so far tells whether a later section has been reached.
use Rattle.std.proofs.Common.{◌≡◌, ℕ, Bool, true, false, List, [], ◌∷◌, ◌++◌, Option, Some, None, refl, ap, sym, ◌∙◌, arith}
use Rattle.std.specs.Prelude.{◌||◌, nat_lt}
use Rattle.std.specs.List.{list_any}
use Rattle.std.proofs.lemmas.Bool.Decides.{nat_tests}
use Rattle.spv_codec.specs.declared.module.RawInst.{RawInst}
use Rattle.spv_sections.specs.Standing.{standing_of, begins_functions}
use Rattle.spv_sections.specs.SectionOrder.{rank_in, ranks, is_behind, is_later, risen}

-- the highest of some ranks
abbrev pub highest_of : ℕ → List (Option ℕ) → ℕ
highest_of highest [] = highest
highest_of highest (rank ∷ rest) = highest_of (risen highest rank) rest

pub highest-more : (highest : ℕ) (xs : List (Option ℕ)) (x : Option ℕ) → highest_of highest (xs ++ x ∷ []) ≡ risen (highest_of highest xs) x
highest-more highest [] x = refl
highest-more highest (y ∷ ys) x = highest-more (risen highest y) ys x

or-assoc : (a b c : Bool) → (a || b) || c ≡ (a || (b || c))
or-assoc true b c = refl
or-assoc false b c = refl

or-false : (a : Bool) → (a || false) ≡ a
or-false true = refl
or-false false = refl

pub ranks-more : (begun : Bool) (xs : List RawInst) (x : RawInst) → ranks begun (xs ++ x ∷ []) ≡ ranks begun xs ++ rank_in (begun || list_any begins_functions xs) (standing_of x) ∷ []
ranks-more begun [] x = ap (λ b. rank_in b (standing_of x) ∷ []) (sym (or-false begun))
ranks-more begun (y ∷ ys) x =
    ap (λ zs. rank_in begun (standing_of y) ∷ zs)
    (ranks-more (begun || begins_functions y) ys x ∙ ap (λ b. ranks (begun || begins_functions y) ys ++ rank_in b (standing_of x) ∷ []) (or-assoc begun (begins_functions y) (list_any begins_functions ys)))

behind-risen : (highest : ℕ) (other rank : Option ℕ) → is_behind (risen highest other) rank ≡ (is_behind highest rank || is_later rank other)
behind-risen highest None None = refl
behind-risen highest (Some other) None = refl
behind-risen highest None (Some rank) = sym (or-false (nat_lt rank highest))
behind-risen highest (Some other) (Some rank) = grind (arith, nat_tests)

any-behind : (highest : ℕ) (rank : Option ℕ) (xs : List (Option ℕ)) → is_behind (highest_of highest xs) rank ≡ (is_behind highest rank || list_any (is_later rank) xs)
any-behind highest rank [] = sym (or-false (is_behind highest rank))
any-behind highest rank (x ∷ xs) =
    any-behind (risen highest x) rank xs ∙ (ap (λ b. b || list_any (is_later rank) xs) (behind-risen highest x rank) ∙ or-assoc (is_behind highest rank) (is_later rank x) (list_any (is_later rank) xs))

behind-none : (rank : Option ℕ) → is_behind 0 rank ≡ false
behind-none None = refl
behind-none (Some rank) = grind (arith, nat_tests)

-- an instruction is behind one of a later section where its rank is behind the highest one
pub is-behind : (rank : Option ℕ) (xs : List (Option ℕ)) → is_behind (highest_of 0 xs) rank ≡ list_any (is_later rank) xs
is-behind rank xs = any-behind 0 rank xs ∙ ap (λ b. b || list_any (is_later rank) xs) (behind-none rank)
