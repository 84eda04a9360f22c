-- Two lists that are merged from their ends, each turned around.
use Rattle.std.proofs.Common.{◌≡◌, ◌+◌, ◌<◌, true, false, List, [], ◌∷◌, ◌++◌, Option, Some, None, MatchOption, OnSome, length, length-append, reverse, refl, ap, ◌∙◌, arith}
use Rattle.std.proofs.lemmas.Bool.{false≢true, true≢false}
use Rattle.std.proofs.lemmas.List.{reverse-append}
use Rattle.spv_module.specs.declared.declared.Declared.{Declared}
use Rattle.spv_module.specs.Sections.{merged, second_first}

second_next : (left right : List Declared) (next : Declared) → second_first left (next ∷ right) ≡ true → merged left (next ∷ right) ≡ next ∷ merged left right
second_next [] right next e = refl
second_next (first ∷ left) right next e = rw e refl

first_next : (left right : List Declared) (next : Declared) → second_first (next ∷ left) right ≡ false → merged (next ∷ left) right ≡ next ∷ merged left right
first_next left [] next e = refl
first_next left (other ∷ right) next e = rw e refl

none_left : (left : List Declared) → second_first left [] ≡ true → merged left [] ≡ []
none_left [] e = refl
none_left (first ∷ left) e = absurd (false≢true e)

-- the second list gives the next one
pub right_popped : (left old new : List Declared) (r : Option Declared) → second_first (reverse left) (reverse old) ≡ true → MatchOption r ((old ≡ []) × (new ≡ [])) (λ last. old ≡ new ++ last ∷ []) → MatchOption r (merged (reverse left) (reverse old) ≡ []) (λ next. merged (reverse left) (reverse old) ≡ next ∷ merged (reverse left) (reverse new))
right_popped left old new None e popped = rw popped.0 (none_left (reverse left) (rw popped.0 at e))
right_popped left old new (Some next) e popped =
    let turned : reverse old ≡ next ∷ reverse new = ap reverse popped ∙ reverse-append new (next ∷ []) in
    rw turned (second_next (reverse left) (reverse new) next (rw turned at e))

-- the first list gives the next one
pub left_popped : (old new right : List Declared) (r : Option Declared) → second_first (reverse old) (reverse right) ≡ false → MatchOption r ((old ≡ []) × (new ≡ [])) (λ last. old ≡ new ++ last ∷ []) → MatchOption r (merged (reverse old) (reverse right) ≡ []) (λ next. merged (reverse old) (reverse right) ≡ next ∷ merged (reverse new) (reverse right))
left_popped old new right None e popped = absurd (true≢false (rw popped.0 at e))
left_popped old new right (Some next) e popped =
    let turned : reverse old ≡ next ∷ reverse new = ap reverse popped ∙ reverse-append new (next ∷ []) in
    rw turned (first_next (reverse new) (reverse right) next (rw turned at e))

-- what was popped is one less
pub right_less : (left old new : List Declared) (r : Option Declared) → MatchOption r ((old ≡ []) × (new ≡ [])) (λ last. old ≡ new ++ last ∷ []) → OnSome r (length left + length new < length left + length old)
right_less left old new None popped = tt
right_less left old new (Some next) popped = let counted = ap length popped ∙ length-append new (next ∷ []) in omega (arith, counted)

pub left_less : (old new right : List Declared) (r : Option Declared) → MatchOption r ((old ≡ []) × (new ≡ [])) (λ last. old ≡ new ++ last ∷ []) → OnSome r (length new + length right < length old + length right)
left_less old new right None popped = tt
left_less old new right (Some next) popped = let counted = ap length popped ∙ length-append new (next ∷ []) in omega (arith, counted)
