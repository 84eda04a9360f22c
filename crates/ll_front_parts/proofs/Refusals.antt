-- Other tokens that are the same up to the place of a refusal are refused there.
use Rattle.std.proofs.Common.{◌≡◌, ℕ, suc, ◌+◌, ◌-◌, List, [], ◌∷◌, ◌++◌, append_assoc, length, take, drop, refl, sym, ap, ◌∙◌, subst, arith}
use Rattle.std.proofs.lemmas.List.{length-append, take-append-drop}
use Rattle.ll_tokens.specs.Tokens.{Lexeme}
use Rattle.ll_operands.specs.Parts.{Part}
use Rattle.ll_front_parts.specs.Laws.{Stays}
use Rattle.ll_front_parts.proofs.Fronts.{IsLocal, Settled, Sight}

taken : (front behind : List Lexeme) (at : Lexeme) → take (suc (length front)) (front ++ at ∷ behind) ≡ front ++ at ∷ []
taken [] behind at = refl
taken (x ∷ front) behind at = ap (λ ts. x ∷ ts) (taken front behind at)

others : (n : ℕ) (tokens other front behind : List Lexeme) (at : Lexeme) → tokens ≡ front ++ at ∷ behind → n ≡ length front → take (n + 1) other ≡ take (n + 1) tokens → other ≡ front ++ at ∷ drop (n + 1) other
others n tokens other front behind at are is same =
    let count : n + 1 ≡ suc (length front) = omega arith in
    let here : take (n + 1) other ≡ front ++ at ∷ [] = same ∙ ap (λ ts. take (n + 1) ts) are ∙ ap (λ k. take k (front ++ at ∷ behind)) count ∙ taken front behind at in
    sym (take-append-drop (n + 1) other) ∙ ap (λ ts. ts ++ drop (n + 1) other) here ∙ append_assoc front (at ∷ []) (drop (n + 1) other)

pub local_stays : (sight : Sight) (p : Part) → IsLocal sight p → Stays p
local_stays sight p l tokens other refusal d less same =
    let s : Settled p.stops tokens refusal = l.settles tokens refusal d less in
    let n : ℕ = length tokens - refusal.left in
    let long : length tokens ≡ length s.front + length (s.at ∷ s.behind) = ap length s.are ∙ length-append s.front (s.at ∷ s.behind) in
    let is : n ≡ length s.front = omega (arith, s.place, long) in
    let whole : other ≡ s.front ++ s.at ∷ drop (n + 1) other = others n tokens other s.front s.behind s.at s.are is same in
    let left : length other ≡ length s.front + length (s.at ∷ drop (n + 1) other) = ap length whole ∙ length-append s.front (s.at ∷ drop (n + 1) other) in
    let place : suc (length (drop (n + 1) other)) ≡ length other - n = omega (arith, left, is) in
    subst (λ k. p.stops other (record { rule = refusal.rule; left = k })) place
    (subst (λ ts. p.stops ts (record { rule = refusal.rule; left = suc (length (drop (n + 1) other)) })) (sym whole) (s.still (drop (n + 1) other)))
