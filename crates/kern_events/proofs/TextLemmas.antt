-- Numbers with commas between them
use Rattle.std.proofs.Common.{◌≡◌, ℕ, ◌+◌, ◌<◌, List, [], ◌∷◌, ◌++◌, map, length, take, get_or, refl, sym, ap, ◌∙◌, arith, append_assoc}
use Rattle.std.specs.Prelude.{codes, ◌==◌, if◌then◌else◌}
use Rattle.std.specs.List.{join_with_byte}
use Rattle.std.specs.Fmt.{decimal}
use Rattle.std.proofs.lemmas.List.{take_more, length-take-le}
use Rattle.std.proofs.lemmas.List.{map-append}
use Rattle.std.proofs.lemmas.Bool.Decides.{nat_tests}
use Rattle.kern_events.specs.Texts.{numbers_text}

join-push : (x : List ℕ) (xs : List (List ℕ)) (y : List ℕ) → join_with_byte 44 (x ∷ (xs ++ y ∷ [])) ≡ join_with_byte 44 (x ∷ xs) ++ (44 ∷ y)
join-push x [] y = refl
join-push x (z ∷ xs) y =
    ap (λ t. x ++ (44 ∷ t)) (join-push z xs y) ∙ sym (append_assoc x (44 ∷ join_with_byte 44 (z ∷ xs)) (44 ∷ y))

-- nothing is written yet
pub numbers_text-nil : numbers_text [] ≡ []
unfolding numbers_text
numbers_text-nil = refl

no_comma : (i : ℕ) → i ≡ 0 → (if i == 0 then [] else codes ",") ≡ []
no_comma i e = grind (arith, nat_tests)

a_comma : (i : ℕ) → 0 < i → (if i == 0 then [] else codes ",") ≡ codes ","
a_comma i h = grind (arith, nat_tests)

numbers_text-push : (xs : List ℕ) (y i : ℕ) → length xs ≡ i → numbers_text (xs ++ y ∷ []) ≡ numbers_text xs ++ ((if i == 0 then [] else codes ",") ++ decimal y)
unfolding numbers_text
numbers_text-push [] y i e = sym (ap (λ c. c ++ decimal y) (no_comma i (sym e)))
numbers_text-push (x ∷ xs) y i e =
    ap (λ ds. join_with_byte 44 (decimal x ∷ ds)) (map-append decimal xs (y ∷ []))
    ∙ join-push (decimal x) (map decimal xs) (decimal y)
    ∙ sym (ap (λ c. join_with_byte 44 (decimal x ∷ map decimal xs) ++ (c ++ decimal y)) (a_comma i (omega arith)))

-- one number more is written
pub numbers_step : (numbers : List ℕ) (i number : ℕ) (old comma piece shown new : List ℕ) → i < length numbers → old ≡ numbers_text (take i numbers) → comma ≡ (if i == 0 then [] else codes ",") → number ≡ get_or numbers i 0 → piece ≡ comma ++ decimal number → shown ≡ piece → new ≡ old ++ shown → new ≡ numbers_text (take (i + 1) numbers)
numbers_step numbers i number old comma piece shown new inside old_is comma_is number_is piece_is shown_is new_is =
    let count : length (take i numbers) ≡ i = length-take-le i numbers (omega arith) in
    new_is
    ∙ ap (λ p. old ++ p) (shown_is ∙ piece_is ∙ ap (λ c. c ++ decimal number) comma_is ∙ ap (λ n. (if i == 0 then [] else codes ",") ++ decimal n) number_is)
    ∙ ap (λ o. o ++ ((if i == 0 then [] else codes ",") ++ decimal (get_or numbers i 0))) old_is
    ∙ sym (numbers_text-push (take i numbers) (get_or numbers i 0) i count)
    ∙ ap numbers_text (sym (take_more numbers i 0 inside))
