-- Reading one operand more, and reading pairs.
use Rattle.std.proofs.Common.{◌≡◌, ℕ, ◌<◌, ◌%◌, Bool, true, false, List, [], ◌∷◌, length, Ok, Err, refl, ap, ◌∙◌, arith}
use Rattle.std.specs.Prelude.{if◌then◌else◌, Option}
use Rattle.spv_codec.specs.declared.operands.OperandFault.TheVariants.{Misfit, HighBits}
use Rattle.spv_codec.specs.declared.operands.OperandError.{OperandError}
use Rattle.spv_codec.specs.declared.operands.OperandError.TheVariants.{NoMemory, Fault}
use Rattle.spv_codec.specs.Operands.{Reading, and_then, IsRead, read_word, read_number, read_pairs, read_cases, read_wide_cases, read_narrow_cases, is_wide, fits_width}

-- words in pairs, one behind the other
pub read_pairs-even : (words : List ℕ) → length words % 2 ≡ 0 → read_pairs words ≡ Ok []
read_pairs-even [] even = refl
read_pairs-even (first ∷ []) even = absurd (omega arith)
read_pairs-even (first ∷ second ∷ rest) even = read_pairs-even rest (omega arith)

pub read_pairs-odd : (words : List ℕ) → length words % 2 ≡ 1 → read_pairs words ≡ Err Misfit
read_pairs-odd [] odd = absurd (omega arith)
read_pairs-odd (first ∷ []) odd = refl
read_pairs-odd (first ∷ second ∷ rest) odd = read_pairs-odd rest (omega arith)

-- a call's fault is that of what is read with it
pub IsRead-fault : {A B : Type 0} (shown : A → List ℕ) (other : B → List ℕ) (error : OperandError) (reading whole : Reading) (next : List ℕ → Reading)
    → IsRead shown (Err error) reading → whole ≡ and_then reading next → IsRead other (Err error) whole
IsRead-fault shown other NoMemory reading whole next is same = tt
IsRead-fault shown other (Fault fault) reading whole next is same = same ∙ ap (λ r. and_then r next) is

-- a number, an id, and the cases behind
pub read_cases-step : (width : Option ℕ) (words : List ℕ) → 0 < length words
    → read_cases width words ≡ and_then (read_number width words) (λ rest. and_then (read_word rest) (read_cases width))
read_cases-step width words some = by_width (is_wide width) refl words some
  where
    one : (fits : Bool) (rest : List ℕ) → (if fits then Err Misfit else Err HighBits) ≡ and_then (if fits then Ok [] else Err HighBits) (λ r. and_then (read_word r) (read_cases width))
    one true rest = refl
    one false rest = refl

    two : (wide : Bool) → is_wide width ≡ wide → wide ≡ false → (fits : Bool) (id : ℕ) (rest : List ℕ)
        → (if fits then read_narrow_cases width rest else Err HighBits) ≡ and_then (if fits then Ok (id ∷ rest) else Err HighBits) (λ r. and_then (read_word r) (read_cases width))
    two wide e n true id rest = rw (e ∙ n) refl
    two wide e n false id rest = refl

    by_width : (wide : Bool) → is_wide width ≡ wide → (ws : List ℕ) → 0 < length ws
        → (if wide then read_wide_cases ws else read_narrow_cases width ws)
        ≡ and_then (read_number width ws) (λ rest. and_then (read_word rest) (read_cases width))
    by_width true e [] s = absurd (omega arith)
    by_width true e (low ∷ []) s = rw e refl
    by_width true e (low ∷ high ∷ []) s = rw e refl
    by_width true e (low ∷ high ∷ id ∷ rest) s = rw (e, e) refl
    by_width false e [] s = absurd (omega arith)
    by_width false e (number ∷ []) s = rw e (one (fits_width width number) [])
    by_width false e (number ∷ id ∷ rest) s = rw e (two (is_wide width) refl e (fits_width width number) id rest)

-- what is behind the cases is what is behind those that are left
pub read_cases-more : (width : Option ℕ) (all words mid rest : List ℕ) → read_cases width all ≡ read_cases width words → 0 < length words
    → read_number width words ≡ Ok mid → read_word mid ≡ Ok rest → read_cases width all ≡ read_cases width rest
read_cases-more width all words mid rest before some number id =
    before ∙ (read_cases-step width words some
    ∙ (ap (λ r. and_then r (λ after. and_then (read_word after) (read_cases width))) number
    ∙ ap (λ r. and_then r (read_cases width)) id))
