-- Reading a list of numbers byte by byte
use Rattle.std.proofs.Common.{◌≡◌, ℕ, ◌+◌, ◌<◌, ◌≤◌, List, [], ◌∷◌, ◌++◌, length, take, drop, get_or, false, Option, Some, None, fold, refl, sym, ap, ◌∙◌, arith}
use Rattle.std.specs.Prelude.{option_and_then, option_map, ◌==◌, if◌then◌else◌}
use Rattle.std.proofs.lemmas.List.{take_more, take_all, take-take, take-append-drop}
use Rattle.std.proofs.lemmas.List.Sums.{fold-append}
use Rattle.std.proofs.lemmas.Bool.Decides.{nat_tests}
use Rattle.kern_events.specs.NumberLists.{Reading, with_byte, with_comma, with_digit, reading_of, numbers_in, ended, IsLongestBeginning}

-- nothing is read yet
pub reading_of-start : (text : List ℕ) → reading_of (take 0 text) ≡ Some (record { done = []; begun = None })
unfolding reading_of
reading_of-start text = refl

-- one byte more is read
pub reading_of-more : (text : List ℕ) (i : ℕ) (r : Reading) → i < length text → reading_of (take i text) ≡ Some r → reading_of (take (i + 1) text) ≡ with_byte r (get_or text i 0)
unfolding reading_of
reading_of-more text i r inside so_far =
    ap reading_of (take_more text i 0 inside)
    ∙ fold-append (λ reading byte. option_and_then (λ before. with_byte before byte) reading) (Some (record { done = []; begun = None })) (take i text) (get_or text i 0 ∷ [])
    ∙ ap (λ o. option_and_then (λ before. with_byte before (get_or text i 0)) o) so_far

-- what begins no list begins none with more behind it
fold-None : (text : List ℕ) → fold (λ reading byte. option_and_then (λ before. with_byte before byte) reading) None text ≡ None
fold-None [] = refl
fold-None (x ∷ xs) = fold-None xs

reading_of-None : (front back : List ℕ) → reading_of front ≡ None → reading_of (front ++ back) ≡ None
unfolding reading_of
reading_of-None front back none =
    fold-append (λ reading byte. option_and_then (λ before. with_byte before byte) reading) (Some (record { done = []; begun = None })) front back
    ∙ ap (λ o. fold (λ reading byte. option_and_then (λ before. with_byte before byte) reading) o back) none
    ∙ fold-None back

take-split : (xs : List ℕ) (m n : ℕ) → m ≤ n → take n xs ≡ take m xs ++ drop m (take n xs)
take-split xs m n le = sym (ap (λ front. front ++ drop m (take n xs)) (sym (take-take m n xs le)) ∙ take-append-drop m (take n xs))

-- a byte that no list has there
pub fault_at : (text : List ℕ) (i : ℕ) (r : Reading) → i < length text → reading_of (take i text) ≡ Some r → with_byte r (get_or text i 0) ≡ None → (numbers_in text ≡ None) × IsLongestBeginning text i
fault_at text i r inside so_far bad =
    let none = reading_of-more text i r inside so_far ∙ bad in
    let later : (longer : ℕ) → i < longer → reading_of (take longer text) ≡ None =
    λ longer past. ap reading_of (take-split text (i + 1) longer (omega arith)) ∙ reading_of-None (take (i + 1) text) (drop (i + 1) (take longer text)) none in
    let whole : reading_of text ≡ None = ap reading_of (sym (take_all (length text) text (omega arith))) ∙ later (length text) inside in (
      ap (option_and_then ended) whole,
      record {
        within = omega arith;
        begins = rw so_far refl;
        longest = λ longer past inside_text. later longer past;
      },
    )

-- a text that ends before a number
pub fault_at_end : (text : List ℕ) (i : ℕ) (r : Reading) → length text ≤ i → reading_of (take i text) ≡ Some r → r.begun ≡ None → (numbers_in text ≡ None) × IsLongestBeginning text (length text)
fault_at_end text i r past so_far empty =
    let whole : reading_of text ≡ Some r = ap reading_of (sym (take_all i text past)) ∙ so_far in (
      ap (option_and_then ended) whole ∙ ap (option_map (λ number. r.done ++ number ∷ [])) empty,
      record {
        within = omega arith;
        begins = rw (take_all (length text) text (omega arith), whole) refl;
        longest = λ longer past_end inside_text. absurd (omega arith);
      },
    )

-- a text that ends with a number
pub numbers_at_end : (text : List ℕ) (i n : ℕ) (r : Reading) (numbers : List ℕ) → length text ≤ i → reading_of (take i text) ≡ Some r → r.begun ≡ Some n → numbers ≡ r.done ++ n ∷ [] → numbers_in text ≡ Some numbers
numbers_at_end text i n r numbers past so_far last numbers_is =
    let whole : reading_of text ≡ Some r = ap reading_of (sym (take_all i text past)) ∙ so_far in
    ap (option_and_then ended) whole ∙ ap (option_map (λ number. r.done ++ number ∷ [])) last ∙ ap Some (sym numbers_is)

none_from : {A : Type 0} (o : Option A) → ((x : A) → o ≡ Some x → ⊥) → o ≡ None
none_from None no_value = refl
none_from (Some x) no_value = absurd (no_value x refl)

with_byte-comma : (done : List ℕ) (begun : Option ℕ) (byte : ℕ) → byte ≡ 44 → with_byte (record { done = done; begun = begun }) byte ≡ with_comma done begun
with_byte-comma done begun byte e = rw e refl

not_comma : (byte : ℕ) → (byte ≡ 44 → ⊥) → (byte == 44) ≡ false
not_comma byte other = grind (arith, nat_tests)

with_byte-digit : (done : List ℕ) (begun : Option ℕ) (byte : ℕ) → (byte ≡ 44 → ⊥) → with_byte (record { done = done; begun = begun }) byte ≡ option_map (λ number. record { done = done; begun = Some number }) (with_digit begun byte)
with_byte-digit done begun byte other =
    ap (λ t. if t then with_comma done begun else option_map (λ number. record { done = done; begun = Some number }) (with_digit begun byte)) (not_comma byte other)

-- a comma with no digits before it
pub fault_comma : (text bytes : List ℕ) (i : ℕ) (done : List ℕ) (begun : Option ℕ) → bytes ≡ text → i < length bytes → reading_of (take i bytes) ≡ Some (record { done = done; begun = begun }) → get_or bytes i 0 ≡ 44 → ((x : ℕ) → begun ≡ Some x → ⊥) → (numbers_in text ≡ None) × IsLongestBeginning text i
fault_comma text bytes i done begun same inside so_far comma no_digits =
    rw (← same) (fault_at bytes i (record { done = done; begun = begun }) inside so_far (with_byte-comma done begun (get_or bytes i 0) comma ∙ ap (with_comma done) (none_from begun no_digits)))

-- a byte that is no digit, or one too many
pub fault_digit : (text bytes : List ℕ) (i : ℕ) (done : List ℕ) (begun r : Option ℕ) → bytes ≡ text → i < length bytes → reading_of (take i bytes) ≡ Some (record { done = done; begun = begun }) → (get_or bytes i 0 ≡ 44 → ⊥) → r ≡ with_digit begun (get_or bytes i 0) → ((x : ℕ) → r ≡ Some x → ⊥) → (numbers_in text ≡ None) × IsLongestBeginning text i
fault_digit text bytes i done begun r same inside so_far other r_is no_digit =
    rw (← same) (fault_at bytes i (record { done = done; begun = begun }) inside so_far (with_byte-digit done begun (get_or bytes i 0) other ∙ ap (option_map (λ number. record { done = done; begun = Some number })) (sym r_is ∙ none_from r no_digit)))

-- a comma ends a number
pub read_comma : (bytes : List ℕ) (i n : ℕ) (done done' : List ℕ) (begun begun' : Option ℕ) → i < length bytes → reading_of (take i bytes) ≡ Some (record { done = done; begun = begun }) → get_or bytes i 0 ≡ 44 → begun ≡ Some n → done' ≡ done ++ n ∷ [] → begun' ≡ None → reading_of (take (i + 1) bytes) ≡ Some (record { done = done'; begun = begun' })
read_comma bytes i n done done' begun begun' inside so_far comma begun_is done_is begun_new =
    reading_of-more bytes i (record { done = done; begun = begun }) inside so_far
    ∙ with_byte-comma done begun (get_or bytes i 0) comma
    ∙ ap (with_comma done) begun_is
    ∙ sym (ap (λ d. Some (record { done = d; begun = begun' })) done_is ∙ ap (λ b. Some (record { done = done ++ n ∷ []; begun = b })) begun_new)

-- a digit goes on
pub read_digit : (bytes : List ℕ) (i n : ℕ) (done done' : List ℕ) (begun begun' : Option ℕ) → i < length bytes → reading_of (take i bytes) ≡ Some (record { done = done; begun = begun }) → (get_or bytes i 0 ≡ 44 → ⊥) → Some n ≡ with_digit begun (get_or bytes i 0) → done' ≡ done → begun' ≡ Some n → reading_of (take (i + 1) bytes) ≡ Some (record { done = done'; begun = begun' })
read_digit bytes i n done done' begun begun' inside so_far other digit_is done_is begun_new =
    reading_of-more bytes i (record { done = done; begun = begun }) inside so_far
    ∙ with_byte-digit done begun (get_or bytes i 0) other
    ∙ ap (option_map (λ number. record { done = done; begun = Some number })) (sym digit_is)
    ∙ sym (ap (λ d. Some (record { done = d; begun = begun' })) done_is ∙ ap (λ b. Some (record { done = done; begun = b })) begun_new)
