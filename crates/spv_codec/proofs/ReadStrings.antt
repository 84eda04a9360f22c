-- The string that words begin, found at their first zero byte.
use Rattle.std.proofs.Common.{◌≡◌, ℕ, ◌+◌, ◌-◌, ◌*◌, ◌/◌, ◌%◌, ◌<◌, Bool, true, false, List, [], ◌∷◌, ◌++◌, length, take, drop, get_or, replicate, Ok, Err, sym, ◌∙◌, ap, refl, arith}
use Rattle.std.specs.Prelude.{◌==◌, if◌then◌else◌}
use Rattle.std.specs.List.{position_or_len}
use Rattle.std.specs.Str.{is_utf8}
use Rattle.std.proofs.lemmas.Str.{IsUtf8-from_is_utf8, is_utf8-from_IsUtf8}
use Rattle.std.proofs.lemmas.Slice.Eq.{bytes_eq-Decides}
use Rattle.std.proofs.lemmas.Bool.{eqb-false, ne_eqb, eq-eqb, and_parts, and_from, leb-true, le-leb}
use Rattle.std.proofs.lemmas.List.{take_at, get_or-take, length-take}
use Rattle.std.proofs.lemmas.List.Sums.{position_or_len_is, fails_before_first}
use Rattle.std.proofs.Math.ListN.{get_or-append}
use Rattle.spv_words.specs.declared.words.Order.TheVariants.{Little}
use Rattle.spv_words.specs.Words.{words_bytes}
use Rattle.spv_words.specs.Strings.{BeginsString, terminated}
use Rattle.spv_words.proofs.StringLemmas.{bytes-string, zero-behind, longer-behind}
use Rattle.spv_words.proofs.StringLaws.{count-string}
use Rattle.spv_codec.specs.declared.operands.OperandFault.TheVariants.{BadString}
use Rattle.spv_codec.specs.Operands.{string_text, string_len, begins_string, read_string}

-- the text of a string stands before the first zero byte
string_text-BeginsString : (words text : List ℕ) (used : ℕ) → BeginsString words text used → string_text words ≡ text
string_text-BeginsString words text used string =
    let bytes = words_bytes Little words in
    let tail = drop (4 * used) bytes in
    let n = 4 - length text % 4 in
    let some : 0 < n = omega arith in
    let parts = bytes-string words text used string in
    let longer = longer-behind bytes text tail n parts some in
    let before : (k : ℕ) → k < length text → (get_or bytes k 0 == 0) ≡ false =
    λ k lt. ne_eqb (get_or bytes k 0) 0 (λ zero. string.no_zero k 0 lt (sym (get_or-append text (replicate n 0 ++ tail) 0 k lt) ∙ ap (λ xs. get_or xs k 0) (sym parts) ∙ zero)) in
    let at : length text < length bytes → (get_or bytes (length text) 0 == 0) ≡ true =
    λ _. eq-eqb (get_or bytes (length text) 0) 0 (zero-behind bytes text tail n parts some) in
    let place : position_or_len (λ byte. byte == 0) bytes ≡ length text =
    position_or_len_is (λ byte. byte == 0) bytes (length text) 0 (omega arith) before at in
    ap (λ k. take k bytes) place ∙ (ap (take (length text)) parts ∙ take_at text (replicate n 0 ++ tail) (length text) refl)

string_len-BeginsString : (words text : List ℕ) (used : ℕ) → BeginsString words text used → string_len words ≡ used
string_len-BeginsString words text used string =
    let same = string_text-BeginsString words text used string in
    let count = count-string words text used string in
    ap (λ t. length t / 4 + 1) same ∙ omega arith

begins_string-BeginsString : (words text : List ℕ) (used : ℕ) → BeginsString words text used → begins_string words ≡ true
begins_string-BeginsString words text used string =
    let same = string_text-BeginsString words text used string in
    let len = string_len-BeginsString words text used string in
    and_from _ _
    (and_from _ _ (le-leb (string_len words) (length words) (omega (arith, string.within)))
    (ap is_utf8 same ∙ is_utf8-from_IsUtf8 text string.utf8))
    ((bytes_eq-Decides (words_bytes Little (take (string_len words) words)) (terminated (string_text words))).1
    (ap (λ k. words_bytes Little (take k words)) len ∙ (string.spelled ∙ ap terminated (sym same))))

pub BeginsString-begins_string : (words : List ℕ) → begins_string words ≡ true → BeginsString words (string_text words) (string_len words)
BeginsString-begins_string words begins =
    let bytes = words_bytes Little words in
    let parts = and_parts _ _ begins in
    let front = and_parts _ _ parts.0 in
    record {
      within = leb-true (string_len words) (length words) front.0;
      spelled = (bytes_eq-Decides (words_bytes Little (take (string_len words) words)) (terminated (string_text words))).0 parts.1;
      utf8 = IsUtf8-from_is_utf8 (string_text words) front.1;
      no_zero =
          λ k d lt zero.
          let place = position_or_len (λ byte. byte == 0) bytes in
          let below : k < place = omega (arith, length-take place bytes) in
          eqb-false (get_or bytes k d) 0 (fails_before_first (λ byte. byte == 0) bytes k d below) (sym (get_or-take place bytes k d below) ∙ zero);
    }

-- words that begin a string are read as it
pub read_string-BeginsString : (words text : List ℕ) (used : ℕ) → 0 < length words → BeginsString words text used
    → read_string words ≡ Ok (drop used words)
read_string-BeginsString [] text used some string = absurd (omega arith)
read_string-BeginsString (word ∷ rest) text used some string =
    rw (begins_string-BeginsString (word ∷ rest) text used string)
    (ap (λ k. Ok (drop k (word ∷ rest))) (string_len-BeginsString (word ∷ rest) text used string))

-- words that begin none are bad
pub read_string-bad : (words : List ℕ) → 0 < length words → ((text : List ℕ) (used : ℕ) → BeginsString words text used → ⊥)
    → read_string words ≡ Err BadString
read_string-bad [] some none = absurd (omega arith)
read_string-bad (word ∷ rest) some none = by_test (begins_string (word ∷ rest)) refl
  where
    by_test : (b : Bool) → begins_string (word ∷ rest) ≡ b → (if b then Ok (drop (string_len (word ∷ rest)) (word ∷ rest)) else Err BadString) ≡ Err BadString
    by_test true e = absurd (none _ _ (BeginsString-begins_string (word ∷ rest) e))
    by_test false e = refl
