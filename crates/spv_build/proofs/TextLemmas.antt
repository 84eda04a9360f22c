-- The text that words begin with is the one that they are read as.
use Rattle.std.proofs.Common.{◌≡◌, ℕ, ◌<◌, Bool, true, false, List, [], ◌∷◌, length, drop, Ok, Err, refl, ap, sym, ◌∙◌, arith}
use Rattle.std.specs.Prelude.{if◌then◌else◌}
use Rattle.spv_words.specs.Strings.{BeginsString}
use Rattle.spv_words.proofs.StringLaws.{one-string}
use Rattle.spv_codec.specs.declared.operands.OperandFault.{OperandFault}
use Rattle.spv_codec.specs.declared.operands.OperandFault.TheVariants.{BadString}
use Rattle.spv_codec.specs.Operands.{Reading, begins_string, read_string, string_text, string_len}
use Rattle.spv_codec.proofs.ReadStrings.{BeginsString-begins_string, read_string-BeginsString, read_string-bad}
use Rattle.spv_build.specs.Entries.{behind_text}
use Rattle.spv_build.specs.Items.{text_by, text_of}

err_ok : {P : Type 0} (fault : OperandFault) (rest : List ℕ) → (let r : Reading = Err fault in r) ≡ Ok rest → P
err_ok fault rest e = cc

begins-read : (words rest : List ℕ) → read_string words ≡ Ok rest → begins_string words ≡ true
begins-read [] rest e = err_ok _ rest e
begins-read (word ∷ words) rest e = by_test (begins_string (word ∷ words)) e
  where
    by_test : (b : Bool) → (let r : Reading = if b then Ok (drop (string_len (word ∷ words)) (word ∷ words)) else Err BadString in r) ≡ Ok rest → b ≡ true
    by_test true h = refl
    by_test false h = err_ok BadString rest h

pub text-empty : (words : List ℕ) → length words ≡ 0 → text_of words ≡ []
unfolding text_of
text-empty [] e = refl
text-empty (word ∷ rest) e = absurd (omega (arith, e))

pub text-bad : (words : List ℕ) → 0 < length words → ((text : List ℕ) (used : ℕ) → BeginsString words text used → ⊥) → text_of words ≡ []
unfolding text_of
text-bad words some none = ap (text_by words) (read_string-bad words some none)

pub text-read : (words text : List ℕ) (used : ℕ) → 0 < length words → BeginsString words text used → text_of words ≡ text
unfolding text_of
text-read words text used some string =
    let read = read_string-BeginsString words text used some string in
    let whole = BeginsString-begins_string words (begins-read words (drop used words) read) in
    ap (text_by words) read ∙ sym (one-string words text (string_text words) used (string_len words) string whole).0

pub behind-empty : (words : List ℕ) → length words ≡ 0 → behind_text words ≡ []
unfolding behind_text
behind-empty [] e = refl
behind-empty (word ∷ rest) e = absurd (omega (arith, e))
