-- The text that an item is spelled with is read back.
use Rattle.std.proofs.Common.{◌≡◌, ℕ, zero, suc, ◌+◌, ◌*◌, ◌/◌, ◌<◌, map, List, [], ◌++◌, length, Some, refl, ap, ap₂, sym, ◌∙◌, append-nil, arith}
use Rattle.std.specs.List.{range_with_len}
use Rattle.std.proofs.lemmas.List.{drop_at}
use Rattle.spv_words.specs.Strings.{BeginsString}
use Rattle.spv_words.proofs.StringLaws.{string-reads_back}
use Rattle.spv_codec.proofs.ReadStrings.{read_string-BeginsString}
use Rattle.spv_module.specs.declared.module.DebugString.{DebugString}
use Rattle.spv_module.specs.declared.module.Entry.{Entry}
use Rattle.spv_module.specs.declared.module.Extension.{Extension}
use Rattle.spv_module.specs.declared.module.Import.{Import}
use Rattle.spv_module.specs.Texts.{text_words, word_at}
use Rattle.spv_names.specs.Uses.{behind_reading}
use Rattle.spv_build.specs.Entries.{behind_text}
use Rattle.spv_build.specs.Items.{text_of}
use Rattle.spv_build.proofs.TextLemmas.{text-read}
use Rattle.to_spirv.proofs.TextLemmas.{text-are_words}
use Rattle.to_spirv.proofs.Utf8Lemmas.{utf8-bytes}
use Rattle.spv_round_trip.specs.Laws.{TextsAreReadBack}
use Rattle.spv_round_trip.specs.Writable.{IsText}

some-counted : (f : ℕ → ℕ) (rest : List ℕ) (count : ℕ) → 0 < count → 0 < length (map f (range_with_len 0 count) ++ rest)
some-counted f rest zero some = absurd (omega (arith, some))
some-counted f rest (suc count) some = omega arith

some-words : (text rest : List ℕ) → 0 < length (text_words text ++ rest)
some-words text rest = some-counted (λ k. word_at text (4 * k)) rest (length text / 4 + 1) (omega arith)

begun : (text rest : List ℕ) → IsText text → BeginsString (text_words text ++ rest) text (length (text_words text))
begun text rest is = string-reads_back text (text_words text) rest is.utf8 is.no_zero (text-are_words text (utf8-bytes text is.utf8))

text-front : (text rest : List ℕ) → IsText text → text_of (text_words text ++ rest) ≡ text
text-front text rest is = text-read (text_words text ++ rest) text (length (text_words text)) (some-words text rest) (begun text rest is)

text-whole : (text : List ℕ) → IsText text → text_of (text_words text) ≡ text
text-whole text is = ap text_of (sym (append-nil (text_words text))) ∙ text-front text [] is

behind-front : (text rest : List ℕ) → IsText text → behind_text (text_words text ++ rest) ≡ rest
unfolding behind_text
behind-front text rest is =
    ap behind_reading (read_string-BeginsString (text_words text ++ rest) text (length (text_words text)) (some-words text rest) (begun text rest is))
    ∙ drop_at (text_words text) rest (length (text_words text)) refl

pub texts-are-back : TextsAreReadBack
texts-are-back = record {
  extensions = λ extension is. ap (λ text. Some (let e : Extension = record { name = text; place = extension.place } in e)) (text-whole extension.name is);
  imports = λ set is. ap (λ text. Some (let i : Import = record { id = set.id; name = text; place = set.place } in i)) (text-whole set.name is);
  strings = λ string is. ap (λ text. Some (let s : DebugString = record { id = string.id; text = text; place = string.place } in s)) (text-whole string.text is);
  entries = λ entry is.
      ap₂ (λ name behind. Some (let e : Entry = record { function = entry.function; name = name; interface = behind; modes = []; place = entry.place } in e))
      (text-front entry.name entry.interface is) (behind-front entry.name entry.interface is);
}
