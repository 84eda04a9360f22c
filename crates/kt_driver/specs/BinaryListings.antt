-- The lines that list the instructions of a binary.
use Rattle.std.specs.Prelude.{◌≡◌, ℕ, List, [], ◌∷◌, ◌++◌, codes, unwrap_or}
use Rattle.std.specs.List.{flat_map}
use Rattle.std.specs.Int.{to_be_bytes, w32}
use Rattle.std.specs.Fmt.{decimal}
use Rattle.kern_events.specs.Texts.{hex_byte}
use Rattle.spv_words.specs.declared.words.Order.{Order}
use Rattle.spv_words.specs.declared.words.Order.TheVariants.{Little, Big}
use Rattle.spv_layout.specs.Forms.{name_at}
use Rattle.spv_codec.specs.declared.module.RawInst.{RawInst}
use Rattle.spv_codec.specs.declared.module.RawModule.{RawModule}
use Rattle.spv_codec.specs.Framing.{IsSpirv}

-- a word behind a blank, by eight lower-case hexadecimal digits
unfoldable pub word_text : ℕ → List ℕ
word_text word = 32 ∷ flat_map hex_byte (to_be_bytes w32 word)

unfoldable pub words_text : List ℕ → List ℕ
words_text words = flat_map word_text words

abbrev pub order_line : Order → List ℕ
order_line Little = codes "order little" ++ 10 ∷ []
order_line Big = codes "order big" ++ 10 ∷ []

-- the four words of the header behind the magic number
abbrev pub header_line : RawModule → List ℕ
header_line raw = codes "header" ++ (words_text (raw.version ∷ raw.generator ∷ raw.bound ∷ 0 ∷ []) ++ 10 ∷ [])

-- the word where an instruction begins, its name, and its operand words
abbrev pub inst_line : RawInst → List ℕ
inst_line inst = decimal inst.place ++ (codes ": " ++ (unwrap_or (name_at inst.op) [] ++ (words_text inst.operands ++ 10 ∷ [])))

abbrev pub binary_lines : RawModule → List ℕ
binary_lines raw = order_line raw.order ++ (header_line raw ++ flat_map inst_line raw.insts)

-- the bytes list the module that the input spells
pub record IsBinaryListing (input bytes : List ℕ) : Type 0 where
  pub raw : RawModule
  pub spirv : IsSpirv input raw
  pub lines : bytes ≡ binary_lines raw
