-- Labels of blocks as they are read (LLVM 14, Functions; Identifiers).
use Rattle.std.specs.Prelude.{◌≡◌, ℕ, ◌⊎◌, ◌-◌, List, take, length, slice_get}
use Rattle.ll_tokens.specs.declared.kinds.TokenKind.TheVariants.{Label}
use Rattle.ll_tree.specs.declared.name.Name.{Name}
use Rattle.ll_tree.specs.declared.name.NameKind.TheVariants.{Local as LocalName}
use Rattle.ll_tree.specs.declared.name.NameText.{NameText}
use Rattle.ll_parser.specs.GrammarFunctions.{IsNumbered, next_behind}
use Rattle.ll_parser.specs.NameReading.{DerivesNoneWith, any_of}
use Rattle.ll_parser.specs.Productions.{Production, token}
use Rattle.ll_parser.specs.Reading.{EndsNowhere}
use Rattle.ll_parser.specs.Spellings.{Spells}
use Rattle.ll_operands.specs.Parts.{Part, any, optional}
use Rattle.ll_heads.specs.Params.{first_place}

-- the name of a block, less its `:`
abbrev pub written_label : List NameText → ℕ → Production
written_label names number = token Label (λ lexeme. Spells names LocalName (take (length lexeme.text - 1) lexeme.text) number)

-- the name of a block at the place of its first token, which is the next number where no label stands
abbrev pub label_here : ℕ → List NameText → Name → Production
label_here next names name tokens rest =
    (first_place tokens ≡ name.byte) × (written_label names name.number tokens rest ⊎ (IsNumbered names name.number next × (tokens ≡ rest) × EndsNowhere (any_of Label) tokens))

-- the same with the next number behind it
abbrev pub numbered_label : ℕ → ℕ → List NameText → Name → Production
numbered_label next end names name tokens rest = label_here next names name tokens rest × (end ≡ next_behind names (slice_get names name.number) next)

-- a label, whose digits are refused by rule 4
abbrev pub written_label_part : Part
written_label_part = record {
  begins = any written_label;
  stops = λ tokens refusal. DerivesNoneWith written_label tokens × (refusal ≡ record { rule = 4; left = length tokens });
}

abbrev pub block_label_part : Part
block_label_part = optional (any_of Label) written_label_part
