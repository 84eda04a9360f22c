-- The parts of an `alloca` (LLVM 14, `alloca`).
use Rattle.std.specs.Prelude.{◌≡◌, ℕ, ℤ, List, codes, length, Option, None, Some}
use Rattle.ll_tokens.specs.declared.kinds.TokenKind.TheVariants.{Int as IntToken}
use Rattle.ll_tokens.specs.Tokens.{Lexeme}
use Rattle.ll_tree.specs.declared.name.NameText.{NameText}
use Rattle.ll_tree.specs.declared.op.AllocaCount.{AllocaCount}
use Rattle.ll_parser.specs.GrammarInsts.{align, count}
use Rattle.ll_parser.specs.GrammarTypes.{number}
use Rattle.ll_parser.specs.GrammarValues.{IsInRange, bits_of_numbers, integer}
use Rattle.ll_parser.specs.Productions.{Production, ◌>>◌, if_there, token, word}
use Rattle.ll_parser.specs.Reading.{DerivesNone, EndsNowhere, number_rule}
use Rattle.ll_parser.specs.Spellings.{integer_value}
use Rattle.ll_types.specs.TypeParts.{ty_here}
use Rattle.ll_operands.specs.Parts.{Part, either, mark_part, number_part, operand_comma, optional, ◌then◌, type_part, type_then, word_part}
use Rattle.ll_operands.specs.Whole.{NoAlign}
use Rattle.ll_memory_ops.specs.declared.allocations.Extent.{Extent}
use Rattle.ll_memory_ops.specs.AccessParts.{align_here, align_part}

-- a number of an integer type of so many bits, or of another type
abbrev pub integer_of : Option ℕ → ℤ → Production
integer_of width n = token IntToken (λ lexeme. (integer_value lexeme.text ≡ n) × IsInRange (bits_of_numbers width) n)

abbrev pub integer_part : Option ℕ → Part
integer_part width = record {
  begins = λ tokens rest. (n : ℤ) × integer_of width n tokens rest;
  stops = λ tokens refusal. DerivesNone (integer_of width) tokens × (refusal ≡ record { rule = number_rule tokens; left = length tokens });
}

abbrev pub count_here : List NameText → AllocaCount → Production
count_here names c = ty_here names c.ty >> integer c.ty c.number

abbrev pub count_part : Part
count_part = type_then integer_part

-- what stands behind the first comma: an alignment, or a count and an alignment where one follows
abbrev pub inside_of : Option AllocaCount → Option ℕ → List NameText → Production
inside_of None None names tokens rest = ⊥
inside_of None (Some bytes) names tokens rest = (word (codes "align") >> number bytes) tokens rest
inside_of (Some c) bytes names tokens rest = (count_here names c >> align_here bytes) tokens rest

abbrev pub extent_inside : List NameText → Extent → Production
extent_inside names e = inside_of e.count e.align names

abbrev pub extent_inside_part : Part
extent_inside_part = either (word (codes "align")) (word_part (codes "align") then number_part) (count_part then align_part)

-- the tokens go on with neither a count nor an alignment
abbrev pub ends_extent : Option AllocaCount → Option ℕ → List Lexeme → Type 0
ends_extent None None rest = EndsNowhere operand_comma rest
ends_extent c bytes rest = NoAlign bytes rest

-- the count and the alignment, as far as they are written
abbrev pub extent : List NameText → Extent → Production
extent names e tokens rest = (if_there (count names) e.count >> align e.align) tokens rest × ends_extent e.count e.align rest

abbrev pub extent_part : Part
extent_part = optional operand_comma (mark_part 44 then extent_inside_part)

abbrev pub alloca_part : Part
alloca_part = type_part then extent_part
