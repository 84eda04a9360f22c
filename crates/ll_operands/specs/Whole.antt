-- Instructions with all that belongs to them.
use Rattle.std.specs.Prelude.{◌≡◌, ℕ, List, codes, Option, None}
use Rattle.ll_tokens.specs.Tokens.{Lexeme}
use Rattle.ll_tree.specs.declared.name.NameText.{NameText}
use Rattle.ll_tree.specs.declared.op.Op.{Op}
use Rattle.ll_tree.specs.declared.op.Op.TheVariants as op
use Rattle.ll_parser.specs.GrammarAttributes.{function_attribute}
use Rattle.ll_parser.specs.GrammarInsts.{operation}
use Rattle.ll_parser.specs.Pointers.{NoPointer}
use Rattle.ll_parser.specs.Productions.{Production, ◌>>◌, word, mark}
use Rattle.ll_parser.specs.Reading.{EndsNowhere}
use Rattle.ll_operands.specs.Parts.{operand_comma}

-- a comma, 44, and `align`
abbrev pub align_comma : Production
align_comma = mark 44 >> word (codes "align")

-- a comma and a `[`, 91, with which a phi goes on
abbrev pub entry_comma : Production
entry_comma = mark 44 >> mark 91

-- no alignment stands behind an instruction that has none
abbrev pub NoAlign : Option ℕ → List Lexeme → Type 0
NoAlign align rest = align ≡ None → EndsNowhere align_comma rest

-- the tokens behind an instruction don't go on with it
abbrev pub IsWhole : Op → List Lexeme → Type 0
IsWhole (op.Cast kind operand to) rest = NoPointer rest
IsWhole (op.Phi t entries) rest = EndsNowhere entry_comma rest
IsWhole (op.Alloca t None None) rest = NoPointer rest × EndsNowhere operand_comma rest
IsWhole (op.Alloca t count align) rest = NoAlign align rest
IsWhole (op.Load volatile t pointer align) rest = NoAlign align rest
IsWhole (op.Store volatile stored pointer align) rest = NoAlign align rest
IsWhole (op.CompareExchange pointer comparator new scope equal unequal align) rest = NoAlign align rest
IsWhole (op.AtomicRmw kind pointer operand scope order align) rest = NoAlign align rest
IsWhole (op.GetElementPtr inbounds t pointer indexes) rest = EndsNowhere operand_comma rest
IsWhole (op.Call t callee arguments) rest = EndsNowhere function_attribute rest
IsWhole other rest = Unit {0}

-- what an instruction does, and all of it
abbrev pub operation_here : List NameText → Op → Production
operation_here names o tokens rest = operation names o tokens rest × IsWhole o rest

-- no instruction goes on with the tokens
pub record EndsOperation (tokens : List Lexeme) : Type 0 where
  pub no_pointer : NoPointer tokens
  pub no_operand : EndsNowhere operand_comma tokens
  pub no_attribute : EndsNowhere function_attribute tokens
