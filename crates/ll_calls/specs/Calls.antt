-- Calls of functions (LLVM 14, `call`).
use Rattle.std.specs.Prelude.{List, codes}
use Rattle.ll_tokens.specs.Tokens.{Lexeme}
use Rattle.ll_tree.specs.declared.name.NameText.{NameText}
use Rattle.ll_tree.specs.declared.op.Op.{Op}
use Rattle.ll_tree.specs.declared.op.Op.TheVariants as op
use Rattle.ll_parser.specs.Productions.{Production, ◌>>◌, ◌or◌, mark, maybe, word}
use Rattle.ll_parser.specs.Reading.{EndsNowhere}
use Rattle.ll_operands.specs.Parts.{Part, ◌then◌, word_part, word_then}
use Rattle.ll_attributes.specs.FunctionAttributes.{NoFunctionAttribute}
use Rattle.ll_calls.specs.declared.calls.Called.{Called}
use Rattle.ll_calls.specs.declared.openings.CallOpening.{CallOpening}
use Rattle.ll_calls.specs.declared.openings.CallOpening.TheVariants as opening
use Rattle.ll_calls.specs.CallOpenings.{opening_word}
use Rattle.ll_calls.specs.CallParts.{called, called_part}

abbrev pub IsCall : Op → Type 0
IsCall (op.Call t callee arguments) = Unit {0}
IsCall other = ⊥

-- `tail` or `notail`, which need not stand and aren't kept
abbrev pub tail : Production
tail = maybe (word (codes "tail") or word (codes "notail"))

-- a call as it is read, with all that belongs to it: a text behind a `=` is of the attribute before it, and isn't left
abbrev pub call_operation : List NameText → Op → Production
call_operation names (op.Call t callee arguments) tokens rest =
    (tail >> word (codes "call") >> called names (record { callee = record { ty = t; name = callee }; arguments = arguments })) tokens rest
call_operation names other tokens rest = ⊥

-- no call goes on with the tokens, 61 being `=`
pub record EndsCall (tokens : List Lexeme) : Type 0 where
  pub no_attribute : NoFunctionAttribute tokens
  pub no_value : EndsNowhere (mark 61) tokens

-- what stands behind the first word of a call
abbrev pub behind : CallOpening → List NameText → Called → Production
behind opening.Call names c tokens rest = called names c tokens rest
behind other names c tokens rest = (word (codes "call") >> called names c) tokens rest

abbrev pub behind_opening : CallOpening → Part
behind_opening opening.Call = called_part
behind_opening other = word_part (codes "call") then called_part

abbrev pub call_part : Part
call_part = word_then opening_word behind_opening
