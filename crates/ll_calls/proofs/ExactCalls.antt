-- The parts of calls are exact: what they leave of tokens is one list, an end of them, and refused tokens begin with none.
use Rattle.std.proofs.Common.{List, codes, inl, inr}
use Rattle.ll_tokens.specs.Tokens.{Lexeme}
use Rattle.ll_parser.specs.Productions.{◌>>◌, mark}
use Rattle.ll_parser.proofs.EndFacts.{ends_same, token_ends}
use Rattle.ll_types.proofs.Tokens.{EndsBy}
use Rattle.ll_operands.specs.Parts.{Begins, global_part, mark_part, repeated, ◌then◌, type_part, value_part, word_part}
use Rattle.ll_operands.proofs.PartFacts.{IsExact, exact_either, exact_global, exact_mark, exact_repeated, exact_then, exact_type, exact_type_then, exact_value, exact_word, exact_word_then}
use Rattle.ll_attributes.specs.Heads.{call_convention}
use Rattle.ll_attributes.proofs.AttributeFacts.{attributes_end, attributes_none, attributes_one}
use Rattle.ll_attributes.proofs.FunctionFacts.{function_attributes_end, function_attributes_none, function_attributes_one}
use Rattle.ll_attributes.proofs.ListFacts.{LeaveOne, maybe_one, token_one}
use Rattle.ll_calls.specs.declared.openings.CallOpening.{CallOpening}
use Rattle.ll_calls.specs.declared.openings.CallOpening.TheVariants as opening
use Rattle.ll_calls.specs.CallOpenings.{opening_word}
use Rattle.ll_calls.specs.CallParts.{argument_of, argument_part, arguments_part, attributes_part, called_part, callee_part, convention_part, function_attributes_part, next_argument_part, some_part}
use Rattle.ll_calls.specs.Calls.{behind_opening, call_part}
use Rattle.ll_calls.proofs.OpeningsApart.{openings_apart}

-- what is called
convention_one : LeaveOne call_convention call_convention
convention_one tokens a b (inl d) (inl e) = token_one _ _ _ _ tokens a b d e
convention_one tokens a b (inl d) (inr e) = token_one _ _ _ _ tokens a b d e
convention_one tokens a b (inr d) (inl e) = token_one _ _ _ _ tokens a b d e
convention_one tokens a b (inr d) (inr e) = token_one _ _ _ _ tokens a b d e

convention_end : EndsBy convention_part.begins
convention_end tokens rest (inl (inl d)) = token_ends _ _ tokens rest d
convention_end tokens rest (inl (inr d)) = token_ends _ _ tokens rest d
convention_end tokens rest (inr (same, _)) = ends_same tokens rest same

exact_convention : IsExact convention_part
exact_convention = record { one = maybe_one call_convention convention_one; none = λ tokens rest refusal s d. s; ends = convention_end }

exact_attributes : IsExact attributes_part
exact_attributes = record {
  one = λ tokens a b d e. attributes_one d.0 e.0 d.1 e.1 tokens a b d.2 e.2;
  none = λ tokens rest refusal s d. attributes_none tokens refusal s d.0 d.1 rest d.2;
  ends = λ tokens rest d. attributes_end d.0 d.1 tokens rest d.2;
}

exact_callee : IsExact callee_part
exact_callee =
    exact_then convention_part (attributes_part then type_part then global_part) exact_convention
    (exact_then attributes_part (type_part then global_part) exact_attributes (exact_then type_part global_part exact_type exact_global))

-- arguments
pub exact_argument : IsExact argument_part
exact_argument = exact_type_then argument_of (λ width. exact_then attributes_part (value_part width) exact_attributes (exact_value width))

exact_next : IsExact next_argument_part
exact_next = exact_then (mark_part 44) argument_part (exact_mark 44) exact_argument

next_opens : (tokens rest : List Lexeme) → next_argument_part.begins tokens rest → Begins (mark 44) tokens
unfolding ◌>>◌
next_opens tokens rest (m, comma, _) = (m, comma)

exact_some : IsExact some_part
exact_some = exact_then argument_part (repeated (mark 44) next_argument_part) exact_argument (exact_repeated (mark 44) next_argument_part exact_next next_opens)

exact_arguments : IsExact arguments_part
exact_arguments =
    exact_either (mark 41) (mark_part 41) (some_part then mark_part 41) (exact_mark 41) (exact_then some_part (mark_part 41) exact_some (exact_mark 41)) (λ tokens rest d. (rest, d))

-- a call
exact_function_attributes : IsExact function_attributes_part
exact_function_attributes = record {
  one = function_attributes_one;
  none = λ tokens rest refusal s d. function_attributes_none tokens refusal s rest d;
  ends = function_attributes_end;
}

exact_called : IsExact called_part
exact_called =
    exact_then callee_part (mark_part 40 then arguments_part then function_attributes_part) exact_callee
    (exact_then (mark_part 40) (arguments_part then function_attributes_part) (exact_mark 40) (exact_then arguments_part function_attributes_part exact_arguments exact_function_attributes))

exact_behind_tail : IsExact (word_part (codes "call") then called_part)
exact_behind_tail = exact_then (word_part (codes "call")) called_part (exact_word (codes "call")) exact_called

pub exact_behind : (key : CallOpening) → IsExact (behind_opening key)
exact_behind opening.Tail = exact_behind_tail
exact_behind opening.NoTail = exact_behind_tail
exact_behind opening.Call = exact_called

-- a call leaves one list of tokens, and those that are refused begin with none
pub exact_call : IsExact call_part
exact_call = exact_word_then opening_word behind_opening openings_apart exact_behind
