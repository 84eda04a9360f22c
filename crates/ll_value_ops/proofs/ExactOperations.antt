-- The parts of which instructions on values consist are exact.
use Rattle.std.proofs.Common.{codes}
use Rattle.ll_parser.specs.GrammarInsts.{flag_word, predicate_word}
use Rattle.ll_operands.specs.Operands.{one_type_part}
use Rattle.ll_operands.specs.Parts.{mark_part, number_part, one_word, ◌then◌, type_part, typed_part, word_part}
use Rattle.ll_operands.proofs.OperandFacts.{exact_one_type, exact_three, exact_two}
use Rattle.ll_operands.proofs.PartFacts.{IsExact, exact_mark, exact_number, exact_one_word, exact_repeated, exact_then, exact_type, exact_typed, exact_word, exact_word_then}
use Rattle.ll_value_ops.specs.declared.opcodes.ValueOpcode.{ValueOpcode}
use Rattle.ll_value_ops.specs.declared.opcodes.ValueOpcode.TheVariants as opcode
use Rattle.ll_value_ops.specs.ValueOpcodes.{flags_part, opcode_word, predicate_part, any_flag}
use Rattle.ll_value_ops.specs.ValueOperations.{behind_opcode, conversion_part, extraction_part, value_operation_part}
use Rattle.ll_value_ops.proofs.OpcodesApart.{opcodes_apart}

exact_flags : IsExact flags_part
exact_flags = exact_repeated any_flag (one_word flag_word) (exact_one_word flag_word) (λ tokens rest d. (rest, d))

exact_conversion : IsExact conversion_part
exact_conversion =
    exact_then typed_part (word_part (codes "to") then type_part) exact_typed (exact_then (word_part (codes "to")) type_part (exact_word (codes "to")) exact_type)

exact_extraction : IsExact extraction_part
exact_extraction =
    exact_then typed_part (mark_part 44 then number_part) exact_typed (exact_then (mark_part 44) number_part (exact_mark 44) exact_number)

pub exact_behind : (key : ValueOpcode) → IsExact (behind_opcode key)
exact_behind (opcode.Binary kind) = exact_then flags_part one_type_part exact_flags exact_one_type
exact_behind opcode.Compare = exact_then predicate_part one_type_part (exact_one_word predicate_word) exact_one_type
exact_behind opcode.Select = exact_three
exact_behind (opcode.Cast kind) = exact_conversion
exact_behind opcode.ExtractElement = exact_two
exact_behind opcode.InsertElement = exact_three
exact_behind opcode.ShuffleVector = exact_three
exact_behind opcode.ExtractValue = exact_extraction

-- an instruction on values leaves one list of tokens, and those that are refused begin with none
pub exact_value_operation : IsExact value_operation_part
exact_value_operation = exact_word_then opcode_word behind_opcode opcodes_apart exact_behind
