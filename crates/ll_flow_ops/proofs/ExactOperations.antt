-- The parts of which instructions of control flow consist are exact.
use Rattle.std.proofs.Common.{ℕ, List, codes, Option, refl, arith}
use Rattle.ll_tokens.specs.Tokens.{Lexeme}
use Rattle.ll_parser.specs.Productions.{◌>>◌, word}
use Rattle.ll_types.proofs.OneValue.{typed_no_mark}
use Rattle.ll_operands.specs.Operands.{label_part}
use Rattle.ll_operands.specs.Parts.{Begins, local_part, mark_part, repeated, ◌then◌, typed_part, value_part, word_part}
use Rattle.ll_operands.specs.Whole.{entry_comma}
use Rattle.ll_operands.proofs.OperandFacts.{exact_label}
use Rattle.ll_operands.proofs.PartFacts.{IsExact, exact_either, exact_local, exact_mark, exact_nothing, exact_repeated, exact_then, exact_type_then, exact_typed, exact_value, exact_word, exact_word_then}
use Rattle.ll_flow_ops.specs.declared.opcodes.FlowOpcode.{FlowOpcode}
use Rattle.ll_flow_ops.specs.declared.opcodes.FlowOpcode.TheVariants as opcode
use Rattle.ll_flow_ops.specs.FlowOpcodes.{opcode_word}
use Rattle.ll_flow_ops.specs.FlowOperations.{behind_opcode, flow_operation_part}
use Rattle.ll_flow_ops.specs.FlowParts.{branch_part, cases_part, entries_part, entry_part, next_entry_part, no_close, phi_part, return_part, switch_part, target_part}
use Rattle.ll_flow_ops.proofs.OpcodesApart.{opcodes_apart}

exact_target : IsExact target_part
exact_target = exact_then typed_part (mark_part 44 then label_part) exact_typed (exact_then (mark_part 44) label_part (exact_mark 44) exact_label)

exact_return : IsExact return_part
exact_return = exact_either (word (codes "void")) (word_part (codes "void")) typed_part (exact_word (codes "void")) exact_typed (λ tokens rest d. (rest, d))

label_begins : (tokens rest : List Lexeme) → label_part.begins tokens rest → Begins (word (codes "label")) tokens
unfolding ◌>>◌
label_begins tokens rest (m, w, _) = (m, w)

exact_branch : IsExact branch_part
exact_branch =
    exact_either (word (codes "label")) label_part (target_part then mark_part 44 then label_part) exact_label
    (exact_then target_part (mark_part 44 then label_part) exact_target (exact_then (mark_part 44) label_part (exact_mark 44) exact_label)) label_begins

-- a case begins with no `]`, 93
case_begins : (tokens rest : List Lexeme) → target_part.begins tokens rest → Begins no_close tokens
unfolding ◌>>◌
case_begins tokens rest (m, (names, v, d), _) = (tokens, (refl, λ b close. typed_no_mark 93 names v tokens m b (λ e. omega arith) (λ e. omega arith) (λ e. omega arith) d close))

exact_cases : IsExact cases_part
exact_cases = exact_then (repeated no_close target_part) (mark_part 93) (exact_repeated no_close target_part exact_target case_begins) (exact_mark 93)

exact_switch : IsExact switch_part
exact_switch = exact_then target_part (mark_part 91 then cases_part) exact_target (exact_then (mark_part 91) cases_part (exact_mark 91) exact_cases)

exact_entry : (width : Option ℕ) → IsExact (entry_part width)
exact_entry width =
    exact_then (mark_part 91) (value_part width then mark_part 44 then local_part then mark_part 93) (exact_mark 91)
    (exact_then (value_part width) (mark_part 44 then local_part then mark_part 93) (exact_value width)
    (exact_then (mark_part 44) (local_part then mark_part 93) (exact_mark 44) (exact_then local_part (mark_part 93) exact_local (exact_mark 93))))

exact_next_entry : (width : Option ℕ) → IsExact (next_entry_part width)
exact_next_entry width = exact_then (mark_part 44) (entry_part width) (exact_mark 44) (exact_entry width)

next_begins : (width : Option ℕ) (tokens rest : List Lexeme) → (next_entry_part width).begins tokens rest → Begins entry_comma tokens
unfolding ◌>>◌
next_begins width tokens rest (m, comma, (n, bracket, _)) = (n, (m, comma, bracket))

exact_entries : (width : Option ℕ) → IsExact (entries_part width)
exact_entries width =
    exact_then (entry_part width) (repeated entry_comma (next_entry_part width)) (exact_entry width)
    (exact_repeated entry_comma (next_entry_part width) (exact_next_entry width) (next_begins width))

exact_phi : IsExact phi_part
exact_phi = exact_type_then entries_part exact_entries

pub exact_behind : (key : FlowOpcode) → IsExact (behind_opcode key)
exact_behind opcode.Phi = exact_phi
exact_behind opcode.Return = exact_return
exact_behind opcode.Branch = exact_branch
exact_behind opcode.Switch = exact_switch
exact_behind opcode.Unreachable = exact_nothing

-- an instruction of control flow leaves one list of tokens, and those that are refused begin with none
pub exact_flow_operation : IsExact flow_operation_part
exact_flow_operation = exact_word_then opcode_word behind_opcode opcodes_apart exact_behind
