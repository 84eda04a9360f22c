-- Instructions of control flow: `phi` and the terminators (LLVM 14, Instruction Reference).
use Rattle.std.specs.Prelude.{List}
use Rattle.ll_tokens.specs.Tokens.{Lexeme}
use Rattle.ll_tree.specs.declared.name.NameText.{NameText}
use Rattle.ll_tree.specs.declared.op.Op.{Op}
use Rattle.ll_tree.specs.declared.op.Op.TheVariants as op
use Rattle.ll_parser.specs.Productions.{Production, word}
use Rattle.ll_operands.specs.Parts.{Part, nothing_part, word_then}
use Rattle.ll_operands.specs.Whole.{operation_here}
use Rattle.ll_flow_ops.specs.declared.opcodes.FlowOpcode.{FlowOpcode}
use Rattle.ll_flow_ops.specs.declared.opcodes.FlowOpcode.TheVariants as opcode
use Rattle.ll_flow_ops.specs.FlowOpcodes.{opcode_word}
use Rattle.ll_flow_ops.specs.FlowParts.{branch_part, phi_part, return_part, switch_part}

abbrev pub IsFlowOperation : Op → Type 0
IsFlowOperation (op.Phi t entries) = Unit {0}
IsFlowOperation op.ReturnVoid = Unit {0}
IsFlowOperation (op.Return given) = Unit {0}
IsFlowOperation (op.Jump target) = Unit {0}
IsFlowOperation (op.Branch condition accepted rejected) = Unit {0}
IsFlowOperation (op.Switch selector default cases) = Unit {0}
IsFlowOperation op.Unreachable = Unit {0}
IsFlowOperation other = ⊥

abbrev pub flow_operation : List NameText → Op → Production
flow_operation names o tokens rest = IsFlowOperation o × operation_here names o tokens rest

-- what stands behind the word of an instruction
abbrev pub behind : FlowOpcode → List NameText → Op → Production
behind key names o tokens rest = (before : List Lexeme) → word (opcode_word key) before tokens → flow_operation names o before rest

abbrev pub behind_opcode : FlowOpcode → Part
behind_opcode opcode.Phi = phi_part
behind_opcode opcode.Return = return_part
behind_opcode opcode.Branch = branch_part
behind_opcode opcode.Switch = switch_part
behind_opcode opcode.Unreachable = nothing_part

abbrev pub flow_operation_part : Part
flow_operation_part = word_then opcode_word behind_opcode
