-- The words with which instructions of control flow begin (LLVM 14, Terminator Instructions and `phi`).
use Rattle.std.specs.Prelude.{ℕ, List, codes}
use Rattle.ll_parser.specs.Productions.{Production}
use Rattle.ll_operands.specs.Parts.{one_word}
use Rattle.ll_flow_ops.specs.declared.opcodes.FlowOpcode.{FlowOpcode}
use Rattle.ll_flow_ops.specs.declared.opcodes.FlowOpcode.TheVariants as opcode

abbrev pub opcode_word : FlowOpcode → List ℕ
opcode_word opcode.Phi = codes "phi"
opcode_word opcode.Return = codes "ret"
opcode_word opcode.Branch = codes "br"
opcode_word opcode.Switch = codes "switch"
opcode_word opcode.Unreachable = codes "unreachable"

-- one of these words
abbrev pub flow_word : Production
flow_word = (one_word opcode_word).begins
