-- What instructions do, as it is read: all of it (LLVM 14, Instruction Reference).
use Rattle.std.specs.Prelude.{◌⊎◌, List}
use Rattle.ll_tree.specs.declared.name.NameText.{NameText}
use Rattle.ll_tree.specs.declared.op.Op.{Op}
use Rattle.ll_parser.specs.Productions.{Production}
use Rattle.ll_calls.specs.CallOpenings.{call_word}
use Rattle.ll_calls.specs.Calls.{call_operation, call_part}
use Rattle.ll_flow_ops.specs.FlowOpcodes.{flow_word}
use Rattle.ll_flow_ops.specs.FlowOperations.{flow_operation, flow_operation_part}
use Rattle.ll_memory_ops.specs.MemoryOpcodes.{memory_word}
use Rattle.ll_memory_ops.specs.MemoryOperations.{memory_operation, memory_operation_part}
use Rattle.ll_value_ops.specs.ValueOpcodes.{value_word}
use Rattle.ll_value_ops.specs.ValueOperations.{value_operation, value_operation_part}
use Rattle.ll_operands.specs.Parts.{Part, either}
use Rattle.ll_bodies.specs.BodyJoins.{no_part}

unfoldable pub whole_operation : List NameText → Op → Production
whole_operation names o tokens rest =
    value_operation names o tokens rest ⊎ flow_operation names o tokens rest ⊎ memory_operation names o tokens rest ⊎ call_operation names o tokens rest

unfoldable pub operation_part : Part
operation_part =
    either value_word value_operation_part (either flow_word flow_operation_part (either memory_word memory_operation_part (either call_word call_part no_part)))
