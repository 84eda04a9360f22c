-- Instructions on memory: those that allocate it, read and write it, and address it (LLVM 14, Memory Access and Addressing
-- Operations).
use Rattle.std.specs.Prelude.{List, codes}
use Rattle.ll_tokens.specs.Tokens.{Lexeme}
use Rattle.ll_tree.specs.declared.name.NameText.{NameText}
use Rattle.ll_tree.specs.declared.op.Op.{Op}
use Rattle.ll_tree.specs.declared.op.Op.TheVariants as op
use Rattle.ll_parser.specs.Productions.{Production, word}
use Rattle.ll_operands.specs.Parts.{Part, word_then}
use Rattle.ll_operands.specs.Whole.{operation_here}
use Rattle.ll_memory_ops.specs.declared.opcodes.MemoryOpcode.{MemoryOpcode}
use Rattle.ll_memory_ops.specs.declared.opcodes.MemoryOpcode.TheVariants as opcode
use Rattle.ll_memory_ops.specs.AccessParts.{load_part, store_part}
use Rattle.ll_memory_ops.specs.AddressParts.{address_part}
use Rattle.ll_memory_ops.specs.AllocationParts.{alloca_part}
use Rattle.ll_memory_ops.specs.AtomicParts.{exchange_part, update_part}
use Rattle.ll_memory_ops.specs.MemoryOpcodes.{opcode_word}
use Rattle.ll_memory_ops.specs.OrderParts.{scoped_order_part}

abbrev pub IsMemoryOperation : Op → Type 0
IsMemoryOperation (op.Alloca t count align) = Unit {0}
IsMemoryOperation (op.Load volatile t pointer align) = Unit {0}
IsMemoryOperation (op.Store volatile stored pointer align) = Unit {0}
IsMemoryOperation (op.AtomicLoad t pointer scope order align) = Unit {0}
IsMemoryOperation (op.AtomicStore stored pointer scope order align) = Unit {0}
IsMemoryOperation (op.CompareExchange pointer comparator new scope equal unequal align) = Unit {0}
IsMemoryOperation (op.AtomicRmw kind pointer operand scope order align) = Unit {0}
IsMemoryOperation (op.Fence scope order) = Unit {0}
IsMemoryOperation (op.GetElementPtr inbounds t pointer indexes) = Unit {0}
IsMemoryOperation other = ⊥

abbrev pub memory_operation : List NameText → Op → Production
memory_operation names o tokens rest = IsMemoryOperation o × operation_here names o tokens rest

-- what stands behind the word of an instruction
abbrev pub behind : MemoryOpcode → List NameText → Op → Production
behind key names o tokens rest = (before : List Lexeme) → word (opcode_word key) before tokens → memory_operation names o before rest

-- what stands behind the word `atomic` of an instruction
abbrev pub behind_atomic : MemoryOpcode → List NameText → Op → Production
behind_atomic key names o tokens rest = (before : List Lexeme) → word (codes "atomic") before tokens → behind key names o before rest

abbrev pub behind_opcode : MemoryOpcode → Part
behind_opcode opcode.Alloca = alloca_part
behind_opcode opcode.Load = load_part
behind_opcode opcode.Store = store_part
behind_opcode opcode.Fence = scoped_order_part
behind_opcode opcode.CompareExchange = exchange_part
behind_opcode opcode.AtomicRmw = update_part
behind_opcode opcode.GetElementPtr = address_part

abbrev pub memory_operation_part : Part
memory_operation_part = word_then opcode_word behind_opcode
