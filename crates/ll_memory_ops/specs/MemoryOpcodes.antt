-- The words with which instructions on memory begin (LLVM 14, Memory Access and Addressing Operations).
use Rattle.std.specs.Prelude.{ℕ, List, codes}
use Rattle.ll_parser.specs.Productions.{Production}
use Rattle.ll_operands.specs.Parts.{one_word}
use Rattle.ll_memory_ops.specs.declared.opcodes.MemoryOpcode.{MemoryOpcode}
use Rattle.ll_memory_ops.specs.declared.opcodes.MemoryOpcode.TheVariants as opcode

abbrev pub opcode_word : MemoryOpcode → List ℕ
opcode_word opcode.Alloca = codes "alloca"
opcode_word opcode.Load = codes "load"
opcode_word opcode.Store = codes "store"
opcode_word opcode.Fence = codes "fence"
opcode_word opcode.CompareExchange = codes "cmpxchg"
opcode_word opcode.AtomicRmw = codes "atomicrmw"
opcode_word opcode.GetElementPtr = codes "getelementptr"

-- one of these words
abbrev pub memory_word : Production
memory_word = (one_word opcode_word).begins
