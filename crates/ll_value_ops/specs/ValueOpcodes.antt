-- The words of instructions on values (LLVM 14, Instruction Reference), and of what stands behind them.
use Rattle.std.specs.Prelude.{ℕ, List, codes}
use Rattle.ll_tree.specs.declared.op.Flag.{Flag}
use Rattle.ll_parser.specs.GrammarInsts.{binary_word, flag, flag_word, predicate_word}
use Rattle.ll_parser.specs.GrammarValues.{cast_word}
use Rattle.ll_parser.specs.Productions.{Production, each}
use Rattle.ll_parser.specs.Reading.{EndsNowhere}
use Rattle.ll_operands.specs.Parts.{Part, one_word, repeated}
use Rattle.ll_value_ops.specs.declared.opcodes.ValueOpcode.{ValueOpcode}
use Rattle.ll_value_ops.specs.declared.opcodes.ValueOpcode.TheVariants as opcode

abbrev pub opcode_word : ValueOpcode → List ℕ
opcode_word (opcode.Binary op) = binary_word op
opcode_word opcode.Compare = codes "icmp"
opcode_word opcode.Select = codes "select"
opcode_word (opcode.Cast kind) = cast_word kind
opcode_word opcode.ExtractElement = codes "extractelement"
opcode_word opcode.InsertElement = codes "insertelement"
opcode_word opcode.ShuffleVector = codes "shufflevector"
opcode_word opcode.ExtractValue = codes "extractvalue"

-- one of these words
abbrev pub value_word : Production
value_word = (one_word opcode_word).begins

abbrev pub predicate_part : Part
predicate_part = one_word predicate_word

-- the word of a flag
abbrev pub any_flag : Production
any_flag = (one_word flag_word).begins

-- flags, as many as there are
abbrev pub flags_here : List Flag → Production
flags_here flags tokens rest = each flag flags tokens rest × EndsNowhere any_flag rest

abbrev pub flags_part : Part
flags_part = repeated any_flag (one_word flag_word)
