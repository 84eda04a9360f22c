-- Instructions on values: binary operations, comparisons, conversions, choices, and those on the parts of vectors and of other
-- aggregates (LLVM 14, Instruction Reference).
use Rattle.std.specs.Prelude.{List, codes}
use Rattle.ll_tokens.specs.Tokens.{Lexeme}
use Rattle.ll_tree.specs.declared.name.NameText.{NameText}
use Rattle.ll_tree.specs.declared.op.Op.{Op}
use Rattle.ll_tree.specs.declared.op.Op.TheVariants as op
use Rattle.ll_parser.specs.Productions.{Production, word}
use Rattle.ll_operands.specs.Operands.{one_type_part, three_part, two_part}
use Rattle.ll_operands.specs.Parts.{Part, mark_part, number_part, ◌then◌, type_part, typed_part, word_part, word_then}
use Rattle.ll_operands.specs.Whole.{operation_here}
use Rattle.ll_value_ops.specs.declared.opcodes.ValueOpcode.{ValueOpcode}
use Rattle.ll_value_ops.specs.declared.opcodes.ValueOpcode.TheVariants as opcode
use Rattle.ll_value_ops.specs.ValueOpcodes.{flags_part, opcode_word, predicate_part}

abbrev pub IsValueOperation : Op → Type 0
IsValueOperation (op.Binary kind flags t left right) = Unit {0}
IsValueOperation (op.Compare p t left right) = Unit {0}
IsValueOperation (op.Select condition accepted rejected) = Unit {0}
IsValueOperation (op.Cast kind operand to) = Unit {0}
IsValueOperation (op.ExtractElement vector index) = Unit {0}
IsValueOperation (op.InsertElement vector element index) = Unit {0}
IsValueOperation (op.ShuffleVector left right mask) = Unit {0}
IsValueOperation (op.ExtractValue aggregate index) = Unit {0}
IsValueOperation other = ⊥

abbrev pub value_operation : List NameText → Op → Production
value_operation names o tokens rest = IsValueOperation o × operation_here names o tokens rest

-- what stands behind the word of an instruction
abbrev pub behind : ValueOpcode → List NameText → Op → Production
behind key names o tokens rest = (before : List Lexeme) → word (opcode_word key) before tokens → value_operation names o before rest

abbrev pub conversion_part : Part
conversion_part = typed_part then word_part (codes "to") then type_part

-- an aggregate and the number of its part, behind a comma, 44
abbrev pub extraction_part : Part
extraction_part = typed_part then mark_part 44 then number_part

abbrev pub behind_opcode : ValueOpcode → Part
behind_opcode (opcode.Binary kind) = flags_part then one_type_part
behind_opcode opcode.Compare = predicate_part then one_type_part
behind_opcode opcode.Select = three_part
behind_opcode (opcode.Cast kind) = conversion_part
behind_opcode opcode.ExtractElement = two_part
behind_opcode opcode.InsertElement = three_part
behind_opcode opcode.ShuffleVector = three_part
behind_opcode opcode.ExtractValue = extraction_part

abbrev pub value_operation_part : Part
value_operation_part = word_then opcode_word behind_opcode
