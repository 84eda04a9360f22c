-- The parts of loads and stores, and alignments (LLVM 14, `load` and `store`).
use Rattle.std.specs.Prelude.{ℕ, List, codes, Option}
use Rattle.ll_tree.specs.declared.name.NameText.{NameText}
use Rattle.ll_parser.specs.GrammarInsts.{align}
use Rattle.ll_parser.specs.GrammarValues.{typed}
use Rattle.ll_parser.specs.Productions.{Production, ◌>>◌, mark, word}
use Rattle.ll_types.specs.TypeParts.{ty_here}
use Rattle.ll_operands.specs.Operands.{two_part}
use Rattle.ll_operands.specs.Parts.{Part, either, mark_part, number_part, optional, ◌then◌, type_part, typed_part, word_part}
use Rattle.ll_operands.specs.Whole.{NoAlign, align_comma}
use Rattle.ll_memory_ops.specs.declared.accesses.Pointee.{Pointee}
use Rattle.ll_memory_ops.specs.OrderParts.{scoped_order_part}

-- `align` and a number, behind a comma, 44
abbrev pub alignment_part : Part
alignment_part = mark_part 44 then word_part (codes "align") then number_part

abbrev pub align_part : Part
align_part = optional align_comma alignment_part

-- an alignment where one is written: none follows where none is
abbrev pub align_here : Option ℕ → Production
align_here bytes tokens rest = align bytes tokens rest × NoAlign bytes rest

-- a word where it stands
abbrev pub if_word_part : List ℕ → Part
if_word_part text = optional (word text) (word_part text)

-- a type, and a pointer behind a comma
abbrev pub pointee : List NameText → Pointee → Production
pointee names p = ty_here names p.ty >> mark 44 >> typed names p.pointer

abbrev pub pointee_part : Part
pointee_part = type_part then mark_part 44 then typed_part

abbrev pub plain_load_part : Part
plain_load_part = if_word_part (codes "volatile") then pointee_part then align_part

-- what stands behind `atomic`
abbrev pub atomic_load_part : Part
atomic_load_part = pointee_part then scoped_order_part then alignment_part

abbrev pub load_part : Part
load_part = either (word (codes "atomic")) (word_part (codes "atomic") then atomic_load_part) plain_load_part

abbrev pub plain_store_part : Part
plain_store_part = if_word_part (codes "volatile") then two_part then align_part

abbrev pub atomic_store_part : Part
atomic_store_part = two_part then scoped_order_part then alignment_part

abbrev pub store_part : Part
store_part = either (word (codes "atomic")) (word_part (codes "atomic") then atomic_store_part) plain_store_part
