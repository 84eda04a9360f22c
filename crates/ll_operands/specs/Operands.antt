-- The operands that many instructions have (LLVM 14, Instruction Reference).
use Rattle.std.specs.Prelude.{List, codes}
use Rattle.ll_tree.specs.declared.name.Name.{Name}
use Rattle.ll_tree.specs.declared.name.NameText.{NameText}
use Rattle.ll_parser.specs.GrammarValues.{local, typed, value}
use Rattle.ll_parser.specs.Productions.{Production, ◌>>◌, word, mark}
use Rattle.ll_types.specs.TypeParts.{ty_here}
use Rattle.ll_operands.specs.declared.operands.OfOneType.{OfOneType}
use Rattle.ll_operands.specs.declared.operands.Three.{Three}
use Rattle.ll_operands.specs.declared.operands.Two.{Two}
use Rattle.ll_operands.specs.Parts.{Part, ◌then◌, local_part, mark_part, type_then, typed_part, value_part, word_part}

-- two operands, and three, with commas, 44, between them
abbrev pub two : List NameText → Two → Production
two names o = typed names o.first >> mark 44 >> typed names o.second

abbrev pub three : List NameText → Three → Production
three names o = typed names o.first >> mark 44 >> typed names o.second >> mark 44 >> typed names o.third

-- two operands of one type, which is written once
abbrev pub of_one_type : List NameText → OfOneType → Production
of_one_type names o = ty_here names o.ty >> value names o.left o.ty >> mark 44 >> value names o.right o.ty

-- the name of a block, behind `label`
abbrev pub label : List NameText → Name → Production
label names name = word (codes "label") >> local names name

abbrev pub two_part : Part
two_part = typed_part then mark_part 44 then typed_part

abbrev pub three_part : Part
three_part = typed_part then mark_part 44 then typed_part then mark_part 44 then typed_part

abbrev pub one_type_part : Part
one_type_part = type_then (λ width. value_part width then mark_part 44 then value_part width)

abbrev pub label_part : Part
label_part = word_part (codes "label") then local_part
