-- Definitions of functions with their bodies (LLVM 14, Functions).
use Rattle.std.specs.Prelude.{ℕ, List, [], flat_map}
use Rattle.ll_tree.specs.declared.module.Param.{Param}
use Rattle.ll_tree.specs.declared.name.NameText.{NameText}
use Rattle.ll_parser.specs.GrammarItems.{definition, number_of}
use Rattle.ll_parser.specs.Productions.{Production}
use Rattle.ll_operands.specs.Parts.{Part, ◌then◌}
use Rattle.ll_heads.specs.declared.definitions.DefinitionStart.{DefinitionStart}
use Rattle.ll_heads.specs.HeadParts.{definition_part}
use Rattle.ll_insts.specs.declared.blocks.Blocks.{Blocks}
use Rattle.ll_insts.specs.InstParts.{blocks_part}
use Rattle.ll_modules.specs.declared.definitions.Definition.{Definition}

-- a definition, as the grammar has it
abbrev pub whole_definition : List NameText → Definition → Production
whole_definition names d = definition names d.function d.body

-- the numbers of the names of parameters, in order
abbrev pub numbers_of : List Param → List ℕ
numbers_of params = flat_map (number_of []) params

-- what is before a function's body, and its blocks, put together
abbrev pub definition_of : DefinitionStart → Blocks → Definition
definition_of start blocks = record {
  function = record {
    head = start.head;
    kernel_arg_type = start.kernel_arg_type;
    reqd_work_group_size = start.reqd_work_group_size;
    work_group_size_hint = start.work_group_size_hint;
    labels = blocks.labels;
  };
  body = record { params = numbers_of start.head.params; blocks = blocks.blocks };
}

abbrev pub whole_definition_part : Part
whole_definition_part = definition_part then blocks_part
