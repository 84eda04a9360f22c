-- Modules with their names and places changed, and the same module, places aside (LLVM 14, Module Structure).
use Rattle.std.specs.Prelude.{◌≡◌, ℕ, List, map, option_map}
use Rattle.inst_walk.specs.declared.body.Block.{Block}
use Rattle.inst_walk.specs.declared.body.Body.{Body}
use Rattle.ll_tree.specs.declared.inst.Inst.{Inst}
use Rattle.ll_tree.specs.declared.module.Attribute.{Attribute}
use Rattle.ll_tree.specs.declared.module.AttributeKind.{AttributeKind}
use Rattle.ll_tree.specs.declared.module.AttributeKind.TheVariants.{ByVal, SRet}
use Rattle.ll_tree.specs.declared.module.Function.{Function}
use Rattle.ll_tree.specs.declared.module.Head.{Head}
use Rattle.ll_tree.specs.declared.module.LlModule.{LlModule}
use Rattle.ll_tree.specs.declared.module.Node.{Node}
use Rattle.ll_tree.specs.declared.module.NodePart.{NodePart}
use Rattle.ll_tree.specs.declared.module.NodePart.TheVariants as part
use Rattle.ll_tree.specs.declared.module.NodeRef.{NodeRef}
use Rattle.ll_tree.specs.declared.module.Param.{Param}
use Rattle.ll_tree.specs.declared.module.Struct.{Struct}
use Rattle.ll_tree.specs.declared.module.Target.{Target}
use Rattle.ll_tree.specs.declared.module.Variable.{Variable}
use Rattle.ll_tree.specs.declared.name.Name.{Name}
use Rattle.ll_tree.specs.declared.name.NameText.{NameText}
use Rattle.ll_tree.specs.Insts.{inst_changed}
use Rattle.ll_tree.specs.Names.{name_unplaced}
use Rattle.ll_tree.specs.Types.{type_changed}
use Rattle.ll_tree.specs.Values.{value_changed, typed_changed}

module _ (names : Name → Name) (place : ℕ → ℕ) where
  abbrev pub target_changed : Target → Target
  target_changed target = record { kind = target.kind; text = target.text; byte = place target.byte }

  abbrev pub struct_changed : Struct → Struct
  struct_changed struct = record { name = names struct.name; ty = type_changed names struct.ty }

  abbrev pub variable_changed : Variable → Variable
  variable_changed variable = record {
    name = names variable.name;
    linkage = variable.linkage;
    space = variable.space;
    ty = type_changed names variable.ty;
    init = value_changed names (type_changed names) variable.init;
    align = variable.align;
  }

  abbrev pub attribute_kind_changed : AttributeKind → AttributeKind
  attribute_kind_changed (ByVal ty) = ByVal (option_map (type_changed names) ty)
  attribute_kind_changed (SRet ty) = SRet (option_map (type_changed names) ty)
  attribute_kind_changed kind = kind

  abbrev pub attribute_changed : Attribute → Attribute
  attribute_changed attribute = record { kind = attribute_kind_changed attribute.kind; byte = place attribute.byte }

  abbrev pub param_changed : Param → Param
  param_changed param = record {
    ty = type_changed names param.ty;
    attributes = map attribute_changed param.attributes;
    name = option_map names param.name;
  }

  abbrev pub head_changed : Head → Head
  head_changed head = record {
    byte = place head.byte;
    name = names head.name;
    linkage = head.linkage;
    is_kernel = head.is_kernel;
    attributes = map attribute_changed head.attributes;
    ty = type_changed names head.ty;
    params = map param_changed head.params;
  }

  abbrev pub node_ref_changed : NodeRef → NodeRef
  node_ref_changed node = record { number = node.number; byte = place node.byte }

  abbrev pub function_changed : Function → Function
  function_changed function = record {
    head = head_changed function.head;
    kernel_arg_type = option_map node_ref_changed function.kernel_arg_type;
    reqd_work_group_size = option_map node_ref_changed function.reqd_work_group_size;
    work_group_size_hint = option_map node_ref_changed function.work_group_size_hint;
    labels = map place function.labels;
  }

  -- a block or a parameter is named by a number alone
  abbrev pub number_changed : ℕ → ℕ
  number_changed number = (names (record { number = number; byte = 0 })).number

  abbrev pub block_changed : Block Inst ℕ → Block Inst ℕ
  block_changed block = record { name = number_changed block.name; insts = map (inst_changed names place) block.insts }

  abbrev pub body_changed : Body Inst ℕ → Body Inst ℕ
  body_changed body = record { params = map number_changed body.params; blocks = map block_changed body.blocks }

  abbrev pub part_changed : NodePart → NodePart
  part_changed (part.Node node) = part.Node (node_ref_changed node)
  part_changed (part.Text text) = part.Text text
  part_changed part.Null = part.Null
  part_changed (part.Value value) = part.Value (typed_changed names (type_changed names) value)

  abbrev pub node_changed : Node → Node
  node_changed node = record { number = node.number; parts = map part_changed node.parts; byte = place node.byte }

  -- the module with each of its names and places changed, and another table of names
  abbrev pub module_changed : List NameText → LlModule → LlModule
  module_changed table m = record {
    targets = map target_changed m.targets;
    structs = map struct_changed m.structs;
    variables = map variable_changed m.variables;
    declares = map head_changed m.declares;
    functions = map function_changed m.functions;
    bodies = map body_changed m.bodies;
    ocl_version = map node_ref_changed m.ocl_version;
    nodes = map node_changed m.nodes;
    pointer = m.pointer;
    names = table;
  }

-- the module with each place in it at the text's first byte
unfoldable pub without_places : LlModule → LlModule
without_places m = module_changed name_unplaced (λ byte. 0) m.names m

-- the same module, places aside
abbrev pub IsSame : LlModule → LlModule → Type 0
IsSame m n = without_places m ≡ without_places n
