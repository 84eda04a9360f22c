-- A module that is changed into itself.
use Rattle.std.proofs.Common.{◌≡◌, ℕ, refl, ap}
use Rattle.inst_walk.specs.declared.body.Block.{Block}
use Rattle.inst_walk.specs.declared.body.Body.{Body}
use Rattle.ll_tree.specs.declared.inst.Inst.{Inst}
use Rattle.ll_tree.specs.declared.module.Attribute.{Attribute}
use Rattle.ll_tree.specs.declared.module.AttributeKind.{AttributeKind}
use Rattle.ll_tree.specs.declared.module.AttributeKind.TheVariants.{ByVal, SRet}
use Rattle.ll_tree.specs.declared.module.Function.{Function}
use Rattle.ll_tree.specs.declared.module.Head.{Head}
use Rattle.ll_tree.specs.declared.module.LlModule.{LlModule}
use Rattle.ll_tree.specs.declared.module.Node.{Node}
use Rattle.ll_tree.specs.declared.module.NodePart.{NodePart}
use Rattle.ll_tree.specs.declared.module.NodePart.TheVariants as part
use Rattle.ll_tree.specs.declared.module.Param.{Param}
use Rattle.ll_tree.specs.declared.module.Struct.{Struct}
use Rattle.ll_tree.specs.declared.module.Variable.{Variable}
use Rattle.ll_tree.specs.Insts.{inst_changed}
use Rattle.ll_tree.specs.Modules as modules
use Rattle.ll_tree.specs.Types.{type_changed}
use Rattle.ll_one_module.proofs.Same.{itself, kept, map-kept, op-kept, option-kept, type-kept, typed-kept, value-kept}

struct-kept : (s : Struct) → modules.struct_changed itself kept s ≡ s
struct-kept s = λ i. record { name = s.name; ty = type-kept s.ty i }

variable-kept : (v : Variable) → modules.variable_changed itself kept v ≡ v
variable-kept v = λ i. record { name = v.name; linkage = v.linkage; space = v.space; ty = type-kept v.ty i; init = value-kept v.init i; align = v.align }

kind-kept : (k : AttributeKind) → modules.attribute_kind_changed itself kept k ≡ k
kind-kept (ByVal t) = ap ByVal (option-kept (type_changed itself) type-kept t)
kind-kept (SRet t) = ap SRet (option-kept (type_changed itself) type-kept t)
kind-kept other = refl

attribute-kept : (a : Attribute) → modules.attribute_changed itself kept a ≡ a
attribute-kept a = λ i. record { kind = kind-kept a.kind i; byte = a.byte }

param-kept : (p : Param) → modules.param_changed itself kept p ≡ p
param-kept p = λ i. record { ty = type-kept p.ty i; attributes = map-kept (modules.attribute_changed itself kept) attribute-kept p.attributes i; name = option-kept itself (λ n. refl) p.name i }

head-kept : (h : Head) → modules.head_changed itself kept h ≡ h
head-kept h = λ i. record {
  byte = h.byte;
  name = h.name;
  linkage = h.linkage;
  is_kernel = h.is_kernel;
  attributes = map-kept (modules.attribute_changed itself kept) attribute-kept h.attributes i;
  ty = type-kept h.ty i;
  params = map-kept (modules.param_changed itself kept) param-kept h.params i;
}

function-kept : (f : Function) → modules.function_changed itself kept f ≡ f
function-kept f = λ i. record {
  head = head-kept f.head i;
  kernel_arg_type = option-kept (modules.node_ref_changed itself kept) (λ n. refl) f.kernel_arg_type i;
  reqd_work_group_size = option-kept (modules.node_ref_changed itself kept) (λ n. refl) f.reqd_work_group_size i;
  work_group_size_hint = option-kept (modules.node_ref_changed itself kept) (λ n. refl) f.work_group_size_hint i;
  labels = map-kept kept (λ n. refl) f.labels i;
}

inst-kept : (x : Inst) → inst_changed itself kept x ≡ x
inst-kept x = λ i. record { byte = x.byte; defines = option-kept itself (λ n. refl) x.defines i; op = op-kept x.op i }

pub block-kept : (b : Block Inst ℕ) → modules.block_changed itself kept b ≡ b
block-kept b = λ i. record { name = b.name; insts = map-kept (inst_changed itself kept) inst-kept b.insts i }

body-kept : (b : Body Inst ℕ) → modules.body_changed itself kept b ≡ b
body-kept b = λ i. record { params = map-kept (modules.number_changed itself kept) (λ n. refl) b.params i; blocks = map-kept (modules.block_changed itself kept) block-kept b.blocks i }

part-kept : (p : NodePart) → modules.part_changed itself kept p ≡ p
part-kept (part.Node n) = refl
part-kept (part.Text text) = refl
part-kept part.Null = refl
part-kept (part.Value v) = ap part.Value (typed-kept v)

node-kept : (n : Node) → modules.node_changed itself kept n ≡ n
node-kept n = λ i. record { number = n.number; parts = map-kept (modules.part_changed itself kept) part-kept n.parts i; byte = n.byte }

pub module-kept : (m : LlModule) → modules.module_changed itself kept m.names m ≡ m
module-kept m = λ i. record {
  targets = map-kept (modules.target_changed itself kept) (λ x. refl) m.targets i;
  structs = map-kept (modules.struct_changed itself kept) struct-kept m.structs i;
  variables = map-kept (modules.variable_changed itself kept) variable-kept m.variables i;
  declares = map-kept (modules.head_changed itself kept) head-kept m.declares i;
  functions = map-kept (modules.function_changed itself kept) function-kept m.functions i;
  bodies = map-kept (modules.body_changed itself kept) body-kept m.bodies i;
  ocl_version = map-kept (modules.node_ref_changed itself kept) (λ x. refl) m.ocl_version i;
  nodes = map-kept (modules.node_changed itself kept) node-kept m.nodes i;
  pointer = m.pointer;
  names = m.names;
}
