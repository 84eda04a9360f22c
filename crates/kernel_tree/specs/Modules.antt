-- The module of text that a kernel is, places of all but names aside (LLVM 14, Module Structure; Functions).
use Rattle.std.specs.Prelude.{ℕ, Bool, true, false, List, [], ◌∷◌, ◌++◌, Option, None, Some, map, codes}
use Rattle.inst_walk.specs.declared.body.Body.{Body}
use Rattle.kern_lanes.specs.declared.binary.BinOp.TheVariants.{Add as sum_of}
use Rattle.kern_types.specs.declared.class.PointerWidth.TheVariants.{P64}
use Rattle.ll_tree.specs.declared.inst.Inst.{Inst}
use Rattle.ll_tree.specs.declared.module.Function.{Function}
use Rattle.ll_tree.specs.declared.module.Linkage.TheVariants.{External}
use Rattle.ll_tree.specs.declared.module.LlModule.{LlModule}
use Rattle.ll_tree.specs.declared.module.Param.{Param}
use Rattle.ll_tree.specs.declared.module.Target.{Target}
use Rattle.ll_tree.specs.declared.module.TargetKind.TheVariants.{DataLayout, Triple}
use Rattle.ll_tree.specs.declared.name.Name.{Name}
use Rattle.ll_tree.specs.declared.op.Op.{Op}
use Rattle.ll_tree.specs.declared.op.Op.TheVariants as op
use Rattle.ll_tree.specs.declared.ty.LlType.{LlType}
use Rattle.ll_tree.specs.declared.ty.TypeBase.{Int as int_base, Void as void_base}
use Rattle.ll_tree.specs.declared.value.TypedValue.{TypedValue}
use Rattle.ll_tree.specs.declared.value.Value.{Local as local}
use Rattle.kernel_tree.specs.declared.kernel.Kernel.{Kernel}
use Rattle.kernel_tree.specs.declared.kernel.KernelInst.{KernelInst}
use Rattle.kernel_tree.specs.declared.kernel.KernelInst.TheVariants.{Add, Load, Store}
use Rattle.kernel_tree.specs.declared.kernel.KernelParam.{KernelParam}
use Rattle.kernel_tree.specs.declared.kernel.ValueType.{ValueType}
use Rattle.kernel_tree.specs.declared.kernel.ValueType.TheVariants.{Int, Pointer}

-- the text of the layout that kernels have here (LLVM 14, Data Layout)
abbrev pub layout_text : List ℕ
layout_text = codes "e-i64:64-v16:16-v24:32-v32:32-v48:64-v96:128-v192:256-v256:256-v512:512-v1024:1024"

abbrev pub triple_text : List ℕ
triple_text = codes "spir64-unknown-unknown"

-- the two target lines
abbrev pub targets : List Target
targets = record { kind = DataLayout; text = layout_text; byte = 0 } ∷ record { kind = Triple; text = triple_text; byte = 0 } ∷ []

abbrev pub targets_where : Bool → List Target
targets_where true = targets
targets_where false = []

-- `i32`, with a `*` behind it for each of these address spaces
abbrev pub int_type : List ℕ → LlType
int_type pointers = record { base = int_base 32; pointers = pointers }

abbrev pub type_of : ValueType → LlType
type_of Int = int_type []
type_of Pointer = int_type (1 ∷ [])

abbrev pub value_of : ValueType → Name → TypedValue
value_of value_type name = record { ty = type_of value_type; value = local name }

abbrev pub align_where : Bool → Option ℕ
align_where true = Some 4
align_where false = None

abbrev pub operation : KernelInst → Op
operation (Add sum left right) = op.Binary sum_of [] (type_of Int) (local left) (local right)
operation (Load loaded pointer is_aligned) = op.Load false (type_of Int) (value_of Pointer pointer) (align_where is_aligned)
operation (Store value pointer is_aligned) = op.Store false (value_of Int value) (value_of Pointer pointer) (align_where is_aligned)

abbrev pub result_name : KernelInst → Option Name
result_name (Add sum left right) = Some sum
result_name (Load loaded pointer is_aligned) = Some loaded
result_name (Store value pointer is_aligned) = None

abbrev pub instruction : KernelInst → Inst
instruction inst = record { byte = 0; defines = result_name inst; op = operation inst }

-- the instruction that ends the block
abbrev pub end_of_block : Inst
end_of_block = record { byte = 0; defines = None; op = op.ReturnVoid }

abbrev pub parameter : KernelParam → Param
parameter param = record { ty = type_of param.value_type; attributes = []; name = Some param.name }

abbrev pub function : Kernel → Function
function kernel = record {
  head = record {
    byte = 0;
    name = kernel.name;
    linkage = External;
    is_kernel = true;
    attributes = [];
    ty = record { base = void_base; pointers = [] };
    params = map parameter kernel.params;
  };
  kernel_arg_type = None;
  reqd_work_group_size = None;
  work_group_size_hint = None;
  labels = 0 ∷ [];
}

abbrev pub body : Kernel → Body Inst ℕ
body kernel = record {
  params = map (λ param. param.name.number) kernel.params;
  blocks = record { name = kernel.block.number; insts = map instruction kernel.insts ++ end_of_block ∷ [] } ∷ [];
}

abbrev pub text_module : Kernel → LlModule
text_module kernel = record {
  targets = targets_where kernel.has_targets;
  structs = [];
  variables = [];
  declares = [];
  functions = function kernel ∷ [];
  bodies = body kernel ∷ [];
  ocl_version = [];
  nodes = [];
  pointer = P64;
  names = kernel.names;
}
