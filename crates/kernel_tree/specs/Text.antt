-- The text of a kernel with numbered names as it is printed: an item or an instruction a line (LLVM 14, Identifiers; Functions).
use Rattle.std.specs.Prelude.{ℕ, ◌-◌, Bool, true, false, List, [], ◌∷◌, ◌++◌, flat_map, codes, decimal}
use Rattle.ll_tree.specs.declared.name.Name.{Name}
use Rattle.kernel_tree.specs.declared.kernel.Kernel.{Kernel}
use Rattle.kernel_tree.specs.declared.kernel.KernelInst.{KernelInst}
use Rattle.kernel_tree.specs.declared.kernel.KernelInst.TheVariants.{Add, Load, Store}
use Rattle.kernel_tree.specs.declared.kernel.KernelParam.{KernelParam}
use Rattle.kernel_tree.specs.declared.kernel.ValueType.{ValueType}
use Rattle.kernel_tree.specs.declared.kernel.ValueType.TheVariants.{Int, Pointer}
use Rattle.kernel_tree.specs.Modules.{layout_text, triple_text}
use Rattle.kernel_tree.specs.Numbered.{name_bytes}

-- 34 is a quotation mark, and 10 a line feed
abbrev pub layout_line : List ℕ
layout_line = codes "target datalayout = " ++ (34 ∷ [] ++ (layout_text ++ (34 ∷ 10 ∷ [])))

abbrev pub triple_line : List ℕ
triple_line = codes "target triple = " ++ (34 ∷ [] ++ (triple_text ++ (34 ∷ 10 ∷ [])))

abbrev pub targets_text : Bool → List ℕ
targets_text true = layout_line ++ triple_line
targets_text false = []

-- a name of the function stands behind the kernel's own in the table, and so does its number
abbrev pub name_text : Name → List ℕ
name_text name = decimal (name.number - 1)

abbrev pub type_text : ValueType → List ℕ
type_text Int = codes "i32"
type_text Pointer = codes "i32 addrspace(1)*"

abbrev pub align_text : Bool → List ℕ
align_text true = codes ", align 4"
align_text false = []

abbrev pub param_text : KernelParam → List ℕ
param_text param = type_text param.value_type ++ (codes " %" ++ name_text param.name)

-- parameters with a comma before each
abbrev pub params_behind : List KernelParam → List ℕ
params_behind params = flat_map (λ param. codes ", " ++ param_text param) params

abbrev pub params_text : List KernelParam → List ℕ
params_text [] = []
params_text (param ∷ params) = param_text param ++ params_behind params

-- the pointer operand of a load or a store, and its alignment
abbrev pub access_text : Name → Bool → List ℕ
access_text pointer is_aligned = codes "i32 addrspace(1)* %" ++ (name_text pointer ++ align_text is_aligned)

abbrev pub inst_text : KernelInst → List ℕ
inst_text (Add sum left right) =
    codes "  %" ++ (name_text sum ++ (codes " = add i32 %" ++ (name_text left ++ (codes ", %" ++ (name_text right ++ 10 ∷ [])))))
inst_text (Load loaded pointer is_aligned) =
    codes "  %" ++ (name_text loaded ++ (codes " = load i32, " ++ (access_text pointer is_aligned ++ 10 ∷ [])))
inst_text (Store value pointer is_aligned) =
    codes "  store i32 %" ++ (name_text value ++ (codes ", " ++ (access_text pointer is_aligned ++ 10 ∷ [])))

-- what stands before the parameters, and between them and the instructions
abbrev pub name_line : Kernel → List ℕ
name_line kernel = codes "define spir_kernel void @" ++ (name_bytes kernel ++ codes "(")

abbrev pub label_line : Name → List ℕ
label_line block = codes ") {" ++ (10 ∷ [] ++ (name_text block ++ (codes ":" ++ 10 ∷ [])))

abbrev pub end_lines : List ℕ
end_lines = codes "  ret void" ++ (10 ∷ [] ++ (codes "}" ++ 10 ∷ []))

abbrev pub kernel_text : Kernel → List ℕ
kernel_text kernel =
    targets_text kernel.has_targets
    ++ (name_line kernel ++ (params_text kernel.params ++ (label_line kernel.block ++ (flat_map inst_text kernel.insts ++ end_lines))))
