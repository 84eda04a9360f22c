-- The names of a kernel's values, by their numbers, and their types.
use Rattle.std.specs.Prelude.{◌≡◌, ℕ, nat_eq, List, [], ◌∷◌, ◌++◌, All, map, flat_map, Some}
use Rattle.std.specs.Map.{lookup}
use Rattle.kernel_tree.specs.declared.kernel.Kernel.{Kernel}
use Rattle.kernel_tree.specs.declared.kernel.KernelInst.{KernelInst}
use Rattle.kernel_tree.specs.declared.kernel.KernelInst.TheVariants.{Add, Load, Store}
use Rattle.kernel_tree.specs.declared.kernel.KernelParam.{KernelParam}
use Rattle.kernel_tree.specs.declared.kernel.ValueType.{ValueType}
use Rattle.kernel_tree.specs.declared.kernel.ValueType.TheVariants.{Int}
use Rattle.kernel_tree.specs.declared.names.Use.{Use}
use Rattle.kernel_tree.specs.Names.{uses}

abbrev pub param_number : KernelParam → ℕ
param_number param = param.name.number

-- the values that an instruction names: first the one that it defines
abbrev pub inst_numbers : KernelInst → List ℕ
inst_numbers (Add sum left right) = sum.number ∷ left.number ∷ right.number ∷ []
inst_numbers (Load loaded pointer is_aligned) = loaded.number ∷ pointer.number ∷ []
inst_numbers (Store value pointer is_aligned) = value.number ∷ pointer.number ∷ []

-- the values that a kernel names
abbrev pub value_numbers : Kernel → List ℕ
value_numbers kernel = map param_number kernel.params ++ flat_map inst_numbers kernel.insts

abbrev pub param_typed : KernelParam → ℕ × ValueType
param_typed param = (param.name.number, param.value_type)

abbrev pub result_typed : KernelInst → List (ℕ × ValueType)
result_typed (Add sum left right) = (sum.number, Int) ∷ []
result_typed (Load loaded pointer is_aligned) = (loaded.number, Int) ∷ []
result_typed (Store value pointer is_aligned) = []

-- the values that a kernel defines, each with its type
abbrev pub typed_values : Kernel → List (ℕ × ValueType)
typed_values kernel = map param_typed kernel.params ++ flat_map result_typed kernel.insts

-- the value that is used is defined, and first with the type that the use asks for
abbrev pub IsTypedUse : Kernel → Use → Type 0
IsTypedUse kernel used = lookup (nat_eq used.name.number) (typed_values kernel) ≡ Some used.value_type

-- each value that a kernel uses is defined with the type that the use asks for
abbrev pub IsTyped : Kernel → Type 0
IsTyped kernel = All (IsTypedUse kernel) (uses kernel)
