-- The names that a kernel defines and uses, in the order of its text (LLVM 14, Identifiers).
use Rattle.std.specs.Prelude.{List, [], ◌∷◌, ◌++◌, None, Some, map, flat_map}
use Rattle.std.specs.Option.{option_to_list, option_map}
use Rattle.ll_tree.specs.declared.name.Name.{Name}
use Rattle.kernel_tree.specs.declared.kernel.Kernel.{Kernel}
use Rattle.kernel_tree.specs.declared.kernel.KernelInst.{KernelInst}
use Rattle.kernel_tree.specs.declared.kernel.KernelInst.TheVariants.{Add, Load, Store}
use Rattle.kernel_tree.specs.declared.kernel.KernelParam.{KernelParam}
use Rattle.kernel_tree.specs.declared.kernel.ValueType.TheVariants.{Int, Pointer}
use Rattle.kernel_tree.specs.declared.names.Definition.{Definition}
use Rattle.kernel_tree.specs.declared.names.Use.{Use}
use Rattle.kernel_tree.specs.Modules.{result_name}

-- each value of an instruction is a number
abbrev pub result_definition : Name → Definition
result_definition name = record { name = name; value_type = Some Int }

abbrev pub defined_by : KernelInst → List Definition
defined_by inst = option_to_list (option_map result_definition (result_name inst))

abbrev pub int_use : Name → Use
int_use name = record { name = name; value_type = Int }

abbrev pub pointer_use : Name → Use
pointer_use name = record { name = name; value_type = Pointer }

abbrev pub used_by : KernelInst → List Use
used_by (Add sum left right) = int_use left ∷ int_use right ∷ []
used_by (Load loaded pointer is_aligned) = pointer_use pointer ∷ []
used_by (Store value pointer is_aligned) = int_use value ∷ pointer_use pointer ∷ []

abbrev pub param_definition : KernelParam → Definition
param_definition param = record { name = param.name; value_type = Some param.value_type }

abbrev pub block_definition : Name → Definition
block_definition name = record { name = name; value_type = None }

-- the parameters and the block
abbrev pub defined_above : Kernel → List Definition
defined_above kernel = map param_definition kernel.params ++ block_definition kernel.block ∷ []

-- the parameters, the block, and the values of the instructions
abbrev pub definitions : Kernel → List Definition
definitions kernel = defined_above kernel ++ flat_map defined_by kernel.insts

abbrev pub uses : Kernel → List Use
uses kernel = flat_map used_by kernel.insts
