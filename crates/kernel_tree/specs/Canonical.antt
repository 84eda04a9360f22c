-- The canonical form of a kernel, as a chain of forms of the whole kernel.
use Rattle.std.specs.Prelude.{ℕ, ◌+◌, true, List, ◌++◌, map, slice_get, nat_eq, unwrap_or}
use Rattle.std.specs.List.{range_with_len}
use Rattle.std.specs.Option.{option_to_list}
use Rattle.inst_walk.specs.Places.{place_of}
use Rattle.ll_tree.specs.declared.name.Name.{Name}
use Rattle.ll_tree.specs.declared.name.NameKind.TheVariants.{Local}
use Rattle.ll_tree.specs.declared.name.NameText.{NameText}
use Rattle.ll_tree.specs.declared.name.Spelling.TheVariants.{Number}
use Rattle.kernel_tree.specs.declared.kernel.Kernel.{Kernel}
use Rattle.kernel_tree.specs.declared.kernel.KernelInst.{KernelInst}
use Rattle.kernel_tree.specs.declared.kernel.KernelInst.TheVariants.{Add, Load, Store}
use Rattle.kernel_tree.specs.declared.kernel.KernelParam.{KernelParam}
use Rattle.kernel_tree.specs.Names.{definitions}
use Rattle.kernel_tree.specs.Numbered.{number_defined, definition_count}

-- the two target lines stand before the kernel
abbrev pub with_targets : Kernel → Kernel
with_targets kernel = record { has_targets = true; name = kernel.name; params = kernel.params; block = kernel.block; insts = kernel.insts; names = kernel.names }

abbrev pub inst_aligned : KernelInst → KernelInst
inst_aligned (Add sum left right) = Add sum left right
inst_aligned (Load loaded pointer is_aligned) = Load loaded pointer true
inst_aligned (Store value pointer is_aligned) = Store value pointer true

-- each alignment that is absent is that of the type, which `i32` has
abbrev pub aligned : Kernel → Kernel
aligned kernel = record { has_targets = kernel.has_targets; name = kernel.name; params = kernel.params; block = kernel.block; insts = map inst_aligned kernel.insts; names = kernel.names }

-- the numbers that the table gives to the defined names, in the order of the definitions
abbrev pub numbers_defined : Kernel → List ℕ
numbers_defined kernel = map number_defined (definitions kernel)

module _ (numbers : List ℕ) where
  -- a name by its place among the definitions, behind the kernel's own name
  abbrev pub numbered_name : Name → Name
  numbered_name name = record { number = 1 + unwrap_or (place_of nat_eq numbers name.number) 0; byte = 0 }

  abbrev pub param_numbered : KernelParam → KernelParam
  param_numbered param = record { value_type = param.value_type; name = numbered_name param.name }

  abbrev pub inst_numbered : KernelInst → KernelInst
  inst_numbered (Add sum left right) = Add (numbered_name sum) (numbered_name left) (numbered_name right)
  inst_numbered (Load loaded pointer is_aligned) = Load (numbered_name loaded) (numbered_name pointer) is_aligned
  inst_numbered (Store value pointer is_aligned) = Store (numbered_name value) (numbered_name pointer) is_aligned

abbrev pub number_entry : ℕ → NameText
number_entry number = record { kind = Local; spelling = Number number }

-- the table of the kernel's own name, and of as many numbers
abbrev pub numbered_names : Kernel → List NameText
numbered_names kernel =
    option_to_list (slice_get kernel.names kernel.name.number) ++ map number_entry (range_with_len 0 (definition_count kernel))

-- every name is its number, and no name has a place
abbrev pub numbered : Kernel → Kernel
numbered kernel = record {
  has_targets = kernel.has_targets;
  name = record { number = 0; byte = 0 };
  params = map (param_numbered (numbers_defined kernel)) kernel.params;
  block = numbered_name (numbers_defined kernel) kernel.block;
  insts = map (inst_numbered (numbers_defined kernel)) kernel.insts;
  names = numbered_names kernel;
}

abbrev pub canonical : Kernel → Kernel
canonical kernel = numbered (aligned (with_targets kernel))
