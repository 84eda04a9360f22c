-- Kernels that are the same, where places, the target lines and alignments that are left out don't count.
use Rattle.std.specs.Prelude.{◌≡◌, true, map}
use Rattle.ll_tree.specs.declared.name.Name.{Name}
use Rattle.kernel_tree.specs.declared.kernel.Kernel.{Kernel}
use Rattle.kernel_tree.specs.declared.kernel.KernelInst.{KernelInst}
use Rattle.kernel_tree.specs.declared.kernel.KernelInst.TheVariants.{Add, Load, Store}
use Rattle.kernel_tree.specs.declared.kernel.KernelParam.{KernelParam}
use Rattle.kernel_tree.specs.Numbered.{name_bytes}

abbrev pub bare : Name → Name
bare name = record { number = name.number; byte = 0 }

abbrev pub bare_param : KernelParam → KernelParam
bare_param param = record { value_type = param.value_type; name = bare param.name }

abbrev pub bare_inst : KernelInst → KernelInst
bare_inst (Add sum left right) = Add (bare sum) (bare left) (bare right)
bare_inst (Load loaded pointer is_aligned) = Load (bare loaded) (bare pointer) true
bare_inst (Store value pointer is_aligned) = Store (bare value) (bare pointer) true

pub record IsSameKernel (kernel other : Kernel) : Type 0 where
  pub name : name_bytes kernel ≡ name_bytes other
  pub params : map bare_param kernel.params ≡ map bare_param other.params
  pub block : kernel.block.number ≡ other.block.number
  pub insts : map bare_inst kernel.insts ≡ map bare_inst other.insts
