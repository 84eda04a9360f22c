-- Kernels whose names have ids that are words.
use Rattle.std.specs.Prelude.{ℕ, ◌+◌, ◌^◌, ◌<◌, All}
use Rattle.kernel_tree.specs.declared.kernel.Kernel.{Kernel}
use Rattle.kernel_tree.specs.declared.kernel.KernelInst.{KernelInst}
use Rattle.kernel_tree.specs.declared.kernel.KernelInst.TheVariants.{Add, Load, Store}
use Rattle.kernel_tree.specs.declared.kernel.KernelParam.{KernelParam}
use Rattle.to_spirv.specs.declared.ids.Ids.{Ids}

-- the number of each name of an instruction
abbrev pub EachNumber : (ℕ → Type 0) → KernelInst → Type 0
EachNumber P (Add sum left right) = P sum.number × P left.number × P right.number
EachNumber P (Load loaded pointer is_aligned) = P loaded.number × P pointer.number
EachNumber P (Store value pointer is_aligned) = P value.number × P pointer.number

abbrev pub HasId : Ids → ℕ → Type 0
HasId ids number = ids.function + number < 2 ^ 32

abbrev pub HasInstIds : Ids → KernelInst → Type 0
HasInstIds ids inst = EachNumber (HasId ids) inst

abbrev pub HasParamId : Ids → KernelParam → Type 0
HasParamId ids param = HasId ids param.name.number

pub record HasIds (ids : Ids) (kernel : Kernel) : Type 0 where
  pub params : All (HasParamId ids) kernel.params
  pub block : HasId ids kernel.block.number
  pub insts : All (HasInstIds ids) kernel.insts
