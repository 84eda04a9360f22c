-- The facts that the laws ask for, on small kernels.
use Rattle.std.specs.Prelude.{ℕ, ◌+◌, nat_eq, List, [], ◌∷◌, unwrap_or}
use Rattle.std.specs.Map.{lookup}
use Rattle.spv_module.specs.FirstKernel.{first_kernel}
use Rattle.kernel_runs.specs.FirstKernel.{first_written, first_numbered}
use Rattle.kernel_runs.specs.Names.{IsTyped}
use Rattle.kernel_runs.specs.Images.{IsRenamed, IsImage}

-- the numbers of the names of values, each with that under which the numbered kernel has it
abbrev numbers : List (ℕ × ℕ)
numbers = (0, 1) ∷ (1, 2) ∷ (2, 4) ∷ (4, 5) ∷ []

abbrev pub numbered : ℕ → ℕ
numbered number = unwrap_or (lookup (nat_eq number) numbers) number

-- the id of a value
abbrev pub first_id : ℕ → ℕ
first_id number = 5 + number

-- the numbered kernel is the written one under other names, and the module of the binary has its instructions
pub record FirstImages : Type 0 where
  pub typed_written : IsTyped first_written
  pub typed : IsTyped first_numbered
  pub renamed : IsRenamed first_written numbered first_numbered
  pub image : IsImage first_numbered first_id first_kernel
