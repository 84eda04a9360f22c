-- Kernels that have a canonical form, and a name of their own.
use Rattle.std.specs.Prelude.{◌≡◌, true, None, slice_get}
use Rattle.kernel_tree.specs.declared.kernel.Kernel.{Kernel}
use Rattle.kernel_tree.specs.Covered.{first_undefined, is_covered}
use Rattle.kernel_reading.specs.CanonicalKernels.{IsOwnName}

pub record HasForm (kernel : Kernel) : Type 0 where
  pub defined : first_undefined kernel ≡ None
  pub covered : is_covered kernel ≡ true
  pub own_name : IsOwnName (slice_get kernel.names kernel.name.number)
