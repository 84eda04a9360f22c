-- What is told of a kernel: its canonical form, or why it has none.
use Rattle.std.specs.Prelude.{◌≡◌, true, false, None, Some}
use Rattle.kernel_tree.specs.declared.kernel.Kernel.{Kernel}
use Rattle.kernel_tree.specs.Canonical.{canonical}
use Rattle.kernel_tree.specs.Covered.{first_undefined, is_covered}
use Rattle.ll_canon.specs.declared.canonical_form.CanonError.{CanonError}
use Rattle.ll_canon.specs.declared.canonical_form.CanonError.TheVariants.{NoMemory, Undefined, Outside}

-- the kernel is in the covered subset, and this is its canonical form
pub record IsCanonized (kernel form : Kernel) : Type 0 where
  pub defined : first_undefined kernel ≡ None
  pub covered : is_covered kernel ≡ true
  pub made : form ≡ canonical kernel

-- the first used name that is defined nowhere is told before all else
abbrev pub IsUncovered : Kernel → CanonError → Type 0
IsUncovered kernel NoMemory = Unit {0}
IsUncovered kernel (Undefined byte) = first_undefined kernel ≡ Some byte
IsUncovered kernel Outside = (first_undefined kernel ≡ None) × (is_covered kernel ≡ false)
