-- What holds of canonical forms.
use Rattle.std.specs.Prelude.{◌≡◌, true, is_some, slice_get}
use Rattle.kernel_tree.specs.declared.kernel.Kernel.{Kernel}
use Rattle.kernel_tree.specs.Canonical.{canonical}
use Rattle.kernel_tree.specs.Covered.{first_undefined, is_covered}
use Rattle.kernel_tree.specs.Numbered.{IsNumbered}
use Rattle.kernel_tree.specs.Same.{HasOnce, IsSameKernel}

-- a kernel of the covered subset has a canonical form with numbered names
abbrev pub CanonicalIsNumbered : Type 0
CanonicalIsNumbered = (kernel : Kernel) → is_covered kernel ≡ true → IsNumbered (canonical kernel)

-- the canonical form is its own, where the kernel's own name is in the table
abbrev pub CanonicalIsItsOwn : Type 0
CanonicalIsItsOwn = (kernel : Kernel) → is_covered kernel ≡ true → is_some (slice_get kernel.names kernel.name.number) ≡ true → canonical (canonical kernel) ≡ canonical kernel

-- what is told of a kernel does not depend on the numbers that a table gives to its names
abbrev pub SameKernelsAreOne : Type 0
SameKernelsAreOne =
    (kernel other : Kernel) → HasOnce kernel.names → HasOnce other.names → IsSameKernel kernel other
    → (first_undefined kernel ≡ first_undefined other) × (is_covered kernel ≡ is_covered other) × (canonical kernel ≡ canonical other)
