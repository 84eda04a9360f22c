-- A small kernel whose canonical form is printed and read again.
use Rattle.kernel_tree.specs.Canonical.{canonical}
use Rattle.kernel_text.specs.Examples.{example_kernel}
use Rattle.kernel_reading.specs.CanonicalKernels.{IsCanonicalKernel, IsPrinted}

abbrev pub ExampleIsPrinted : Type 0
ExampleIsPrinted = IsCanonicalKernel (canonical example_kernel) × IsPrinted (canonical example_kernel)
