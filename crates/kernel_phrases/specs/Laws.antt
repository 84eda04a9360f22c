-- What the module of a canonical kernel is written as.
use Rattle.std.specs.Prelude.{◌≡◌, ◌≤◌}
use Rattle.kernel_tree.specs.declared.kernel.Kernel.{Kernel}
use Rattle.kernel_tree.specs.Modules.{text_module}
use Rattle.kernel_tree.specs.Numbered.{definition_count}
use Rattle.kernel_tree.specs.Text.{kernel_text}
use Rattle.kernel_reading.specs.CanonicalKernels.{IsCanonicalKernel}
use Rattle.ll_phrases.specs.Phrases.{written}
use Rattle.ll_printed.specs.ModulePhrases.{module_phrase}

-- The module of a canonical kernel is written as the kernel's text, where it defines 2^22 - 1 names at most: so every name's number is below
-- 2^31, and none is left out
abbrev pub CanonicalKernelsAreWritten : Type 0
CanonicalKernelsAreWritten =
    (kernel : Kernel) → IsCanonicalKernel kernel → definition_count kernel ≤ 4194303 → written (module_phrase (text_module kernel)) ≡ kernel_text kernel
