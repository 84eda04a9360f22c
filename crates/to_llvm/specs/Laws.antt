-- What follows of the definitions.
use Rattle.std.specs.Prelude.{◌≡◌, ◌↔◌, ℕ, List}
use Rattle.spv_words.specs.declared.words.Order.{Order}
use Rattle.spv_words.specs.Words.{words_bytes}
use Rattle.spv_codec.specs.declared.module.RawModule.{RawModule}
use Rattle.spv_codec.specs.Framing.{IsSpirv, module_words}
use Rattle.spv_module.specs.FirstKernel.{first_kernel}
use Rattle.spv_module.specs.Sections.{flattened}
use Rattle.kernel_tree.specs.declared.kernel.Kernel.{Kernel}
use Rattle.kernel_tree.specs.Canonical.{canonical}
use Rattle.to_spirv.specs.FirstKernels.{adding_kernel}
use Rattle.to_spirv.specs.Limits.{HasPlainName, IsWithinLimits}
use Rattle.to_spirv.specs.Partner.{partner}
use Rattle.kernel_reading.specs.CanonicalKernels.{IsCanonicalKernel}
use Rattle.to_llvm.specs.Guesses.{guessed}
use Rattle.to_llvm.specs.ModulesOf.{IsBinaryOf, IsModuleOf}

-- the instructions of a canonical kernel's module are taken for that kernel
abbrev pub GuessIsRight : Type 0
GuessIsRight = (kernel : Kernel) → IsCanonicalKernel kernel → HasPlainName kernel → guessed (flattened (partner kernel)).insts ≡ kernel

-- a module is that of one canonical kernel at most
abbrev pub OneKernel : Type 0
OneKernel =
    (raw : RawModule) (kernel other : Kernel) → IsCanonicalKernel kernel → IsCanonicalKernel other → IsModuleOf raw kernel → IsModuleOf raw other
    → kernel ≡ other

-- canonical kernels whose modules have the same bytes are the same
abbrev pub CanonicalModulesDiffer : Type 0
CanonicalModulesDiffer =
    (kernel other : Kernel) → IsCanonicalKernel kernel → IsCanonicalKernel other → IsWithinLimits kernel → IsWithinLimits other
    → HasPlainName kernel → HasPlainName other → (order : Order)
    → words_bytes order (module_words (flattened (partner kernel))) ≡ words_bytes order (module_words (flattened (partner other))) → kernel ≡ other

-- the module that bytes spell is that of a canonical kernel exactly where they are the bytes of that kernel's module
abbrev pub BinariesAreModules : Type 0
BinariesAreModules =
    (bytes : List ℕ) (raw : RawModule) (kernel : Kernel) → IsSpirv bytes raw → IsCanonicalKernel kernel → IsModuleOf raw kernel ↔ IsBinaryOf bytes kernel

-- the module of the small kernel whose words are known is that of a canonical kernel
pub record FirstKernelIsFound : Type 0 where
  pub is_canonical : IsCanonicalKernel (canonical adding_kernel)
  pub has_module : IsModuleOf (flattened first_kernel) (canonical adding_kernel)
  pub is_guessed : guessed (flattened first_kernel).insts ≡ canonical adding_kernel
