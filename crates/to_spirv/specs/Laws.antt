-- What follows of the definitions.
use Rattle.std.specs.Prelude.{◌≡◌, ℕ, ◌-◌, ◌<◌, List, All, true}
use Rattle.std.specs.List.{flat_map, range_with_len}
use Rattle.std.specs.Option.{option_to_list}
use Rattle.spv_words.specs.declared.words.Order.TheVariants.{Little}
use Rattle.spv_words.specs.Strings.{terminated}
use Rattle.spv_words.specs.Words.{IsWords}
use Rattle.spv_codec.specs.declared.module.RawInst.{RawInst}
use Rattle.spv_codec.specs.Framing.{IsRight, module_words}
use Rattle.spv_codec.specs.Ids.{kinds_of, result_id}
use Rattle.spv_module.specs.FirstKernel.{first_kernel, first_kernel_words}
use Rattle.spv_module.specs.Sections.{sections, flattened}
use Rattle.spv_module.specs.Texts.{text_words}
use Rattle.kernel_tree.specs.declared.kernel.Kernel.{Kernel}
use Rattle.kernel_tree.specs.declared.kernel.KernelInst.{KernelInst}
use Rattle.kernel_tree.specs.declared.kernel.KernelInst.TheVariants.{Add, Load, Store}
use Rattle.kernel_tree.specs.Modules.{text_module}
use Rattle.kernel_tree.specs.Numbered.{IsNumbered}
use Rattle.to_spirv.specs.FirstKernels.{empty_kernel, empty_kernel_words, adding_kernel}
use Rattle.to_spirv.specs.Limits.{HasPlainName, IsWithinLimits}
use Rattle.to_spirv.specs.Pairing.{Pairs}
use Rattle.to_spirv.specs.Partner.{bound_of, partner}
use Rattle.to_spirv.specs.SameKernels.{IsSameKernel}

-- the words of a text are those of its bytes, and of the zero bytes behind it
abbrev pub TextHasItsWords : Type 0
TextHasItsWords = (text : List ℕ) → All (λ byte. byte < 256) text → IsWords (terminated text) Little (text_words text)

-- the words of a kernel's module keep the rules of framing
abbrev pub PartnerKeepsFraming : Type 0
PartnerKeepsFraming = (kernel : Kernel) → IsNumbered kernel → IsWithinLimits kernel → HasPlainName kernel → IsRight (flattened (partner kernel))

-- the ids that instructions define, in their order
abbrev pub ids_defined : List RawInst → List ℕ
ids_defined insts = flat_map (λ inst. option_to_list (result_id (kinds_of inst.op) inst.operands)) insts

-- the ids of a kernel's module count from 1 up to its bound
abbrev pub IdsAreInOrder : Type 0
IdsAreInOrder = (kernel : Kernel) → IsNumbered kernel → ids_defined (sections (partner kernel)) ≡ range_with_len 1 (bound_of kernel - 1)

-- an access of memory has its alignment written
abbrev pub IsAligned : KernelInst → Type 0
IsAligned (Add sum left right) = Unit {0}
IsAligned (Load loaded pointer is_aligned) = is_aligned ≡ true
IsAligned (Store value pointer is_aligned) = is_aligned ≡ true

-- a kernel whose own name is the first of its names, and its module are a pair
abbrev pub PartnerPairs : Type 0
PartnerPairs = (kernel : Kernel) → kernel.name.number ≡ 0 → All IsAligned kernel.insts → Pairs (text_module kernel) (partner kernel)

-- kernels whose modules have the same words are the same
abbrev pub PartnersDiffer : Type 0
PartnersDiffer =
    (kernel other : Kernel) → IsNumbered kernel → IsNumbered other → IsWithinLimits kernel → IsWithinLimits other → HasPlainName kernel → HasPlainName other
    → module_words (flattened (partner kernel)) ≡ module_words (flattened (partner other)) → IsSameKernel kernel other

-- no other kernel makes a pair with the module of a kernel
abbrev pub PartnerPairsWithOne : Type 0
PartnerPairsWithOne =
    (kernel other : Kernel) → IsNumbered kernel → IsNumbered other → other.name.number ≡ 0 → Pairs (text_module other) (partner kernel) → IsSameKernel kernel other

-- the module of a kernel, and its words, are those that are known
pub record FirstKernelsHaveTheirWords : Type 0 where
  pub empty_numbered : IsNumbered empty_kernel
  pub empty_words : module_words (flattened (partner empty_kernel)) ≡ empty_kernel_words
  pub adding_numbered : IsNumbered adding_kernel
  pub adding_module : partner adding_kernel ≡ first_kernel
  pub adding_words : module_words (flattened (partner adding_kernel)) ≡ first_kernel_words
