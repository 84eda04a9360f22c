-- What follows of the definitions.
use Rattle.std.specs.Prelude.{◌≡◌, All, true}
use Rattle.spv_module.specs.declared.module.SpvModule.{SpvModule}
use Rattle.kernel_tree.specs.declared.kernel.Kernel.{Kernel}
use Rattle.kernel_tree.specs.Covered.{is_covered}
use Rattle.kernel_tree.specs.Modules.{text_module}
use Rattle.kernel_tree.specs.Numbered.{IsNumbered}
use Rattle.to_spirv.specs.Laws.{IsAligned}
use Rattle.to_spirv.specs.Pairing.{Pairs}
use Rattle.to_spirv.specs.Partner.{partner}
use Rattle.spv_canon.specs.Canonical.{canonical_spirv}
use Rattle.spv_canon.specs.Sound.{HasSoundIds}
use Rattle.spv_canon.specs.Valid.{IsValid}

-- the modules that make a pair with a kernel's module of text have one canonical form
abbrev pub PairingRelatesOne : Type 0
PairingRelatesOne =
    (kernel : Kernel) (m : SpvModule) → IsNumbered kernel → kernel.name.number ≡ 0 → HasSoundIds m → Pairs (text_module kernel) m
    → canonical_spirv m ≡ partner kernel

-- the module of a kernel has sound ids
abbrev pub PartnerIsSound : Type 0
PartnerIsSound = (kernel : Kernel) → IsNumbered kernel → HasSoundIds (partner kernel)

-- the module of a kernel of the covered subset is valid
abbrev pub PartnerIsValid : Type 0
PartnerIsValid =
    (kernel : Kernel) → IsNumbered kernel → kernel.name.number ≡ 0 → All IsAligned kernel.insts → is_covered kernel ≡ true → IsValid (partner kernel)

-- the module of a kernel is its own canonical form
abbrev pub PartnerIsCanonical : Type 0
PartnerIsCanonical = (kernel : Kernel) → IsNumbered kernel → kernel.name.number ≡ 0 → All IsAligned kernel.insts → canonical_spirv (partner kernel) ≡ partner kernel

-- the canonical form of a module that makes a pair with a kernel's is its own
abbrev pub CanonicalIsItsOwn : Type 0
CanonicalIsItsOwn =
    (kernel : Kernel) (m : SpvModule) → IsNumbered kernel → kernel.name.number ≡ 0 → HasSoundIds m → Pairs (text_module kernel) m
    → canonical_spirv (canonical_spirv m) ≡ canonical_spirv m
