-- Canonical forms are their own.
use Rattle.std.proofs.Common.{◌≡◌, ℕ, true, false, List, [], ◌∷◌, ◌++◌, map, All, refl, sym, ◌∙◌, ap}
use Rattle.std.proofs.lemmas.Bool.{false≢true}
use Rattle.std.proofs.lemmas.List.Elements.{All-nil, All-cons}
use Rattle.std.specs.List.{AllZip}
use Rattle.kernel_tree.specs.declared.kernel.Kernel.{Kernel}
use Rattle.kernel_tree.specs.declared.kernel.KernelInst.{KernelInst}
use Rattle.kernel_tree.specs.declared.kernel.KernelInst.TheVariants.{Add, Load, Store}
use Rattle.kernel_tree.specs.Modules.{end_of_block as text_end, instruction, text_module}
use Rattle.kernel_tree.specs.Numbered.{IsNumbered}
use Rattle.spv_module.specs.declared.inst.SpvInst.{SpvInst}
use Rattle.spv_module.specs.declared.module.SpvModule.{SpvModule}
use Rattle.spv_module.specs.NamedTypes.{NamedTypes}
use Rattle.to_spirv.specs.Laws.{IsAligned}
use Rattle.to_spirv.specs.Pairing.{Pairs, PairsInst}
use Rattle.to_spirv.specs.Partner.{partner}
use Rattle.to_spirv.proofs.AloneLemmas.{is_known}
use Rattle.to_spirv.proofs.PairLemmas.{pairs}
use Rattle.spv_canon.specs.Canonical.{canonical_spirv}
use Rattle.spv_canon.specs.Sound.{HasSoundIds}
use Rattle.spv_canon.proofs.OneForm.{has-parts, one-form}
use Rattle.spv_canon.proofs.SoundPartner.{partner-sound}

-- accesses that have a partner have their alignment written
insts-aligned : (f : ℕ → ℕ) (types : NamedTypes) (insts : List KernelInst) (spvs : List SpvInst) → AllZip (PairsInst f types) (map instruction insts ++ text_end ∷ []) spvs
    → All IsAligned insts
insts-aligned f types [] spvs all = All-nil IsAligned
insts-aligned f types (inst ∷ insts) [] all = absurd all
insts-aligned f types (inst ∷ insts) (spv ∷ spvs) all = All-cons IsAligned inst insts (here inst all.0) (insts-aligned f types insts spvs all.1)
  where
    here : (i : KernelInst) → PairsInst f types (instruction i) spv → IsAligned i
    here (Add sum left right) pair = tt
    here (Load loaded pointer true) pair = refl
    here (Load loaded pointer false) pair = absurd (false≢true (ap is_known pair.is))
    here (Store value pointer true) pair = refl
    here (Store value pointer false) pair = absurd (false≢true (ap is_known pair.is))

pub partner-canonical : (kernel : Kernel) → IsNumbered kernel → kernel.name.number ≡ 0 → All IsAligned kernel.insts → canonical_spirv (partner kernel) ≡ partner kernel
partner-canonical kernel numbered own aligned =
    one-form kernel (partner kernel) numbered own (partner-sound kernel numbered) (pairs kernel own aligned)

pub canonical-own : (kernel : Kernel) (m : SpvModule) → IsNumbered kernel → kernel.name.number ≡ 0 → HasSoundIds m → Pairs (text_module kernel) m
    → canonical_spirv (canonical_spirv m) ≡ canonical_spirv m
canonical-own kernel m numbered own sound paired =
    let has = has-parts kernel m paired in
    let aligned = insts-aligned paired.ids m.types kernel.insts has.blk.insts has.blk_pairs.insts in
    let is = one-form kernel m numbered own sound paired in
    ap canonical_spirv is ∙ partner-canonical kernel numbered own aligned ∙ sym is
