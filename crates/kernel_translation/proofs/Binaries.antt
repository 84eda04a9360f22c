-- The binary of a canonical form spells a module.
use Rattle.std.proofs.Common.{◌≡◌, ℕ, List, [], ◌∷◌, ◌<◌, All, length, map, refl, arith, subst, sym, true, None, ap, is_some}
use Rattle.std.proofs.lemmas.List.Elements.{All-nil, All-cons}
use Rattle.kernel_tree.specs.declared.kernel.Kernel.{Kernel}
use Rattle.kernel_tree.specs.declared.kernel.KernelInst.{KernelInst}
use Rattle.kernel_tree.specs.declared.kernel.KernelInst.TheVariants.{Add, Load, Store}
use Rattle.kernel_tree.specs.Canonical.{aligned, canonical, inst_aligned, inst_numbered, numbers_defined, with_targets}
use Rattle.kernel_tree.specs.Covered.{is_covered}
use Rattle.kernel_tree.specs.Modules.{text_module}
use Rattle.kernel_tree.specs.Numbered.{IsNumbered}
use Rattle.spv_names.specs.NameRules.{names_fault}
use Rattle.spv_codec.specs.declared.module.RawInst.{RawInst}
use Rattle.spv_codec.specs.declared.module.RawModule.{RawModule}
use Rattle.spv_codec.specs.Framing.{IsRight, module_words}
use Rattle.spv_module.specs.Sections.{flattened}
use Rattle.spv_words.specs.declared.words.Order.{Order}
use Rattle.spv_words.specs.Words.{words_bytes}
use Rattle.to_spirv.specs.Laws.{IsAligned}
use Rattle.to_spirv.specs.Limits.{IsShort, IsWithinLimits}
use Rattle.to_spirv.specs.Pairing.{Pairs}
use Rattle.to_spirv.specs.Partner.{partner}
use Rattle.to_spirv.proofs.FitLemmas.{framing-kept}
use Rattle.to_spirv.proofs.PairLemmas.{pairs}
use Rattle.partner_rules.proofs.NoFault.{covered-unbroken}
use Rattle.partner_runs.proofs.Translations.{translated-runs}
use Rattle.kernel_reading.specs.CanonicalKernels.{IsCanonicalKernel}
use Rattle.kernel_reading.proofs.CanonicalForms.{canonical-kernel}
use Rattle.kernel_reading.proofs.OwnNames.{own-name}
use Rattle.ll_canon.proofs.NumberedAgain.{canonical-again}
use Rattle.spv_canon.specs.Canonical.{canonical_spirv}
use Rattle.spv_canon.specs.Valid.{IsValid}
use Rattle.spv_canon.proofs.CanonicalForms.{partner-canonical}
use Rattle.spv_canon.proofs.OneForm.{one-form}
use Rattle.spv_canon.proofs.ValidPartner.{partner-valid}
use Rattle.ll_canon.proofs.NumberedForms.{canonical-numbered, covered-distinct}
use Rattle.kernel_translation.specs.Translations.{IsBinary, IsCanonicalOf, IsTranslation, KeepsLimits, PairsAlone, ShowTheSame, binary_of}

-- the words of a module that breaks no rule spell it, in either order
pub right-binary : (raw : RawModule) (order : Order) (bytes : List ℕ) → IsRight raw → names_fault raw ≡ None → bytes ≡ words_bytes order (module_words raw) → IsBinary order bytes
right-binary raw order bytes right keeps spelled =
    let same : RawModule = record { order = order; version = raw.version; generator = raw.generator; bound = raw.bound; insts = raw.insts } in
    record {
      raw = same;
      ordered = refl;
      spirv = record { spelled = spelled; right = record { header = right.header; generator = right.generator; fit = right.fit } };
      keeps = keeps;
    }

pub form-numbered : (input : List ℕ) (form : Kernel) → IsCanonicalOf input form → IsNumbered form
form-numbered input form is = subst IsNumbered (sym is.canonical) (canonical-numbered is.source (covered-distinct is.source is.covered))

-- an instruction within the limits can be written
pub short-operands : (insts : List RawInst) → All IsShort insts → All (λ inst. length inst.operands < 65535) insts
short-operands insts short = λ i inst lt. let at = short i inst lt in omega (arith, at)

-- each access to memory has its alignment in a canonical form
insts-aligned : (numbers : List ℕ) (insts : List KernelInst) → All IsAligned (map (inst_numbered numbers) (map inst_aligned insts))
insts-aligned numbers [] = All-nil IsAligned
insts-aligned numbers (Add sum left right ∷ insts) = All-cons IsAligned _ _ tt (insts-aligned numbers insts)
insts-aligned numbers (Load loaded pointer is_aligned ∷ insts) = All-cons IsAligned _ _ refl (insts-aligned numbers insts)
insts-aligned numbers (Store value pointer is_aligned ∷ insts) = All-cons IsAligned _ _ refl (insts-aligned numbers insts)

-- what holds of a kernel's module
pub record HasModule (form : Kernel) : Type 0 where
  pub pairs : Pairs (text_module form) (partner form)
  pub alone : PairsAlone form
  pub canonical : canonical_spirv (partner form) ≡ partner form
  pub valid : IsValid (partner form)

has-module : (form : Kernel) → IsNumbered form → form.name.number ≡ 0 → All IsAligned form.insts → is_covered form ≡ true → HasModule form
has-module form numbered own aligned_insts covered = record {
  pairs = pairs form own aligned_insts;
  alone = λ m sound paired. one-form form m numbered own sound paired;
  canonical = partner-canonical form numbered own aligned_insts;
  valid = partner-valid form numbered own aligned_insts covered;
}

pub canonical-module : (form : Kernel) → IsCanonicalKernel form → HasModule form
canonical-module form is =
    subst HasModule is.its_own
    (has-module (canonical form) (canonical-numbered form (covered-distinct form is.covered)) refl
    (insts-aligned (numbers_defined (aligned (with_targets form))) form.insts)
    (subst (λ (k : Kernel). is_covered k ≡ true) (sym is.its_own) is.covered))

-- a canonical form is a canonical kernel
pub form-canonical : (input : List ℕ) (form : Kernel) → IsCanonicalOf input form → IsCanonicalKernel form
form-canonical input form is =
    let own = own-name input is.text.tokens is.source is.text.are_tokens is.text.reads in
    subst IsCanonicalKernel (sym is.canonical)
    (canonical-kernel is.source is.covered own (canonical-again is.source is.covered (ap is_some own.entry_is)))

pub form-alike : (source form : Kernel) → is_covered source ≡ true → form ≡ canonical source → ShowTheSame source form
form-alike source form covered is = subst (λ (k : Kernel). ShowTheSame source k) (sym is) (translated-runs source covered)

-- the bytes of a canonical kernel's module keep the rules of framing
pub form-framed : (order : Order) (bytes : List ℕ) (form : Kernel) → IsCanonicalKernel form → KeepsLimits order form → bytes ≡ binary_of order form → IsBinary order bytes
form-framed order bytes form is limits spelled =
    let numbered : IsNumbered form = subst IsNumbered is.its_own (canonical-numbered form (covered-distinct form is.covered)) in
    right-binary (flattened (partner form)) order bytes (framing-kept form numbered limits.within limits.named) (covered-unbroken form numbered limits.named is.covered) spelled

-- what is written is the translation
pub is-translation : (order : Order) (input bytes : List ℕ) (form : Kernel) → IsCanonicalOf input form → KeepsLimits order form → bytes ≡ binary_of order form → IsTranslation order input bytes
is-translation order input bytes form is limits spelled =
    let canonical = form-canonical input form is in
    let has = canonical-module form canonical in
    record {
      form = form;
      translatable = record { canonical = is; limits = limits };
      pairs = has.pairs;
      alone = has.alone;
      canonical = has.canonical;
      valid = has.valid;
      alike = form-alike is.source form is.covered is.canonical;
      spelled = spelled;
      binary = form-framed order bytes form canonical limits spelled;
    }

-- the module of a kernel within the limits can be written
pub partner-short : (kernel : Kernel) (raw : RawModule) → IsWithinLimits kernel → raw ≡ flattened (partner kernel) → All (λ inst. length inst.operands < 65535) raw.insts
partner-short kernel raw within is =
    subst (λ (r : RawModule). All (λ inst. length inst.operands < 65535) r.insts) (sym is) (short-operands (flattened (partner kernel)).insts within.short)
