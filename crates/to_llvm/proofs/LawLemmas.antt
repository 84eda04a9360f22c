-- What follows for the modules of canonical kernels.
use Rattle.std.proofs.Common.{◌≡◌, ℕ, Bool, true, List, slice_get, refl, sym, ◌∙◌, ap, subst}
use Rattle.std.specs.Prelude.{Option, Some, None, Result, Ok, Err, IfOk, MatchOption}
use Rattle.spv_words.specs.declared.words.Order.{Order}
use Rattle.spv_words.specs.Words.{words_bytes}
use Rattle.spv_codec.specs.declared.module.RawModule.{RawModule}
use Rattle.spv_codec.specs.Framing.{IsRight, IsSpirv, module_words}
use Rattle.spv_codec.proofs.FramingLaws.{one-module}
use Rattle.spv_module.specs.Sections.{flattened}
use Rattle.kernel_tree.specs.declared.kernel.Kernel.{Kernel}
use Rattle.kernel_tree.specs.Canonical.{canonical}
use Rattle.kernel_tree.specs.Numbered.{IsNumbered}
use Rattle.to_spirv.specs.Limits.{HasPlainName, IsWithinLimits}
use Rattle.to_spirv.specs.Partner.{partner}
use Rattle.to_spirv.proofs.FitLemmas.{framing-kept}
use Rattle.kernel_reading.specs.CanonicalKernels.{IsCanonicalKernel, IsOwnName}
use Rattle.to_llvm.specs.Guesses.{guessed}
use Rattle.kernel_reading.specs.Laws.{CanonicalKernelsAreCanonical}
use Rattle.to_llvm.specs.Laws.{BinariesAreModules, CanonicalModulesDiffer, GuessIsRight, OneKernel}
use Rattle.to_llvm.specs.ModulesOf.{IsModuleOf}
use Rattle.to_llvm.specs.NamedForms.{HasForm}
use Rattle.to_llvm.specs.SameModules.{same_module}
use Rattle.to_llvm.proofs.SameLemmas.{module-decides}
use Rattle.to_llvm.proofs.GuessLemmas.{guess-bare}
use Rattle.to_llvm.proofs.KernelLemmas.{first-name, parts-whole, kernel-numbered}

pub guess-right : GuessIsRight
guess-right kernel canonical plain = guess-bare kernel plain ∙ parts-whole kernel canonical

pub module-guessed : (raw : RawModule) (kernel : Kernel) → IsCanonicalKernel kernel → IsModuleOf raw kernel → guessed raw.insts ≡ kernel
module-guessed raw kernel canonical is = ap (λ (r : RawModule). guessed r.insts) is.same ∙ guess-right kernel canonical is.plain

pub one-kernel : OneKernel
one-kernel raw kernel other canonical other_canonical is other_is =
    sym (module-guessed raw kernel canonical is) ∙ module-guessed raw other other_canonical other_is

-- a right module is so in either order
right-in : (raw : RawModule) (order : Order) → IsRight raw → IsRight (record raw { order = order })
right-in raw order right = record { header = right.header; generator = right.generator; fit = right.fit }

-- a right module of a canonical kernel, in this order
module-spells : (order : Order) (kernel : Kernel) → IsCanonicalKernel kernel → IsWithinLimits kernel → HasPlainName kernel
    → IsSpirv (words_bytes order (module_words (flattened (partner kernel)))) (record (flattened (partner kernel)) { order = order })
module-spells order kernel kernel_is within plain = record {
  spelled = refl;
  right = right-in (flattened (partner kernel)) order (framing-kept kernel (kernel-numbered kernel kernel_is) within plain);
}

in-its-order : (raw made : RawModule) (order : Order) → raw ≡ record made { order = order } → raw ≡ record made { order = raw.order }
in-its-order raw made order same = same ∙ ap (λ (o : Order). record made { order = o }) (sym (ap (λ (r : RawModule). r.order) same))

pub modules-differ : CanonicalModulesDiffer
modules-differ kernel other kernel_is other_is within other_within plain other_plain order same =
    let first : RawModule = record (flattened (partner kernel)) { order = order } in
    let second : RawModule = record (flattened (partner other)) { order = order } in
    let bytes = words_bytes order (module_words first) in
    let also = subst (λ (bs : List ℕ). IsSpirv bs second) (sym same) (module-spells order other other_is other_within other_plain) in
    let one = one-module bytes first second (module-spells order kernel kernel_is within plain) also in
    sym (guess-right kernel kernel_is plain) ∙ (ap (λ (r : RawModule). guessed r.insts) one ∙ guess-right other other_is other_plain)

pub binaries-are : BinariesAreModules
binaries-are bytes raw kernel spirv kernel_is = (
  λ is. record {
    within = is.within;
    plain = is.plain;
    order = raw.order;
    spelled = spirv.spelled ∙ ap (λ (r : RawModule). words_bytes raw.order (module_words r)) is.same;
  },
  λ is.
      let spells = module-spells is.order kernel kernel_is is.within is.plain in
      let made : RawModule = record (flattened (partner kernel)) { order = is.order } in
      let here = subst (λ (bs : List ℕ). IsSpirv bs made) (sym is.spelled) spells in
      record { within = is.within; plain = is.plain; same = in-its-order raw (flattened (partner kernel)) is.order (one-module bytes raw made spirv here) },
)

-- a canonical kernel has a canonical form
has-form : (kernel : Kernel) → IsCanonicalKernel kernel → HasForm kernel
has-form kernel canonical = record {
  defined = canonical.defined;
  covered = canonical.covered;
  own_name = subst (λ (n : ℕ). IsOwnName (slice_get kernel.names n)) (sym (first-name kernel canonical)) canonical.own_name;
}

module _ (are : CanonicalKernelsAreCanonical) where
  form-canonical : (guess form : Kernel) → HasForm guess × (form ≡ canonical guess) → IsCanonicalKernel form
  form-canonical guess form is = subst IsCanonicalKernel (sym is.1) (are guess is.0.defined is.0.covered is.0.own_name)

  pub form-numbered : (guess form : Kernel) → HasForm guess × (form ≡ canonical guess) → IsNumbered form
  form-numbered guess form is = kernel-numbered form (form-canonical guess form is)

  -- the form is the kernel
  pub the-form : (raw : RawModule) (guess form : Kernel) → HasForm guess × (form ≡ canonical guess) → IsModuleOf raw form
      → IsCanonicalKernel form × IsModuleOf raw form
  the-form raw guess form form_is is = (form-canonical guess form form_is, is)

-- the guess has no canonical form
pub no-form : (raw : RawModule) (guess : Kernel) → guess ≡ guessed raw.insts → (HasForm guess → ⊥)
    → (kernel : Kernel) → IsCanonicalKernel kernel → IsModuleOf raw kernel → ⊥
no-form raw guess guess_is none kernel canonical is =
    none (subst HasForm (sym (guess_is ∙ module-guessed raw kernel canonical is)) (has-form kernel canonical))

-- the module is not that of the form
pub no-module : (raw : RawModule) (guess form : Kernel) → guess ≡ guessed raw.insts → HasForm guess × (form ≡ canonical guess) → (IsModuleOf raw form → ⊥)
    → (kernel : Kernel) → IsCanonicalKernel kernel → IsModuleOf raw kernel → ⊥
no-module raw guess form guess_is form_is none kernel kernel_is is =
    let same : guess ≡ kernel = guess_is ∙ module-guessed raw kernel kernel_is is in
    none (subst (IsModuleOf raw) (sym (form_is.1 ∙ (ap canonical same ∙ kernel_is.its_own))) is)

-- the module that was made is compared with the one that was given
pub module-told : (raw made : RawModule) (kernel : Kernel) (same : Bool) → IsWithinLimits kernel → HasPlainName kernel → made ≡ flattened (partner kernel)
    → same ≡ same_module raw made → (same ≡ true → IsModuleOf raw kernel) × (IsModuleOf raw kernel → same ≡ true)
module-told raw made kernel same within plain made_is told =
    let decides = module-decides raw made in (
      λ yes. record {
        within = within;
        plain = plain;
        same = decides.0 (sym told ∙ yes) ∙ ap (λ (r : RawModule). record r { order = raw.order }) made_is;
      },
      λ is. told ∙ decides.1 (is.same ∙ ap (λ (r : RawModule). record r { order = raw.order }) (sym made_is)),
    )

-- what the search for a form gave
pub form-given : (guess form : Kernel) (found : Option Kernel) → found ≡ Some form
    → MatchOption found (HasForm guess → ⊥) (λ it. HasForm guess × (it ≡ canonical guess)) → HasForm guess × (form ≡ canonical guess)
form-given guess form found is given = subst (λ (o : Option Kernel). MatchOption o (HasForm guess → ⊥) (λ it. HasForm guess × (it ≡ canonical guess))) is given

pub none-given : (guess : Kernel) (found : Option Kernel) → found ≡ None
    → MatchOption found (HasForm guess → ⊥) (λ it. HasForm guess × (it ≡ canonical guess)) → HasForm guess → ⊥
none-given guess found is given = subst (λ (o : Option Kernel). MatchOption o (HasForm guess → ⊥) (λ it. HasForm guess × (it ≡ canonical guess))) is given

-- the answer is the form, if the module is its
pub the-answer : {E : Type 0} (are : CanonicalKernelsAreCanonical) (raw : RawModule) (guess form : Kernel) (answer : Result (Option Kernel) E)
    → guess ≡ guessed raw.insts → HasForm guess × (form ≡ canonical guess)
    → IfOk answer (λ found. MatchOption found (IsModuleOf raw form → ⊥) (λ it. (it ≡ form) × IsModuleOf raw form))
    → IfOk answer (λ found. MatchOption found ((kernel : Kernel) → IsCanonicalKernel kernel → IsModuleOf raw kernel → ⊥) (λ kernel. IsCanonicalKernel kernel × IsModuleOf raw kernel))
the-answer are raw guess form (Err e) guess_is form_is confirmed = tt
the-answer are raw guess form (Ok None) guess_is form_is confirmed = no-module raw guess form guess_is form_is confirmed
the-answer are raw guess form (Ok (Some it)) guess_is form_is confirmed =
    subst (λ (k : Kernel). IsCanonicalKernel k × IsModuleOf raw k) (sym confirmed.0) (the-form are raw guess form form_is confirmed.1)
