-- Translations lead back.
use Rattle.std.proofs.Common.{◌≡◌, ℕ, ◌+◌, ◌*◌, ◌≤◌, List, None, length, refl, sym, ◌∙◌, ap, subst, arith}
use Rattle.spv_names.specs.NameRules.{names_fault}
use Rattle.spv_codec.specs.declared.module.RawModule.{RawModule}
use Rattle.spv_codec.specs.Framing.{IsSpirv, module_words}
use Rattle.spv_module.specs.Sections.{flattened}
use Rattle.spv_words.specs.declared.words.Order.{Order}
use Rattle.spv_words.proofs.StringLemmas.{length-words_bytes}
use Rattle.kernel_tree.specs.declared.kernel.Kernel.{Kernel}
use Rattle.kernel_tree.specs.Numbered.{definition_count}
use Rattle.kernel_tree.specs.Text.{kernel_text}
use Rattle.to_spirv.specs.Limits.{IsWithinLimits}
use Rattle.to_spirv.specs.Partner.{kernel_ids, partner}
use Rattle.kernel_reading.specs.CanonicalKernels.{IsCanonicalKernel, IsPrinted}
use Rattle.kernel_reading.proofs.PrintedKernels.{printed}
use Rattle.to_llvm.specs.ModulesOf.{IsBinaryOf, IsModuleOf}
use Rattle.to_llvm.proofs.LawLemmas.{binaries-are, one-kernel as one-module-kernel}
use Rattle.kernel_translation.specs.Translations.{IsBinary, IsCanonicalOf, IsTranslation, KeepsLimits, binary_of}
use Rattle.kernel_translation.specs.TextTranslations.{HasNoText, IsCanonicalBinary, IsModuleText, IsNamesBreak, IsOutsideBinary, IsTextTranslation, IsTextTranslationAndBack, IsTranslationAndBack, IsUntranslatedBinary}
use Rattle.kernel_translation.specs.declared.error.BinaryError.{BinaryError}
use Rattle.kernel_translation.specs.declared.error.BinaryError.TheVariants as told
use Rattle.kernel_translation.proofs.Binaries.{form-alike, form-canonical, form-framed, is-translation}

-- a binary is as long in either order
limits-in : (order other : Order) (form : Kernel) → KeepsLimits order form → KeepsLimits other form
limits-in order other form limits =
    let words = module_words (flattened (partner form)) in
    let long : length (binary_of order form) ≡ 4 * length words = length-words_bytes order words in
    let also : length (binary_of other form) ≡ 4 * length words = length-words_bytes other words in
    let same : length (binary_of other form) ≡ length (binary_of order form) = also ∙ sym long in
    record { named = limits.named; within = limits.within; text = limits.text; binary = subst (λ (n : ℕ). n ≤ 16777216) (sym same) limits.binary }

-- a kernel within the limits defines few names
few-names : (form : Kernel) → IsWithinLimits form → definition_count form ≤ 4194303
few-names form within = let bound : (kernel_ids form).function + definition_count form + 1 ≤ 0x3FFFFF = within.bound in omega arith

pub form-printed : (form : Kernel) → IsCanonicalKernel form → (order : Order) → KeepsLimits order form → IsPrinted form
form-printed form is order limits = printed form is (few-names form limits.within) limits.named.utf8

-- the text of a canonical kernel has that kernel as its canonical form
text-canonical : (form : Kernel) (bytes : List ℕ) → bytes ≡ kernel_text form → IsPrinted form → IsCanonicalOf bytes form
text-canonical form bytes is printed_form =
    subst (λ (bs : List ℕ). IsCanonicalOf bs form) (sym is) (record {
      source = printed_form.source;
      text = record { utf8 = printed_form.utf8; tokens = printed_form.tokens; are_tokens = printed_form.are_tokens; reads = printed_form.reads };
      defined = printed_form.defined;
      covered = printed_form.covered;
      canonical = printed_form.made;
    })

pub is-text : (order : Order) (input bytes : List ℕ) (form : Kernel) → IsCanonicalBinary order input form → bytes ≡ kernel_text form → IsTextTranslation input bytes
is-text order input bytes form binary spelled =
    let printed_form = form-printed form binary.canonical order binary.limits in
    record {
      order = order;
      form = form;
      binary = binary;
      framed = form-framed order input form binary.canonical binary.limits binary.spelled;
      spelled = spelled;
      printed = printed_form;
      alike = form-alike printed_form.source form printed_form.covered printed_form.made;
    }

-- there and back, beginning with a text
pub and-back : (order : Order) (input bytes : List ℕ) → IsTranslation order input bytes → IsTranslationAndBack order input bytes
and-back order input bytes there =
    let binary : IsCanonicalBinary order bytes there.form = record {
      canonical = form-canonical input there.form there.translatable.canonical;
      limits = there.translatable.limits;
      spelled = there.spelled;
    } in
    record { there = there; back = is-text order bytes (kernel_text there.form) there.form binary refl }

-- and beginning with a binary
pub text-and-back : (input bytes : List ℕ) → IsTextTranslation input bytes → IsTextTranslationAndBack input bytes
text-and-back input bytes there = record {
  there = there;
  back = λ order. is-translation order bytes (binary_of order there.form) there.form (text-canonical there.form bytes there.spelled there.printed)
      (limits-in there.order order there.form there.binary.limits) refl;
}

-- from the module to the bytes that spell it
pub module-text : (input bytes : List ℕ) (raw : RawModule) → IsSpirv input raw → length input ≤ 16777216 → IsModuleText raw bytes → IsTextTranslationAndBack input bytes
module-text input bytes raw spirv short is =
    let binary : IsBinaryOf input is.form = (binaries-are input raw is.form spirv is.canonical).0 is.has_module in
    let limits : KeepsLimits binary.order is.form = record {
      named = binary.plain;
      within = binary.within;
      text = is.short;
      binary = subst (λ (bs : List ℕ). length bs ≤ 16777216) binary.spelled short;
    } in
    text-and-back input bytes
    (is-text binary.order input bytes is.form (record { canonical = is.canonical; limits = limits; spelled = binary.spelled }) is.spelled)

pub outside-binary : (input : List ℕ) (raw : RawModule) → IsSpirv input raw → names_fault raw ≡ None → HasNoText raw → IsOutsideBinary input
outside-binary input raw spirv keeps none = record {
  raw = raw;
  framed = spirv;
  keeps = keeps;
  none = λ order form is.
      none form is.canonical
      ((binaries-are input raw form spirv is.canonical).1 (record { within = is.limits.within; plain = is.limits.named; order = order; spelled = is.spelled }))
      is.limits.text;
}

-- a module that breaks a rule is that of an invalid binary
pub names-break : (input : List ℕ) (raw : RawModule) (error other : BinaryError) → other ≡ error → IsSpirv input raw → IsNamesBreak raw error → IsUntranslatedBinary input other
names-break input raw error other same spirv first = subst (IsUntranslatedBinary input) (sym same) (by error first)
  where
    by : (e : BinaryError) → IsNamesBreak raw e → IsUntranslatedBinary input e
    by told.NoMemory breaks = tt
    by (told.Misframed fault) breaks = absurd breaks
    by (told.Invalid fault) breaks = record { raw = raw; framed = spirv; breaks = breaks }
    by told.Outside breaks = absurd breaks

-- a text that is too long is that of the only kernel whose module this is
pub too-long : (raw : RawModule) (kernel : Kernel) → IsCanonicalKernel kernel → IsModuleOf raw kernel → (length (kernel_text kernel) ≤ 16777216 → ⊥) → HasNoText raw
too-long raw kernel canonical has_module long form is also short =
    long (subst (λ (k : Kernel). length (kernel_text k) ≤ 16777216) (one-module-kernel raw form kernel is canonical also has_module) short)

-- a binary is that of one canonical kernel, in whatever order
one-binary-kernel : (input : List ℕ) (order other : Order) (first second : Kernel) → IsCanonicalBinary order input first → IsCanonicalBinary other input second
    → IsBinary order input → first ≡ second
one-binary-kernel input order other first second is also framed =
    one-module-kernel framed.raw first second is.canonical also.canonical
    ((binaries-are input framed.raw first framed.spirv is.canonical).1 (record { within = is.limits.within; plain = is.limits.named; order = order; spelled = is.spelled }))
    ((binaries-are input framed.raw second framed.spirv also.canonical).1 (record { within = also.limits.within; plain = also.limits.named; order = other; spelled = also.spelled }))

-- the text of a binary is one
pub one-text : (input first second : List ℕ) → IsTextTranslation input first → IsTextTranslation input second → first ≡ second
one-text input first second a b =
    a.spelled ∙ ap kernel_text (one-binary-kernel input a.order b.order a.form b.form a.binary b.binary a.framed) ∙ sym b.spelled
