-- What has a translation is not refused.
use Rattle.std.proofs.Common.{◌≡◌, ℕ, List, None, Some, ap, sym, ◌∙◌}
use Rattle.ports.specs.declared.faults.SpvFault.{SpvFault}
use Rattle.spv_names.specs.NameRules.{names_fault}
use Rattle.spv_codec.proofs.FramingLaws.{module-or_fault, one-module}
use Rattle.spv_words.specs.declared.words.Order.{Order}
use Rattle.kernel_translation.specs.TextTranslations.{IsTextTranslation}
use Rattle.kernel_modules.proofs.ModulesOfKernels.{module_of_kernel}
use Rattle.kernel_modules.proofs.NestedPhrases.{nests_no_deeper}
use Rattle.kernel_tree.specs.declared.kernel.Kernel.{Kernel}
use Rattle.kernel_translation.specs.Translations.{IsTextOf, IsTranslation}
use Rattle.ll_texts.specs.TextFaults.{IsModuleInput}
use Rattle.ll_texts.proofs.TextLaws.{module-not-faulty}
use Rattle.kernel_translation.proofs.Sources.{not-undefined}
use Rattle.kt_driver.specs.declared.refusals.Refusal.{Refusal}
use Rattle.kt_driver.specs.declared.refusals.Refusal.TheVariants.{TooLong, UndefinedName, Outside, Unreadable, Misframed, Invalid}
use Rattle.kt_driver.specs.declared.request.Format.TheVariants.{Llvm, Spirv}
use Rattle.kt_driver.specs.Runs.{IsUntranslatable, IsUntranslatableBinary}

-- the text of a kernel is that of a module
pub kernel-is-module : (input : List ℕ) (kernel : Kernel) → IsTextOf input kernel → IsModuleInput input
kernel-is-module input kernel text =
    let m = module_of_kernel text.tokens kernel text.reads in
    record {
      utf8 = text.utf8;
      m = m.0;
      text = record { tokens = text.tokens; are_tokens = text.are_tokens; reads = m.1; shallow = nests_no_deeper text.tokens kernel text.reads };
    }

pub translation-not-refused : (order : Order) (input bytes : List ℕ) (refusal : Refusal) → IsTranslation order input bytes → IsUntranslatable order input refusal → ⊥
translation-not-refused order input bytes (TooLong format) is due = due
translation-not-refused order input bytes (UndefinedName byte) is due = not-undefined order input is.form byte is.translatable due
translation-not-refused order input bytes (Outside Llvm) is due = due.1.untranslatable is.form is.translatable
translation-not-refused order input bytes (Outside Spirv) is due = due
translation-not-refused order input bytes (Unreadable fault) is due = module-not-faulty input fault (kernel-is-module input is.translatable.canonical.source is.translatable.canonical.text) due
translation-not-refused order input bytes (Misframed fault) is due = due
translation-not-refused order input bytes (Invalid fault) is due = due

none-is-some : (fault : SpvFault) → None ≡ Some fault → ⊥
none-is-some fault e = absurd cc

pub text-not-refused : (input bytes : List ℕ) (refusal : Refusal) → IsTextTranslation input bytes → IsUntranslatableBinary input refusal → ⊥
text-not-refused input bytes (TooLong format) is due = due
text-not-refused input bytes (UndefinedName byte) is due = due
text-not-refused input bytes (Outside Llvm) is due = due
text-not-refused input bytes (Outside Spirv) is due = due.none is.order is.form is.binary
text-not-refused input bytes (Unreadable fault) is due = due
text-not-refused input bytes (Misframed fault) is due = module-or_fault input is.framed.raw fault is.framed.spirv due
text-not-refused input bytes (Invalid fault) is due =
    none-is-some fault (sym is.framed.keeps ∙ ap names_fault (one-module input is.framed.raw due.raw is.framed.spirv due.framed) ∙ due.breaks)
