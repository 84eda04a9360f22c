-- Parameters of a kernel as they are written in its module.
use Rattle.std.proofs.Common.{◌≡◌, ℕ, List, [], ◌∷◌, ◌++◌, map, refl, sym, ◌∙◌, ap, append_assoc}
use Rattle.std.specs.Prelude.{codes}
use Rattle.ll_tree.specs.declared.name.NameText.{NameText}
use Rattle.kernel_tree.specs.declared.kernel.KernelParam.{KernelParam}
use Rattle.kernel_tree.specs.Modules.{parameter}
use Rattle.kernel_tree.specs.Text.{name_text, param_text, params_behind, params_text, type_text}
use Rattle.kernel_reading.proofs.NameReads.{IsNumberName}
use Rattle.kernel_reading.proofs.ParamReads.{AreNumbered}
use Rattle.ll_phrases.specs.Phrases.{each_behind, list_phrase}
use Rattle.ll_printed.specs.FunctionPhrases.{param_name_phrase, param_phrase}
use Rattle.kernel_phrases.proofs.TextsBefore.{before}
use Rattle.kernel_phrases.proofs.NamesPrinted.{param-name-text, type-text}

module _ (names : List NameText) where
  param-printed : (p : KernelParam) (rest : List ℕ) → IsNumberName names p.name → before (param_phrase names (parameter p)) rest ≡ param_text p ++ rest
  param-printed p rest is =
      type-text names p.value_type (before (param_name_phrase names p.name) rest)
      ∙ (ap (λ (t : List ℕ). type_text p.value_type ++ t) (param-name-text names p.name rest is)
      ∙ sym (append_assoc (type_text p.value_type) (codes " %" ++ name_text p.name) rest))

  behind-printed : (ps : List KernelParam) (rest : List ℕ) → AreNumbered names ps
      → before (each_behind (param_phrase names) (map parameter ps)) rest ≡ params_behind ps ++ rest
  behind-printed [] rest are = refl
  behind-printed (p ∷ ps) rest are =
      ap (λ (t : List ℕ). codes ", " ++ t)
      (param-printed p (before (each_behind (param_phrase names) (map parameter ps)) rest) are.0
      ∙ (ap (λ (t : List ℕ). param_text p ++ t) (behind-printed ps rest are.1)
      ∙ sym (append_assoc (param_text p) (params_behind ps) rest)))

  pub params-printed : (ps : List KernelParam) (rest : List ℕ) → AreNumbered names ps
      → before (list_phrase (param_phrase names) (map parameter ps)) rest ≡ params_text ps ++ rest
  params-printed [] rest are = refl
  params-printed (p ∷ ps) rest are =
      param-printed p (before (each_behind (param_phrase names) (map parameter ps)) rest) are.0
      ∙ (ap (λ (t : List ℕ). param_text p ++ t) (behind-printed ps rest are.1)
      ∙ sym (append_assoc (param_text p) (params_behind ps) rest))
