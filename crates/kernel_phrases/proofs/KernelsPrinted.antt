-- The module of a canonical kernel is written as the kernel's text.
use Rattle.std.proofs.Common.{◌≡◌, ℕ, ◌≤◌, Bool, true, false, List, [], ◌∷◌, ◌++◌, map, slice_get, refl, sym, ◌∙◌, ap, append_assoc}
use Rattle.std.specs.Prelude.{codes, flat_map, if◌then◌else◌}
use Rattle.ll_tree.specs.declared.name.Name.{Name}
use Rattle.ll_tree.specs.declared.name.NameText.{NameText}
use Rattle.kernel_tree.specs.declared.kernel.Kernel.{Kernel}
use Rattle.kernel_tree.specs.Modules.{body, end_of_block, function, instruction, parameter, targets_where, text_module}
use Rattle.kernel_tree.specs.Numbered.{definition_count, name_bytes}
use Rattle.kernel_tree.specs.Text.{end_lines, inst_text, kernel_text, label_line, name_line, name_text, params_text, targets_text}
use Rattle.kernel_reading.specs.CanonicalKernels.{IsCanonicalKernel, IsOwnName}
use Rattle.kernel_reading.proofs.KernelReads.{HasNumberNames}
use Rattle.kernel_reading.proofs.NameReads.{IsNumberName}
use Rattle.kernel_reading.proofs.NumberNames.{number-names, own-named}
use Rattle.ll_phrases.specs.Phrases.{Empty, ◌&◌, each_phrase, line_end, list_phrase, written}
use Rattle.ll_phrases.specs.Texts.{label_phrase}
use Rattle.ll_printed.specs.FunctionPhrases.{block_name_phrase, block_phrase, inst_phrase, param_phrase}
use Rattle.ll_printed.specs.ModulePhrases.{function_phrase, module_phrase, target_line}
use Rattle.kernel_phrases.proofs.TextsBefore.{before, written-before}
use Rattle.kernel_phrases.proofs.NamesPrinted.{number-text, numbers-written, own-text}
use Rattle.kernel_phrases.proofs.InstsPrinted.{insts-printed}
use Rattle.kernel_phrases.proofs.ParamsPrinted.{params-printed}

targets-printed : (has_targets : Bool) (rest : List ℕ) → before (each_phrase target_line (targets_where has_targets)) rest ≡ targets_text has_targets ++ rest
targets-printed true rest = refl
targets-printed false rest = refl

-- the label of the block, on a line of its own; 58 is `:`
label-printed : (names : List NameText) (name : Name) (rest : List ℕ) → IsNumberName names name
    → before (block_name_phrase names name.number) rest ≡ name_text name ++ (58 ∷ 10 ∷ rest)
label-printed names name rest is =
    ap (λ (test : Bool). before (if test then label_phrase names name.number & line_end else Empty) rest)
    (numbers-written (slice_get names name.number) _ is.entry is.small)
    ∙ (ap (λ (t : List ℕ). (t ++ 58 ∷ []) ++ (10 ∷ rest)) (number-text names name is)
    ∙ append_assoc (name_text name) (58 ∷ []) (10 ∷ rest))

module _ (kernel : Kernel) (own : IsOwnName (slice_get kernel.names kernel.name.number)) (are : HasNumberNames kernel) where
  abbrev block_text : List ℕ
  block_text = name_text kernel.block ++ (58 ∷ 10 ∷ (flat_map inst_text kernel.insts ++ end_lines))

  -- the block, and what ends the function
  block-printed : before (each_phrase (block_phrase kernel.names) (body kernel).blocks) (codes "}" ++ 10 ∷ []) ≡ block_text
  block-printed =
      label-printed kernel.names kernel.block (before (each_phrase (inst_phrase kernel.names) (map instruction kernel.insts ++ end_of_block ∷ [])) (codes "}" ++ 10 ∷ [])) are.block
      ∙ ap (λ (t : List ℕ). name_text kernel.block ++ (58 ∷ 10 ∷ t)) (insts-printed kernel.names kernel.insts (codes "}" ++ 10 ∷ []) are.insts)

  label-grouped : label_line kernel.block ++ (flat_map inst_text kernel.insts ++ end_lines) ≡ codes ") {" ++ (10 ∷ block_text)
  label-grouped = ap (λ (t : List ℕ). codes ") {" ++ (10 ∷ t)) (append_assoc (name_text kernel.block) (58 ∷ 10 ∷ []) (flat_map inst_text kernel.insts ++ end_lines))

  abbrev behind_name : List ℕ
  behind_name = 40 ∷ (params_text kernel.params ++ (codes ") {" ++ (10 ∷ block_text)))

  function-printed : before (function_phrase kernel.names (function kernel, body kernel)) [] ≡ codes "define spir_kernel void @" ++ (name_bytes kernel ++ behind_name)
  function-printed =
      ap (λ (t : List ℕ). codes "define spir_kernel void @" ++ (t ++ (40 ∷ before (list_phrase (param_phrase kernel.names) (map parameter kernel.params)) (codes ") {" ++ (10 ∷ before (each_phrase (block_phrase kernel.names) (body kernel).blocks) (codes "}" ++ 10 ∷ []))))))
      (own-text (slice_get kernel.names kernel.name.number) own)
      ∙ ap (λ (t : List ℕ). codes "define spir_kernel void @" ++ (name_bytes kernel ++ (40 ∷ t)))
      (params-printed kernel.names kernel.params (codes ") {" ++ (10 ∷ before (each_phrase (block_phrase kernel.names) (body kernel).blocks) (codes "}" ++ 10 ∷ []))) are.params
      ∙ ap (λ (t : List ℕ). params_text kernel.params ++ (codes ") {" ++ (10 ∷ t))) block-printed)

  function-grouped : name_line kernel ++ (params_text kernel.params ++ (label_line kernel.block ++ (flat_map inst_text kernel.insts ++ end_lines)))
      ≡ codes "define spir_kernel void @" ++ (name_bytes kernel ++ behind_name)
  function-grouped =
      ap (λ (t : List ℕ). codes "define spir_kernel void @" ++ t)
      (append_assoc (name_bytes kernel) (codes "(") (params_text kernel.params ++ (label_line kernel.block ++ (flat_map inst_text kernel.insts ++ end_lines)))
      ∙ ap (λ (t : List ℕ). name_bytes kernel ++ (40 ∷ (params_text kernel.params ++ t))) label-grouped)

  text-printed : written (module_phrase (text_module kernel)) ≡ kernel_text kernel
  text-printed =
      written-before (module_phrase (text_module kernel))
      ∙ (targets-printed kernel.has_targets (before (function_phrase kernel.names (function kernel, body kernel)) [])
      ∙ ap (λ (t : List ℕ). targets_text kernel.has_targets ++ t) (function-printed ∙ sym function-grouped))

pub kernels-printed : (kernel : Kernel) → IsCanonicalKernel kernel → definition_count kernel ≤ 4194303 → written (module_phrase (text_module kernel)) ≡ kernel_text kernel
kernels-printed kernel is few = text-printed kernel (own-named kernel is) (number-names kernel is few)
