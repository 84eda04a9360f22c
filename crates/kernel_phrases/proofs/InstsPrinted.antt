-- Instructions of a kernel as they are written in its module.
use Rattle.std.proofs.Common.{◌≡◌, ℕ, Bool, List, [], ◌∷◌, ◌++◌, map, refl, sym, ◌∙◌, ap, append_assoc}
use Rattle.std.specs.Prelude.{codes, flat_map}
use Rattle.ll_tree.specs.declared.name.Name.{Name}
use Rattle.ll_tree.specs.declared.name.NameText.{NameText}
use Rattle.kernel_tree.specs.declared.kernel.KernelInst.{KernelInst}
use Rattle.kernel_tree.specs.declared.kernel.KernelInst.TheVariants.{Add, Load, Store}
use Rattle.kernel_tree.specs.declared.kernel.ValueType.TheVariants.{Int, Pointer}
use Rattle.kernel_tree.specs.Modules.{align_where, end_of_block, instruction, operation, value_of}
use Rattle.kernel_tree.specs.Text.{access_text, align_text, inst_text, name_text}
use Rattle.kernel_reading.proofs.InstReads.{AreNumberedInsts, IsNumberedInst}
use Rattle.kernel_reading.proofs.NameReads.{IsNumberName}
use Rattle.ll_phrases.specs.Phrases.{◌&◌, comma, each_phrase, if_some}
use Rattle.ll_phrases.specs.Texts.{local_phrase}
use Rattle.ll_phrases.specs.ValuePhrases.{typed_phrase}
use Rattle.ll_printed.specs.OpPhrases.{align_phrase, op_phrase}
use Rattle.ll_printed.specs.FunctionPhrases.{inst_phrase}
use Rattle.kernel_phrases.proofs.TextsBefore.{before}
use Rattle.kernel_phrases.proofs.NamesPrinted.{align-text, local-text, type-text, typed-text, value-name-text}

module _ (names : List NameText) where
  -- the pointer operand of a load or a store, and its alignment
  access-printed : (pointer : Name) (is_aligned : Bool) (rest : List ℕ) → IsNumberName names pointer
      → before (typed_phrase names (value_of Pointer pointer) & if_some align_phrase (align_where is_aligned)) rest ≡ access_text pointer is_aligned ++ rest
  access-printed pointer is_aligned rest is =
      typed-text names Pointer pointer (before (if_some align_phrase (align_where is_aligned)) rest) is
      ∙ ap (λ (t : List ℕ). codes "i32 addrspace(1)* %" ++ t)
      (ap (λ (t : List ℕ). name_text pointer ++ t) (align-text is_aligned rest) ∙ sym (append_assoc (name_text pointer) (align_text is_aligned) rest))

  -- an instruction behind its name and before a line's end
  add-printed : (sum left right : Name) (rest : List ℕ) → IsNumberName names left → IsNumberName names right
      → before (op_phrase names (operation (Add sum left right))) rest ≡ codes "add i32 %" ++ (name_text left ++ (codes ", %" ++ (name_text right ++ rest)))
  add-printed sum left right rest is_left is_right =
      ap (λ (t : List ℕ). codes "add " ++ t) (type-text names Int (32 ∷ before (local_phrase names left) (before comma (before (local_phrase names right) rest))))
      ∙ (ap (λ (t : List ℕ). codes "add i32 " ++ t) (local-text names left (before comma (before (local_phrase names right) rest)) is_left)
      ∙ ap (λ (t : List ℕ). codes "add i32 %" ++ (name_text left ++ (codes ", " ++ t))) (local-text names right rest is_right))

  load-printed : (loaded pointer : Name) (is_aligned : Bool) (rest : List ℕ) → IsNumberName names pointer
      → before (op_phrase names (operation (Load loaded pointer is_aligned))) rest ≡ codes "load i32, " ++ (access_text pointer is_aligned ++ rest)
  load-printed loaded pointer is_aligned rest is =
      ap (λ (t : List ℕ). codes "load " ++ t)
      (type-text names Int (before comma (before (typed_phrase names (value_of Pointer pointer) & if_some align_phrase (align_where is_aligned)) rest)))
      ∙ ap (λ (t : List ℕ). codes "load i32, " ++ t) (access-printed pointer is_aligned rest is)

  store-printed : (value pointer : Name) (is_aligned : Bool) (rest : List ℕ) → IsNumberName names value → IsNumberName names pointer
      → before (op_phrase names (operation (Store value pointer is_aligned))) rest ≡ codes "store i32 %" ++ (name_text value ++ (codes ", " ++ (access_text pointer is_aligned ++ rest)))
  store-printed value pointer is_aligned rest is_value is_pointer =
      ap (λ (t : List ℕ). codes "store " ++ t)
      (typed-text names Int value (before comma (before (typed_phrase names (value_of Pointer pointer) & if_some align_phrase (align_where is_aligned)) rest)) is_value)
      ∙ ap (λ (t : List ℕ). codes "store i32 %" ++ (name_text value ++ (codes ", " ++ t))) (access-printed pointer is_aligned rest is_pointer)

  -- the texts of instructions without brackets
  add-grouped : (sum left right : Name) (rest : List ℕ)
      → inst_text (Add sum left right) ++ rest ≡ codes "  %" ++ (name_text sum ++ (codes " = add i32 %" ++ (name_text left ++ (codes ", %" ++ (name_text right ++ (10 ∷ rest))))))
  add-grouped sum left right rest =
      ap (λ (t : List ℕ). codes "  %" ++ t)
      (append_assoc (name_text sum) _ rest
      ∙ ap (λ (t : List ℕ). name_text sum ++ (codes " = add i32 %" ++ t))
      (append_assoc (name_text left) _ rest
      ∙ ap (λ (t : List ℕ). name_text left ++ (codes ", %" ++ t)) (append_assoc (name_text right) (10 ∷ []) rest)))

  access-grouped : (pointer : Name) (is_aligned : Bool) (rest : List ℕ) → (access_text pointer is_aligned ++ 10 ∷ []) ++ rest ≡ access_text pointer is_aligned ++ (10 ∷ rest)
  access-grouped pointer is_aligned rest = append_assoc (access_text pointer is_aligned) (10 ∷ []) rest

  load-grouped : (loaded pointer : Name) (is_aligned : Bool) (rest : List ℕ)
      → inst_text (Load loaded pointer is_aligned) ++ rest ≡ codes "  %" ++ (name_text loaded ++ (codes " = load i32, " ++ (access_text pointer is_aligned ++ (10 ∷ rest))))
  load-grouped loaded pointer is_aligned rest =
      ap (λ (t : List ℕ). codes "  %" ++ t)
      (append_assoc (name_text loaded) _ rest
      ∙ ap (λ (t : List ℕ). name_text loaded ++ (codes " = load i32, " ++ t)) (access-grouped pointer is_aligned rest))

  store-grouped : (value pointer : Name) (is_aligned : Bool) (rest : List ℕ)
      → inst_text (Store value pointer is_aligned) ++ rest ≡ codes "  store i32 %" ++ (name_text value ++ (codes ", " ++ (access_text pointer is_aligned ++ (10 ∷ rest))))
  store-grouped value pointer is_aligned rest =
      ap (λ (t : List ℕ). codes "  store i32 %" ++ t)
      (append_assoc (name_text value) _ rest
      ∙ ap (λ (t : List ℕ). name_text value ++ (codes ", " ++ t)) (access-grouped pointer is_aligned rest))

  inst-printed : (i : KernelInst) (rest : List ℕ) → IsNumberedInst names i → before (inst_phrase names (instruction i)) rest ≡ inst_text i ++ rest
  inst-printed (Add sum left right) rest is =
      ap (λ (t : List ℕ). codes "  " ++ t)
      (value-name-text names sum (before (op_phrase names (operation (Add sum left right))) (10 ∷ rest)) is.0
      ∙ ap (λ (t : List ℕ). 37 ∷ (name_text sum ++ (codes " = " ++ t))) (add-printed sum left right (10 ∷ rest) is.1 is.2))
      ∙ sym (add-grouped sum left right rest)
  inst-printed (Load loaded pointer is_aligned) rest is =
      ap (λ (t : List ℕ). codes "  " ++ t)
      (value-name-text names loaded (before (op_phrase names (operation (Load loaded pointer is_aligned))) (10 ∷ rest)) is.0
      ∙ ap (λ (t : List ℕ). 37 ∷ (name_text loaded ++ (codes " = " ++ t))) (load-printed loaded pointer is_aligned (10 ∷ rest) is.1))
      ∙ sym (load-grouped loaded pointer is_aligned rest)
  inst-printed (Store value pointer is_aligned) rest is =
      ap (λ (t : List ℕ). codes "  " ++ t) (store-printed value pointer is_aligned (10 ∷ rest) is.0 is.1)
      ∙ sym (store-grouped value pointer is_aligned rest)

  -- the instructions of the block, and the `ret void` behind them
  pub insts-printed : (insts : List KernelInst) (rest : List ℕ) → AreNumberedInsts names insts
      → before (each_phrase (inst_phrase names) (map instruction insts ++ end_of_block ∷ [])) rest ≡ flat_map inst_text insts ++ (codes "  ret void" ++ (10 ∷ rest))
  insts-printed [] rest are = refl
  insts-printed (i ∷ insts) rest are =
      inst-printed i (before (each_phrase (inst_phrase names) (map instruction insts ++ end_of_block ∷ [])) rest) are.0
      ∙ (ap (λ (t : List ℕ). inst_text i ++ t) (insts-printed insts rest are.1)
      ∙ sym (append_assoc (inst_text i) (flat_map inst_text insts) (codes "  ret void" ++ (10 ∷ rest))))
