-- The texts of values with parts, over lists.
use Rattle.std.proofs.Common.{◌≡◌, Bool, List, [], ◌∷◌, ◌++◌, ℕ, codes, refl, ap, sym, ◌∙◌, append_assoc, append-nil}
use mathlib.Core.Former.{Count}
use denote.Hole.Carrier.{hidden}
use Rattle.ll_tree.specs.declared.name.NameText.{NameText}
use Rattle.ll_tree.specs.declared.ty.LlType.{LlType}
use Rattle.ll_tree.specs.declared.value.TypedValue.{TypedValue}
use Rattle.ll_tree.specs.declared.value.Value.{Vector, Array, Struct, Packed, GetElementPtr, Cast, Row_of-TypedValue, end_of-TypedValue, more_of-TypedValue, items-the_row-TypedValue, items_hidden-the_row-TypedValue-0}
use Rattle.ll_tree.specs.declared.value.Value.TheBlock.{hidden-the_row-TypedValue-0, shape-the_row-TypedValue-1, hidden-the_row-TypedValue-1}
use Rattle.ll_parser.specs.GrammarValues.{cast_word}
use Rattle.ll_phrases.specs.Phrases.{written, each_behind, list_phrase}
use Rattle.ll_phrases.specs.TypePhrases.{type_phrase}
use Rattle.ll_phrases.specs.ValuePhrases.{fields_phrase, typed_phrase, value_phrase, values_behind, values_phrase, word_behind}
use Rattle.ll_op_printer.specs.Parts.{spaced_phrase}

module _ (names : List NameText) where
  behind_of_items : (k : Count) (row : Row_of-TypedValue k) → written (values_behind names row) ≡ written (each_behind (typed_phrase names) (items-the_row-TypedValue k row))
  behind_of_items k end_of-TypedValue = refl
  behind_of_items k (more_of-TypedValue t v rest) =
      ap (λ later. 44 ∷ 32 ∷ (written (type_phrase names t) ++ (32 ∷ (written (value_phrase names v) ++ later)))) (behind_of_items _ rest)
      ∙ ap (λ later. 44 ∷ 32 ∷ later) (sym (append_assoc (written (type_phrase names t)) (32 ∷ written (value_phrase names v)) _))

  values_of_items : (k : Count) (row : Row_of-TypedValue k) → written (values_phrase names row) ≡ written (list_phrase (typed_phrase names) (items-the_row-TypedValue k row))
  values_of_items k end_of-TypedValue = refl
  values_of_items k (more_of-TypedValue t v rest) =
      ap (λ later. written (type_phrase names t) ++ (32 ∷ (written (value_phrase names v) ++ later))) (behind_of_items _ rest)
      ∙ sym (append_assoc (written (type_phrase names t)) (32 ∷ written (value_phrase names v)) _)

  fields_of_items : (k : Count) (row : Row_of-TypedValue k) → written (fields_phrase names row) ≡ written (spaced_phrase (typed_phrase names) (items-the_row-TypedValue k row))
  fields_of_items k end_of-TypedValue = refl
  fields_of_items k (more_of-TypedValue t v rest) =
      ap (λ later. 32 ∷ (written (type_phrase names t) ++ (32 ∷ (written (value_phrase names v) ++ (later ++ 32 ∷ []))))) (behind_of_items _ rest)
      ∙ ap (λ later. 32 ∷ later) (sym (append_assoc (written (type_phrase names t)) (32 ∷ written (value_phrase names v)) _))

  parts_written : (parts : List TypedValue) → written (values_phrase names (hidden-the_row-TypedValue-0 parts)) ≡ written (list_phrase (typed_phrase names) parts)
  parts_written parts = values_of_items _ (hidden-the_row-TypedValue-0 parts) ∙ ap (λ vs. written (list_phrase (typed_phrase names) vs)) (items_hidden-the_row-TypedValue-0 parts)

  fields_written : (parts : List TypedValue) → written (fields_phrase names (hidden-the_row-TypedValue-0 parts)) ≡ written (spaced_phrase (typed_phrase names) parts)
  fields_written parts = fields_of_items _ (hidden-the_row-TypedValue-0 parts) ∙ ap (λ vs. written (spaced_phrase (typed_phrase names) vs)) (items_hidden-the_row-TypedValue-0 parts)

  operands_written : (parts : List TypedValue) → written (values_behind names (hidden-the_row-TypedValue-0 parts)) ≡ written (each_behind (typed_phrase names) parts)
  operands_written parts = behind_of_items _ (hidden-the_row-TypedValue-0 parts) ∙ ap (λ vs. written (each_behind (typed_phrase names) vs)) (items_hidden-the_row-TypedValue-0 parts)

  pub vector_written : (parts : List TypedValue) → written (value_phrase names (Vector parts)) ≡ 60 ∷ (written (list_phrase (typed_phrase names) parts) ++ 62 ∷ [])
  vector_written parts = ap (λ inside. 60 ∷ (inside ++ 62 ∷ [])) (parts_written parts)

  pub array_written : (parts : List TypedValue) → written (value_phrase names (Array parts)) ≡ 91 ∷ (written (list_phrase (typed_phrase names) parts) ++ 93 ∷ [])
  array_written parts = ap (λ inside. 91 ∷ (inside ++ 93 ∷ [])) (parts_written parts)

  pub struct_written : (parts : List TypedValue) → written (value_phrase names (Struct parts)) ≡ 123 ∷ (written (spaced_phrase (typed_phrase names) parts) ++ 125 ∷ [])
  struct_written parts = ap (λ inside. 123 ∷ (inside ++ 125 ∷ [])) (fields_written parts)

  pub packed_written : (parts : List TypedValue) → written (value_phrase names (Packed parts)) ≡ 60 ∷ 123 ∷ (written (spaced_phrase (typed_phrase names) parts) ++ 125 ∷ 62 ∷ [])
  packed_written parts = ap (λ inside. 60 ∷ 123 ∷ (inside ++ 125 ∷ 62 ∷ [])) (fields_written parts)

  pub path_written : (inbounds : Bool) (ty : LlType) (operands : List TypedValue) → written (value_phrase names (GetElementPtr inbounds ty operands)) ≡ codes "getelementptr" ++ (written (word_behind (codes "inbounds") inbounds) ++ (32 ∷ 40 ∷ (written (type_phrase names ty) ++ (written (each_behind (typed_phrase names) operands) ++ 41 ∷ []))))
  path_written inbounds ty operands =
      ap (λ inside. codes "getelementptr" ++ (written (word_behind (codes "inbounds") inbounds) ++ (32 ∷ 40 ∷ (written (type_phrase names ty) ++ (inside ++ 41 ∷ []))))) (operands_written operands)

  pub cast_written : (kind : _) (operand : TypedValue) (to : LlType) → written (value_phrase names (Cast kind operand to)) ≡ cast_word kind ++ (32 ∷ 40 ∷ (written (typed_phrase names operand) ++ (codes " to " ++ (written (type_phrase names to) ++ 41 ∷ []))))
  unfolding shape-the_row-TypedValue-1 hidden-the_row-TypedValue-1 hidden
  cast_written kind operand to =
      ap (λ inside. cast_word kind ++ (32 ∷ 40 ∷ ((written (type_phrase names operand.ty) ++ (32 ∷ inside)) ++ (codes " to " ++ (written (type_phrase names to) ++ 41 ∷ []))))) (append-nil (written (value_phrase names operand.value)))
