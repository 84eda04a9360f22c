-- The texts of types with parts, over lists.
use Rattle.std.proofs.Common.{◌≡◌, ℕ, List, [], ◌∷◌, ◌++◌, codes, decimal, refl, ap, sym, ◌∙◌, append_assoc, append-nil}
use mathlib.Core.Former.{Count}
use denote.Hole.Carrier.{hidden}
use Rattle.ll_tree.specs.declared.name.NameText.{NameText}
use Rattle.ll_tree.specs.declared.ty.LlType.{LlType}
use Rattle.ll_tree.specs.declared.ty.TypeBase.{Array, Vector, Struct, Packed, Row_of-LlType, end_of-LlType, more_of-LlType, items-the_row-LlType, items_hidden-the_row-LlType-1}
use Rattle.ll_tree.specs.declared.ty.TypeBase.TheBlock.{shape-the_row-LlType-0, hidden-the_row-LlType-0, hidden-the_row-LlType-1}
use Rattle.ll_phrases.specs.Phrases.{written, each_phrase, each_behind}
use Rattle.ll_phrases.specs.TypePhrases.{base_phrase, members_phrase, pointer_phrase, type_phrase, types_behind}
use Rattle.ll_op_printer.specs.Parts.{counted_phrase, spaced_phrase}

counted : (left right : ℕ) (count base pointers : List ℕ) → left ∷ (count ++ (32 ∷ 120 ∷ 32 ∷ ((base ++ (pointers ++ [])) ++ right ∷ []))) ≡ left ∷ ((count ++ (32 ∷ 120 ∷ 32 ∷ (base ++ pointers))) ++ right ∷ [])
counted left right count base pointers =
    ap (λ inside. left ∷ (count ++ (32 ∷ 120 ∷ 32 ∷ ((base ++ inside) ++ right ∷ [])))) (append-nil pointers)
    ∙ ap (λ inside. left ∷ inside) (sym (append_assoc count (32 ∷ 120 ∷ 32 ∷ (base ++ pointers)) (right ∷ [])))

module _ (names : List NameText) where
  behind_of_items : (k : Count) (row : Row_of-LlType k) → written (types_behind names row) ≡ written (each_behind (type_phrase names) (items-the_row-LlType k row))
  behind_of_items k end_of-LlType = refl
  behind_of_items k (more_of-LlType base pointers rest) =
      ap (λ later. 44 ∷ 32 ∷ (written (base_phrase names base) ++ (written (each_phrase pointer_phrase pointers) ++ later))) (behind_of_items _ rest)
      ∙ ap (λ later. 44 ∷ 32 ∷ later) (sym (append_assoc (written (base_phrase names base)) (written (each_phrase pointer_phrase pointers)) _))

  members_of_items : (k : Count) (row : Row_of-LlType k) → written (members_phrase names row) ≡ written (spaced_phrase (type_phrase names) (items-the_row-LlType k row))
  members_of_items k end_of-LlType = refl
  members_of_items k (more_of-LlType base pointers rest) =
      ap (λ later. 32 ∷ (written (base_phrase names base) ++ (written (each_phrase pointer_phrase pointers) ++ (later ++ 32 ∷ [])))) (behind_of_items _ rest)
      ∙ ap (λ later. 32 ∷ later) (sym (append_assoc (written (base_phrase names base)) (written (each_phrase pointer_phrase pointers)) _))

  members_written : (members : List LlType) → written (members_phrase names (hidden-the_row-LlType-1 members)) ≡ written (spaced_phrase (type_phrase names) members)
  members_written members = members_of_items _ (hidden-the_row-LlType-1 members) ∙ ap (λ ts. written (spaced_phrase (type_phrase names) ts)) (items_hidden-the_row-LlType-1 members)

  pub array_written : (count : ℕ) (part : LlType) → written (base_phrase names (Array count part)) ≡ 91 ∷ (written (counted_phrase names count part) ++ 93 ∷ [])
  unfolding shape-the_row-LlType-0 hidden-the_row-LlType-0 hidden
  array_written count part = counted 91 93 (decimal count) (written (base_phrase names part.base)) (written (each_phrase pointer_phrase part.pointers))

  pub vector_written : (lanes : ℕ) (part : LlType) → written (base_phrase names (Vector lanes part)) ≡ 60 ∷ (written (counted_phrase names lanes part) ++ 62 ∷ [])
  unfolding shape-the_row-LlType-0 hidden-the_row-LlType-0 hidden
  vector_written lanes part = counted 60 62 (decimal lanes) (written (base_phrase names part.base)) (written (each_phrase pointer_phrase part.pointers))

  pub struct_written : (members : List LlType) → written (base_phrase names (Struct members)) ≡ 123 ∷ (written (spaced_phrase (type_phrase names) members) ++ 125 ∷ [])
  struct_written members = ap (λ inside. 123 ∷ (inside ++ 125 ∷ [])) (members_written members)

  pub packed_written : (members : List LlType) → written (base_phrase names (Packed members)) ≡ 60 ∷ 123 ∷ (written (spaced_phrase (type_phrase names) members) ++ 125 ∷ 62 ∷ [])
  packed_written members = ap (λ inside. 60 ∷ 123 ∷ (inside ++ 125 ∷ 62 ∷ [])) (members_written members)
