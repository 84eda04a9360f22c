-- The productions of types, whose parts are rows, over lists.
use Rattle.std.proofs.Common.{◌≡◌, List, sym, ap, ◌∙◌}
use mathlib.Core.Former.{Count}
use denote.Hole.Carrier.{out}
use Rattle.ll_tokens.specs.Tokens.{Lexeme}
use Rattle.ll_tree.specs.declared.name.NameText.{NameText}
use Rattle.ll_tree.specs.declared.ty.TypeBase.{Struct, Packed, Struct', Packed', Row_of-LlType, end_of-LlType, more_of-LlType, items-the_row-LlType, items_shown-the_row-LlType-1}
use Rattle.ll_tree.specs.declared.ty.TypeBase.TheViews.{roll-out-TypeBase, roll-TypeBase, out-TypeBase}
use Rattle.ll_tree.specs.declared.ty.TypeBase.TheVariants.{rolls-Struct, rolls-Packed}
use Rattle.ll_parser.specs.GrammarTypes.{ty, types, types_behind}
use Rattle.ll_parser.specs.Productions.{◌>>◌, listed, each_behind_comma}

module _ (names : List NameText) where
  pub behind_to_list : {k : Count} (row : Row_of-LlType k) (tokens rest : List Lexeme) → types_behind names row tokens rest → each_behind_comma (ty names) (items-the_row-LlType k row) tokens rest
  unfolding ◌>>◌
  behind_to_list end_of-LlType tokens rest d = d
  behind_to_list (more_of-LlType base pointers row) tokens rest (a, comma, (b, d, (c, ps, more))) =
      (a, comma, (c, (b, d, ps), behind_to_list row c rest more))

  pub behind_to_row : {k : Count} (row : Row_of-LlType k) (tokens rest : List Lexeme) → each_behind_comma (ty names) (items-the_row-LlType k row) tokens rest → types_behind names row tokens rest
  unfolding ◌>>◌
  behind_to_row end_of-LlType tokens rest d = d
  behind_to_row (more_of-LlType base pointers row) tokens rest (a, comma, (c, (b, d, ps), more)) =
      (a, comma, (b, d, (c, ps, behind_to_row row c rest more)))

  pub types_to_list : {k : Count} (row : Row_of-LlType k) (tokens rest : List Lexeme) → types names row tokens rest → listed (ty names) (items-the_row-LlType k row) tokens rest
  unfolding ◌>>◌
  types_to_list end_of-LlType tokens rest d = d
  types_to_list (more_of-LlType base pointers row) tokens rest (b, d, (c, ps, more)) = (c, (b, d, ps), behind_to_list row c rest more)

  pub types_to_row : {k : Count} (row : Row_of-LlType k) (tokens rest : List Lexeme) → listed (ty names) (items-the_row-LlType k row) tokens rest → types names row tokens rest
  unfolding ◌>>◌
  types_to_row end_of-LlType tokens rest d = d
  types_to_row (more_of-LlType base pointers row) tokens rest (c, (b, d, ps), more) = (b, d, (c, ps, behind_to_row row c rest more))

pub struct_from_row : (shape : List (Unit {0})) (row : Row_of-LlType _) → Struct' shape row ≡ Struct (items-the_row-LlType _ row)
unfolding out-TypeBase roll-TypeBase out
struct_from_row shape row = sym (roll-out-TypeBase (Struct' shape row)) ∙ (rolls-Struct _ ∙ ap Struct (items_shown-the_row-LlType-1 shape row))

pub packed_from_row : (shape : List (Unit {0})) (row : Row_of-LlType _) → Packed' shape row ≡ Packed (items-the_row-LlType _ row)
unfolding out-TypeBase roll-TypeBase out
packed_from_row shape row = sym (roll-out-TypeBase (Packed' shape row)) ∙ (rolls-Packed _ ∙ ap Packed (items_shown-the_row-LlType-1 shape row))
