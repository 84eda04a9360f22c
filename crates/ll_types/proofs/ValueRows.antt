-- The productions of values, whose parts are rows, over lists; and what values leave.
use Rattle.std.proofs.Common.{◌≡◌, ℕ, ◌≤◌, Bool, true, false, List, length, codes, refl, arith}
use mathlib.Core.Former.{Count}
use Rattle.ll_tokens.specs.Tokens.{Lexeme}
use Rattle.ll_tree.specs.declared.name.NameText.{NameText}
use Rattle.ll_tree.specs.declared.ty.LlType.{LlType}
use Rattle.ll_tree.specs.declared.value.TypedValue.{TypedValue}
use Rattle.ll_tree.specs.declared.value.Value.{Value, Local, Global, Int, Bytes, Bool as Truth, Null, Zero, Undef, Poison, Vector', Array', Struct', Packed', GetElementPtr', Cast', Row_of-TypedValue, end_of-TypedValue, more_of-TypedValue, items-the_row-TypedValue}
use Rattle.ll_parser.specs.GrammarTypes.{ty}
use Rattle.ll_parser.specs.GrammarValues.{count_of, if_word, only, typed, value, values, values_behind}
use Rattle.ll_parser.specs.Productions.{Production, ◌>>◌, each_behind_comma}
use Rattle.ll_parser.proofs.EndFacts.{ends_same}
use Rattle.ll_types.specs.ValueParts.{all_values}
use Rattle.ll_types.proofs.OneType.{base_shortens}
use Rattle.ll_types.proofs.Tokens.{EndsBy, Shortens, token_shortens, token_end, seq_ends, seq_shortens, shortens_ends, pointers_end}

module _ (names : List NameText) where
  pub behind_to_list : {k : Count} (row : Row_of-TypedValue k) (tokens rest : List Lexeme) → values_behind names row tokens rest → each_behind_comma (typed names) (items-the_row-TypedValue k row) tokens rest
  unfolding ◌>>◌
  behind_to_list end_of-TypedValue tokens rest d = d
  behind_to_list (more_of-TypedValue t v row) tokens rest (a, comma, (b, d, (c, e, more))) = (a, comma, (c, (b, d, e), behind_to_list row c rest more))

  pub behind_to_row : {k : Count} (row : Row_of-TypedValue k) (tokens rest : List Lexeme) → each_behind_comma (typed names) (items-the_row-TypedValue k row) tokens rest → values_behind names row tokens rest
  unfolding ◌>>◌
  behind_to_row end_of-TypedValue tokens rest d = d
  behind_to_row (more_of-TypedValue t v row) tokens rest (a, comma, (c, (b, d, e), more)) = (a, comma, (b, d, (c, e, behind_to_row row c rest more)))

  pub values_to_list : {k : Count} (row : Row_of-TypedValue k) (tokens rest : List Lexeme) → values names row tokens rest → all_values names (items-the_row-TypedValue k row) tokens rest
  unfolding ◌>>◌
  values_to_list end_of-TypedValue tokens rest d = d
  values_to_list (more_of-TypedValue t v row) tokens rest (b, d, (c, e, more)) = (c, (b, d, e), behind_to_list row c rest more)

  pub values_to_row : {k : Count} (row : Row_of-TypedValue k) (tokens rest : List Lexeme) → all_values names (items-the_row-TypedValue k row) tokens rest → values names row tokens rest
  unfolding ◌>>◌
  values_to_row end_of-TypedValue tokens rest d = d
  values_to_row (more_of-TypedValue t v row) tokens rest (c, (b, d, e), more) = (b, d, (c, e, behind_to_row row c rest more))

  type_shorter : (t : LlType) → Shortens (ty names t)
  type_shorter t = seq_shortens _ _ (base_shortens names t.base) (pointers_end t.pointers)

  only_shortens : (condition : Type 0) (p : Production) → Shortens p → Shortens (only condition p)
  only_shortens condition p shortens tokens rest d = shortens tokens rest d.1

  only_end : (condition : Type 0) (p : Production) → EndsBy p → EndsBy (only condition p)
  only_end condition p ends tokens rest d = ends tokens rest d.1

  word_end : (text : List ℕ) (there : Bool) → EndsBy (if_word text there)
  word_end text true = token_end _ _
  word_end text false = ends_same

  mutual
    pub value_shortens : (v : Value) (t : LlType) → Shortens (value names v t)
    value_shortens (Local name) t = token_shortens _ _
    value_shortens (Global name) t = token_shortens _ _
    value_shortens (Int number) t = token_shortens _ _
    value_shortens (Bytes bytes) t = token_shortens _ _
    value_shortens (Truth true) t = token_shortens _ _
    value_shortens (Truth false) t = token_shortens _ _
    value_shortens Null t = token_shortens _ _
    value_shortens Zero t = token_shortens _ _
    value_shortens Undef t = token_shortens _ _
    value_shortens Poison t = token_shortens _ _
    value_shortens (Vector' shape row) t = seq_shortens _ _ (token_shortens _ _) (seq_ends _ _ (values_end row) (token_end _ _))
    value_shortens (Array' shape row) t = seq_shortens _ _ (token_shortens _ _) (seq_ends _ _ (values_end row) (token_end _ _))
    value_shortens (Struct' shape row) t = seq_shortens _ _ (token_shortens _ _) (seq_ends _ _ (values_end row) (token_end _ _))
    value_shortens (Packed' shape row) t =
        seq_shortens _ _ (token_shortens _ _) (seq_ends _ _ (token_end _ _) (seq_ends _ _ (values_end row) (seq_ends _ _ (token_end _ _) (token_end _ _))))
    value_shortens (GetElementPtr' inbounds through shape row) t =
        seq_shortens _ _ (token_shortens _ _) (seq_ends _ _ (word_end (codes "inbounds") inbounds) (seq_ends _ _ (token_end _ _) (seq_ends _ _ (shortens_ends _ (type_shorter through)) (seq_ends _ _ (only_end (2 ≤ count_of row) _ (values_behind_end row)) (token_end _ _)))))
    value_shortens (Cast' kind shape row to) t =
        seq_shortens _ _ (only_shortens _ _ (token_shortens _ _)) (seq_ends _ _ (token_end _ _) (seq_ends _ _ (values_end row) (seq_ends _ _ (token_end _ _) (seq_ends _ _ (shortens_ends _ (type_shorter to)) (token_end _ _)))))

    values_end : {k : Count} (row : Row_of-TypedValue k) → EndsBy (values names row)
    values_end end_of-TypedValue = ends_same
    values_end (more_of-TypedValue t v row) = seq_ends _ _ (shortens_ends _ (type_shorter t)) (seq_ends _ _ (shortens_ends _ (value_shortens v t)) (values_behind_end row))

    values_behind_end : {k : Count} (row : Row_of-TypedValue k) → EndsBy (values_behind names row)
    values_behind_end end_of-TypedValue = ends_same
    values_behind_end (more_of-TypedValue t v row) =
        seq_ends _ _ (token_end _ _) (seq_ends _ _ (shortens_ends _ (type_shorter t)) (seq_ends _ _ (shortens_ends _ (value_shortens v t)) (values_behind_end row)))

  pub typed_shortens : (v : TypedValue) → Shortens (typed names v)
  typed_shortens v = seq_shortens _ _ (type_shorter v.ty) (shortens_ends _ (value_shortens v.value v.ty))

pub count_is : {k : Count} (row : Row_of-TypedValue k) → count_of row ≡ length (items-the_row-TypedValue k row)
count_is end_of-TypedValue = refl
count_is (more_of-TypedValue t v row) = let e = count_is row in omega arith
