-- Values with parts, seen as made of a list.
use Rattle.std.proofs.Common.{◌≡◌, List, ◌∷◌, ◌++◌, map, refl, sym, ap, ◌∙◌, append-nil}
use mathlib.Core.Former.{Count}
use denote.Hole.Carrier.{hidden, out}
use Rattle.ll_tree.specs.declared.name.Name.{Name}
use Rattle.ll_tree.specs.declared.ty.LlType.{LlType}
use Rattle.ll_tree.specs.declared.value.TypedValue.{TypedValue}
use Rattle.ll_tree.specs.declared.value.Value.{Vector, Vector', Array, Array', Struct, Struct', Packed, Packed', GetElementPtr, GetElementPtr', Cast, Row_of-TypedValue, end_of-TypedValue, more_of-TypedValue, items-the_row-TypedValue, items_hidden-the_row-TypedValue-0, items_shown-the_row-TypedValue-0}
use Rattle.ll_tree.specs.declared.value.Value.TheViews.{roll-out-Value, roll-Value, out-Value}
use Rattle.ll_tree.specs.declared.value.Value.TheBlock.{hidden-the_row-TypedValue-0, shape-the_row-TypedValue-1, hidden-the_row-TypedValue-1}
use Rattle.ll_tree.specs.declared.value.Value.TheVariants.{rolls-Vector, rolls-Array, rolls-Struct, rolls-Packed, rolls-GetElementPtr}
use Rattle.ll_tree.specs.Values.{value_names, row_names, names_in, bare, value_changed, row_changed, typed_changed}

row_names_of_items : (k : Count) (row : Row_of-TypedValue k) → row_names row ≡ names_in (bare (items-the_row-TypedValue k row))
row_names_of_items k end_of-TypedValue = refl
row_names_of_items k (more_of-TypedValue ty value rest) = ap (λ later. value_names value ++ later) (row_names_of_items _ rest)

vector_from_row : (shape : List (Unit {0})) (row : Row_of-TypedValue _) → Vector' shape row ≡ Vector (items-the_row-TypedValue _ row)
unfolding out-Value roll-Value out
vector_from_row shape row = sym (roll-out-Value (Vector' shape row)) ∙ (rolls-Vector _ ∙ ap Vector (items_shown-the_row-TypedValue-0 shape row))

array_from_row : (shape : List (Unit {0})) (row : Row_of-TypedValue _) → Array' shape row ≡ Array (items-the_row-TypedValue _ row)
unfolding out-Value roll-Value out
array_from_row shape row = sym (roll-out-Value (Array' shape row)) ∙ (rolls-Array _ ∙ ap Array (items_shown-the_row-TypedValue-0 shape row))

struct_from_row : (shape : List (Unit {0})) (row : Row_of-TypedValue _) → Struct' shape row ≡ Struct (items-the_row-TypedValue _ row)
unfolding out-Value roll-Value out
struct_from_row shape row = sym (roll-out-Value (Struct' shape row)) ∙ (rolls-Struct _ ∙ ap Struct (items_shown-the_row-TypedValue-0 shape row))

packed_from_row : (shape : List (Unit {0})) (row : Row_of-TypedValue _) → Packed' shape row ≡ Packed (items-the_row-TypedValue _ row)
unfolding out-Value roll-Value out
packed_from_row shape row = sym (roll-out-Value (Packed' shape row)) ∙ (rolls-Packed _ ∙ ap Packed (items_shown-the_row-TypedValue-0 shape row))

path_from_row : (inbounds : _) (ty : LlType) (shape : List (Unit {0})) (row : Row_of-TypedValue _) → GetElementPtr' inbounds ty shape row ≡ GetElementPtr inbounds ty (items-the_row-TypedValue _ row)
unfolding out-Value roll-Value out
path_from_row inbounds ty shape row =
    sym (roll-out-Value (GetElementPtr' inbounds ty shape row)) ∙ (rolls-GetElementPtr inbounds ty _ ∙ ap (GetElementPtr inbounds ty) (items_shown-the_row-TypedValue-0 shape row))

module _ (n : Name → Name) (t : LlType → LlType) where
  items_changed : (k : Count) (row : Row_of-TypedValue k) → items-the_row-TypedValue k (row_changed n t row) ≡ map (typed_changed n t) (items-the_row-TypedValue k row)
  items_changed k end_of-TypedValue = refl
  items_changed k (more_of-TypedValue ty value rest) = ap (λ later. typed_changed n t (record { ty = ty; value = value }) ∷ later) (items_changed _ rest)

  parts_changed : (parts : List TypedValue) → items-the_row-TypedValue _ (row_changed n t (hidden-the_row-TypedValue-0 parts)) ≡ map (typed_changed n t) parts
  parts_changed parts = items_changed _ (hidden-the_row-TypedValue-0 parts) ∙ ap (map (typed_changed n t)) (items_hidden-the_row-TypedValue-0 parts)

  pub vector_changed : (parts : List TypedValue) → value_changed n t (Vector parts) ≡ Vector (map (typed_changed n t) parts)
  vector_changed parts = vector_from_row _ _ ∙ ap Vector (parts_changed parts)

  pub array_changed : (parts : List TypedValue) → value_changed n t (Array parts) ≡ Array (map (typed_changed n t) parts)
  array_changed parts = array_from_row _ _ ∙ ap Array (parts_changed parts)

  pub struct_changed : (parts : List TypedValue) → value_changed n t (Struct parts) ≡ Struct (map (typed_changed n t) parts)
  struct_changed parts = struct_from_row _ _ ∙ ap Struct (parts_changed parts)

  pub packed_changed : (parts : List TypedValue) → value_changed n t (Packed parts) ≡ Packed (map (typed_changed n t) parts)
  packed_changed parts = packed_from_row _ _ ∙ ap Packed (parts_changed parts)

  pub getelementptr_changed : (inbounds : _) (ty : LlType) (operands : List TypedValue) → value_changed n t (GetElementPtr inbounds ty operands) ≡ GetElementPtr inbounds (t ty) (map (typed_changed n t) operands)
  getelementptr_changed inbounds ty operands = path_from_row inbounds (t ty) _ _ ∙ ap (GetElementPtr inbounds (t ty)) (parts_changed operands)

  pub cast_changed : (kind : _) (operand : TypedValue) (to : LlType) → value_changed n t (Cast kind operand to) ≡ Cast kind (typed_changed n t operand) (t to)
  unfolding shape-the_row-TypedValue-1 hidden-the_row-TypedValue-1 hidden
  cast_changed kind operand to = refl

parts_names : (parts : List TypedValue) → row_names (hidden-the_row-TypedValue-0 parts) ≡ names_in (bare parts)
parts_names parts = row_names_of_items _ (hidden-the_row-TypedValue-0 parts) ∙ ap (λ ts. names_in (bare ts)) (items_hidden-the_row-TypedValue-0 parts)

pub vector_names : (parts : List TypedValue) → value_names (Vector parts) ≡ names_in (bare parts)
vector_names = parts_names

pub array_names : (parts : List TypedValue) → value_names (Array parts) ≡ names_in (bare parts)
array_names = parts_names

pub struct_names : (parts : List TypedValue) → value_names (Struct parts) ≡ names_in (bare parts)
struct_names = parts_names

pub packed_names : (parts : List TypedValue) → value_names (Packed parts) ≡ names_in (bare parts)
packed_names = parts_names

pub getelementptr_names : (inbounds : _) (ty : LlType) (operands : List TypedValue) → value_names (GetElementPtr inbounds ty operands) ≡ names_in (bare operands)
getelementptr_names inbounds ty = parts_names

pub cast_names : (kind : _) (operand : TypedValue) (to : LlType) → value_names (Cast kind operand to) ≡ value_names operand.value
unfolding shape-the_row-TypedValue-1 hidden-the_row-TypedValue-1 hidden
cast_names kind operand to = append-nil (value_names operand.value)
