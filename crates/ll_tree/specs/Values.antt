-- The names that a value holds, and values with their names and types changed (LLVM 14, Constants).
use Rattle.std.specs.Prelude.{ℕ, List, [], ◌∷◌, ◌++◌, map, flat_map}
use Rattle.ll_tree.specs.declared.name.Name.{Name}
use Rattle.ll_tree.specs.Names.{name_renamed}
use Rattle.ll_tree.specs.declared.ty.LlType.{LlType}
use Rattle.ll_tree.specs.declared.value.TypedValue.{TypedValue}
use Rattle.ll_tree.specs.declared.value.Value.{Value, Local, Global, Int, Bytes, Bool as Truth, Null, Zero, Undef, Poison, Vector', Array', Struct', Packed', GetElementPtr', Cast', Row_of-TypedValue, end_of-TypedValue, more_of-TypedValue}

abbrev mutual
  -- the numbers of the named values, in order, those inside constant expressions and composites too
  pub value_names : Value → List ℕ
  value_names (Local name) = name.number ∷ []
  value_names (Global name) = name.number ∷ []
  value_names (Vector' shape parts) = row_names parts
  value_names (Array' shape parts) = row_names parts
  value_names (Struct' shape parts) = row_names parts
  value_names (Packed' shape parts) = row_names parts
  value_names (GetElementPtr' inbounds ty shape operands) = row_names operands
  value_names (Cast' kind shape operand to) = row_names operand
  value_names _ = []

  -- the same of each value in a list
  pub row_names : {n : _} → Row_of-TypedValue n → List ℕ
  row_names end_of-TypedValue = []
  row_names (more_of-TypedValue ty value rest) = value_names value ++ row_names rest

-- the numbers of the named values in a list of values
abbrev pub names_in : List Value → List ℕ
names_in values = flat_map value_names values

-- the values without their types
abbrev pub bare : List TypedValue → List Value
bare values = map (λ (t : TypedValue). t.value) values

module _ (name_change : Name → Name) (type_change : LlType → LlType) where
  abbrev mutual
    -- the value with each of its names and types changed
    pub value_changed : Value → Value
    value_changed (Local name) = Local (name_change name)
    value_changed (Global name) = Global (name_change name)
    value_changed (Int number) = Int number
    value_changed (Bytes bytes) = Bytes bytes
    value_changed (Truth truth) = Truth truth
    value_changed Null = Null
    value_changed Zero = Zero
    value_changed Undef = Undef
    value_changed Poison = Poison
    value_changed (Vector' shape parts) = Vector' shape (row_changed parts)
    value_changed (Array' shape parts) = Array' shape (row_changed parts)
    value_changed (Struct' shape parts) = Struct' shape (row_changed parts)
    value_changed (Packed' shape parts) = Packed' shape (row_changed parts)
    value_changed (GetElementPtr' inbounds ty shape operands) =
        GetElementPtr' inbounds (type_change ty) shape (row_changed operands)
    value_changed (Cast' kind shape operand to) = Cast' kind shape (row_changed operand) (type_change to)

    -- the same of each value in a list
    pub row_changed : {n : _} → Row_of-TypedValue n → Row_of-TypedValue n
    row_changed end_of-TypedValue = end_of-TypedValue
    row_changed (more_of-TypedValue ty value rest) =
        more_of-TypedValue (type_change ty) (value_changed value) (row_changed rest)

  abbrev pub typed_changed : TypedValue → TypedValue
  typed_changed typed = record { ty = type_change typed.ty; value = value_changed typed.value }

module _ (f : ℕ → ℕ) where
  -- the value with each of its names renamed
  abbrev pub value_renamed : Value → Value
  value_renamed = value_changed (name_renamed f) (λ ty. ty)

  abbrev pub typed_renamed : TypedValue → TypedValue
  typed_renamed = typed_changed (name_renamed f) (λ ty. ty)
