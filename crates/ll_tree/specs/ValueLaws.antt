-- What renaming does to values.
use Rattle.std.proofs.Common.{◌≡◌, ℕ, List, [], ◌∷◌, ◌++◌, map, All, refl, sym, ap, ap₂, ◌∙◌}
use Rattle.std.proofs.lemmas.List.{map-append}
use Rattle.std.proofs.lemmas.List.Elements.{All-head, All-tail, All-nil, All-cons}
use Rattle.ll_tree.specs.declared.name.Name.{Name}
use Rattle.ll_tree.specs.declared.ty.LlType.{LlType}
use Rattle.ll_tree.specs.declared.value.Value.{Value, Local, Global, Int, Bytes, Bool as Truth, Null, Zero, Undef, Poison, Vector', Array', Struct', Packed', GetElementPtr', Cast', Row_of-TypedValue, end_of-TypedValue, more_of-TypedValue}
use Rattle.ll_tree.specs.Names.{name_renamed}
use Rattle.ll_tree.specs.Values.{value_names, row_names, value_changed, row_changed, value_renamed}

pub All-front : {X : Type 0} (P : X → Type 0) (xs ys : List X) → All P (xs ++ ys) → All P xs
All-front P [] ys h = All-nil P
All-front P (x ∷ xs) ys h = All-cons P x xs (All-head P x (xs ++ ys) h) (All-front P xs ys (All-tail P x (xs ++ ys) h))

pub All-back : {X : Type 0} (P : X → Type 0) (xs ys : List X) → All P (xs ++ ys) → All P ys
All-back P [] ys h = h
All-back P (x ∷ xs) ys h = All-back P xs ys (All-tail P x (xs ++ ys) h)

module _ (f : ℕ → ℕ) (t : LlType → LlType) where
  mutual
    -- the names of a renamed value are the renamed names
    pub names_changed : (v : Value) → value_names (value_changed (name_renamed f) t v) ≡ map f (value_names v)
    names_changed (Local name) = refl
    names_changed (Global name) = refl
    names_changed (Int number) = refl
    names_changed (Bytes bytes) = refl
    names_changed (Truth truth) = refl
    names_changed Null = refl
    names_changed Zero = refl
    names_changed Undef = refl
    names_changed Poison = refl
    names_changed (Vector' shape parts) = row_names_changed parts
    names_changed (Array' shape parts) = row_names_changed parts
    names_changed (Struct' shape parts) = row_names_changed parts
    names_changed (Packed' shape parts) = row_names_changed parts
    names_changed (GetElementPtr' inbounds ty shape operands) = row_names_changed operands
    names_changed (Cast' kind shape operand to) = row_names_changed operand

    row_names_changed : {n : _} (row : Row_of-TypedValue n) → row_names (row_changed (name_renamed f) t row) ≡ map f (row_names row)
    row_names_changed end_of-TypedValue = refl
    row_names_changed (more_of-TypedValue ty value rest) =
        ap₂ (λ xs ys. xs ++ ys) (names_changed value) (row_names_changed rest) ∙ sym (map-append f (value_names value) (row_names rest))

module _ (n m : Name → Name) (t u : LlType → LlType) where
  mutual
    -- changing twice is changing once by both
    pub changed_twice : (v : Value) → value_changed m u (value_changed n t v) ≡ value_changed (λ x. m (n x)) (λ x. u (t x)) v
    changed_twice (Local name) = refl
    changed_twice (Global name) = refl
    changed_twice (Int number) = refl
    changed_twice (Bytes bytes) = refl
    changed_twice (Truth truth) = refl
    changed_twice Null = refl
    changed_twice Zero = refl
    changed_twice Undef = refl
    changed_twice Poison = refl
    changed_twice (Vector' shape parts) = ap (Vector' shape) (row_changed_twice parts)
    changed_twice (Array' shape parts) = ap (Array' shape) (row_changed_twice parts)
    changed_twice (Struct' shape parts) = ap (Struct' shape) (row_changed_twice parts)
    changed_twice (Packed' shape parts) = ap (Packed' shape) (row_changed_twice parts)
    changed_twice (GetElementPtr' inbounds ty shape operands) =
        ap (GetElementPtr' inbounds (u (t ty)) shape) (row_changed_twice operands)
    changed_twice (Cast' kind shape operand to) = ap (λ row. Cast' kind shape row (u (t to))) (row_changed_twice operand)

    row_changed_twice : {k : _} (row : Row_of-TypedValue k) → row_changed m u (row_changed n t row) ≡ row_changed (λ x. m (n x)) (λ x. u (t x)) row
    row_changed_twice end_of-TypedValue = refl
    row_changed_twice (more_of-TypedValue ty value rest) =
        ap₂ (λ v row. more_of-TypedValue (u (t ty)) v row) (changed_twice value) (row_changed_twice rest)

mutual
  -- changing nothing
  pub changed_same : (v : Value) → value_changed (λ x. x) (λ x. x) v ≡ v
  changed_same (Local name) = refl
  changed_same (Global name) = refl
  changed_same (Int number) = refl
  changed_same (Bytes bytes) = refl
  changed_same (Truth truth) = refl
  changed_same Null = refl
  changed_same Zero = refl
  changed_same Undef = refl
  changed_same Poison = refl
  changed_same (Vector' shape parts) = ap (Vector' shape) (row_changed_same parts)
  changed_same (Array' shape parts) = ap (Array' shape) (row_changed_same parts)
  changed_same (Struct' shape parts) = ap (Struct' shape) (row_changed_same parts)
  changed_same (Packed' shape parts) = ap (Packed' shape) (row_changed_same parts)
  changed_same (GetElementPtr' inbounds ty shape operands) = ap (GetElementPtr' inbounds ty shape) (row_changed_same operands)
  changed_same (Cast' kind shape operand to) = ap (λ row. Cast' kind shape row to) (row_changed_same operand)

  row_changed_same : {k : _} (row : Row_of-TypedValue k) → row_changed (λ x. x) (λ x. x) row ≡ row
  row_changed_same end_of-TypedValue = refl
  row_changed_same (more_of-TypedValue ty value rest) = ap₂ (λ v row. more_of-TypedValue ty v row) (changed_same value) (row_changed_same rest)

module _ (f g : ℕ → ℕ) where
  abbrev pub Agrees : ℕ → Type 0
  Agrees name = f name ≡ g name

  mutual
    -- only what becomes of the value's own names matters
    pub renamed_alike : (v : Value) → All Agrees (value_names v) → value_renamed f v ≡ value_renamed g v
    renamed_alike (Local name) h = ap (λ x. Local (record { number = x; byte = name.byte })) (All-head Agrees name.number [] h)
    renamed_alike (Global name) h = ap (λ x. Global (record { number = x; byte = name.byte })) (All-head Agrees name.number [] h)
    renamed_alike (Int number) h = refl
    renamed_alike (Bytes bytes) h = refl
    renamed_alike (Truth truth) h = refl
    renamed_alike Null h = refl
    renamed_alike Zero h = refl
    renamed_alike Undef h = refl
    renamed_alike Poison h = refl
    renamed_alike (Vector' shape parts) h = ap (Vector' shape) (row_renamed_alike parts h)
    renamed_alike (Array' shape parts) h = ap (Array' shape) (row_renamed_alike parts h)
    renamed_alike (Struct' shape parts) h = ap (Struct' shape) (row_renamed_alike parts h)
    renamed_alike (Packed' shape parts) h = ap (Packed' shape) (row_renamed_alike parts h)
    renamed_alike (GetElementPtr' inbounds ty shape operands) h = ap (GetElementPtr' inbounds ty shape) (row_renamed_alike operands h)
    renamed_alike (Cast' kind shape operand to) h = ap (λ row. Cast' kind shape row to) (row_renamed_alike operand h)

    row_renamed_alike : {k : _} (row : Row_of-TypedValue k) → All Agrees (row_names row) → row_changed (name_renamed f) (λ ty. ty) row ≡ row_changed (name_renamed g) (λ ty. ty) row
    row_renamed_alike end_of-TypedValue h = refl
    row_renamed_alike (more_of-TypedValue ty value rest) h =
        ap₂ (λ v row. more_of-TypedValue ty v row) (renamed_alike value (All-front Agrees (value_names value) (row_names rest) h))
        (row_renamed_alike rest (All-back Agrees (value_names value) (row_names rest) h))
