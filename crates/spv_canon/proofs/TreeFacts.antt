-- The trees of a table's types.
use Rattle.std.proofs.Common.{◌≡◌, ℕ, zero, suc, ◌+◌, ◌<◌, ◌≤◌, List, [], ◌∷◌, ◌++◌, map, length, refl, sym, ◌∙◌, ap, subst, arith, All, Option, Some, None, length-append}
use Rattle.std.specs.Prelude.{slice_get, unwrap_or, nat_eq}
use Rattle.std.specs.List.{AllZip}
use Rattle.std.specs.Option.{option_map}
use Rattle.std.proofs.lemmas.List.{append-nil, append_assoc}
use Rattle.std.proofs.lemmas.List.Elements.{All-head, All-tail}
use Rattle.std.proofs.lemmas.Option.{slice_get_within, slice_get-map, slice_get-get_or}
use Rattle.inst_walk.specs.Places.{place_of}
use Rattle.kern_types.specs.Parts.{HasPartsIn, IsAmongFirst}
use Rattle.kern_types.specs.declared.ty.Ty.{Ty}
use Rattle.kern_types.specs.declared.ty.Ty.TheVariants as ty
use Rattle.kern_types.specs.declared.ty.TyId.{TyId}
use Rattle.kernel_tree.specs.declared.kernel.KernelParam.{KernelParam}
use Rattle.kernel_tree.specs.declared.kernel.ValueType.{ValueType}
use Rattle.kernel_tree.specs.declared.kernel.ValueType.TheVariants.{Int as i32, Pointer as i32_pointer}
use Rattle.kernel_tree.specs.Modules.{parameter, type_of}
use Rattle.spv_module.specs.declared.module.Function.{Function as SpvFunction}
use Rattle.spv_module.specs.declared.module.Param.{Param}
use Rattle.spv_module.specs.declared.types.TypeName.{TypeName}
use Rattle.spv_module.specs.NamedTypes.{NamedTypes}
use Rattle.spv_module.specs.Spelled.{id_at}
use Rattle.to_spirv.specs.KernelTypes.{tree_of, row_of_params, function_tree}
use Rattle.to_spirv.specs.Pairing.{HasType, HasSignature, PairsParam, PairsType}
use Rattle.to_spirv.specs.TypeTrees.{TypeTree, Void, Pointer, Function, Then}
use Rattle.spv_canon.specs.Sound.{EachOnce}
use Rattle.spv_canon.specs.Trees.{tree_at, row_at, tree_of_entry, trees_behind, trees_of, type_ids, id_of_type, tree_with_id}
use Rattle.spv_canon.proofs.ListFacts.{some-is, get-behind, found-once}

get-within : {A : Type 0} (xs ys : List A) (i : ℕ) → i < length xs → slice_get (xs ++ ys) i ≡ slice_get xs i
get-within [] ys i within = absurd (omega arith)
get-within (x ∷ xs) ys zero within = refl
get-within (x ∷ xs) ys (suc i) within = get-within xs ys i (omega arith)

module _ (trees more : List TypeTree) where
  tree-front : (place : TyId) → place.0 < length trees → tree_at (trees ++ more) place ≡ tree_at trees place
  tree-front place within = ap (λ (o : Option TypeTree). unwrap_or o Void) (get-within trees more place.0 within)

  row-front : (places : List TyId) → All (IsAmongFirst (length trees)) places → row_at (trees ++ more) places ≡ row_at trees places
  row-front [] within = refl
  row-front (place ∷ places) within =
      ap (λ t. Then t (row_at (trees ++ more) places)) (tree-front place (All-head (IsAmongFirst (length trees)) place places within))
      ∙ ap (Then (tree_at trees place)) (row-front places (All-tail (IsAmongFirst (length trees)) place places within))

  entry-front : (entry : Ty) → HasPartsIn (length trees) entry → tree_of_entry (trees ++ more) entry ≡ tree_of_entry trees entry
  entry-front ty.Void parts = refl
  entry-front ty.Bool parts = refl
  entry-front (ty.Int width) parts = refl
  entry-front (ty.Vector part lanes) parts = refl
  entry-front (ty.Array part count) parts = refl
  entry-front (ty.Struct members packed) parts = refl
  entry-front (ty.Pointer class to) parts = ap Pointer (tree-front to parts)
  entry-front (ty.Function given params) parts =
      ap (λ t. Function t (row_at (trees ++ more) params)) (tree-front given parts.0) ∙ ap (Function (tree_at trees given)) (row-front params parts.1)
  entry-front ty.Other parts = refl

-- more trees stand behind those that there are
behind-front : (trees : List TypeTree) (entries : List Ty) → (more : List TypeTree) × (trees_behind trees entries ≡ trees ++ more)
behind-front trees [] = ([], sym (append-nil trees))
behind-front trees (entry ∷ entries) =
    let tree = tree_of_entry trees entry in
    let rest = behind-front (trees ++ tree ∷ []) entries in
    (tree ∷ rest.0, rest.1 ∙ append_assoc trees (tree ∷ []) rest.0)

-- at the place of a type stands its tree
abbrev HasPartsFrom : ℕ → List Ty → Type 0
HasPartsFrom from entries = (place : ℕ) (entry : Ty) → slice_get entries place ≡ Some entry → HasPartsIn (from + place) entry

held-tree : (trees : List TypeTree) (entries : List Ty) (place : ℕ) (entry : Ty) → slice_get entries place ≡ Some entry → HasPartsFrom (length trees) entries
    → slice_get (trees_behind trees entries) (length trees + place) ≡ Some (tree_of_entry (trees_behind trees entries) entry)
held-tree trees [] place entry held parts = let none : place < 0 = slice_get_within [] place entry held in absurd (omega arith)
held-tree trees (first ∷ entries) zero entry held parts =
    let tree = tree_of_entry trees first in
    let all = trees_behind (trees ++ tree ∷ []) entries in
    let rest = behind-front (trees ++ tree ∷ []) entries in
    let whole : all ≡ trees ++ (tree ∷ rest.0) = rest.1 ∙ append_assoc trees (tree ∷ []) rest.0 in
    let there : slice_get (trees ++ (tree ∷ rest.0)) (length trees + 0) ≡ Some tree = get-behind trees (tree ∷ rest.0) 0 (length trees + 0) refl in
    let same : first ≡ entry = some-is first entry held in
    let from : HasPartsIn (length trees) first = subst (λ (n : ℕ). HasPartsIn n first) (add-zero (length trees)) (parts 0 first refl) in
    let front : tree_of_entry (trees ++ (tree ∷ rest.0)) first ≡ tree = entry-front trees (tree ∷ rest.0) first from in
    ap (λ (ts : List TypeTree). slice_get ts (length trees + 0)) whole ∙ there
    ∙ ap Some (sym front ∙ ap (λ (ts : List TypeTree). tree_of_entry ts first) (sym whole) ∙ ap (tree_of_entry all) same)
  where
    add-zero : (n : ℕ) → n + 0 ≡ n
    add-zero n = omega arith
held-tree trees (first ∷ entries) (suc place) entry held parts =
    let tree = tree_of_entry trees first in
    let longer : length (trees ++ tree ∷ []) ≡ length trees + 1 = length-append trees (tree ∷ []) in
    let from : HasPartsFrom (length (trees ++ tree ∷ [])) entries =
    λ p e at. let n : length trees + suc p ≡ length (trees ++ tree ∷ []) + p = omega arith in subst (λ (k : ℕ). HasPartsIn k e) n (parts (suc p) e at) in
    let at : length trees + suc place ≡ length (trees ++ tree ∷ []) + place = omega arith in
    ap (slice_get (trees_behind (trees ++ tree ∷ []) entries)) at ∙ held-tree (trees ++ tree ∷ []) entries place entry held from

-- types that are as the standard has them
pub record HasSoundTypes (types : NamedTypes) : Type 0 where
  pub once : EachOnce (type_ids types)
  pub named : length types.names ≡ length types.table.types
  pub parts : (place : ℕ) (entry : Ty) → slice_get types.table.types place ≡ Some entry → HasPartsIn place entry

module _ (types : NamedTypes) (sound : HasSoundTypes types) where
  abbrev trees : List TypeTree
  trees = trees_of types

  pub id-there : (place : ℕ) (name : TypeName) (id : ℕ) → slice_get types.names place ≡ Some name → name.id ≡ id → slice_get (type_ids types) place ≡ Some id
  id-there place name id named is = slice_get-map id_of_type types.names place ∙ ap (option_map id_of_type) named ∙ ap Some is

  tree-there : (place : ℕ) (entry : Ty) → slice_get types.table.types place ≡ Some entry → slice_get trees place ≡ Some (tree_of_entry trees entry)
  tree-there place entry held =
      let from : HasPartsFrom 0 types.table.types = λ p e at. subst (λ (n : ℕ). HasPartsIn n e) (sym (before p)) (sound.parts p e at) in
      subst (λ (n : ℕ). slice_get trees n ≡ Some (tree_of_entry trees entry)) (before place) (held-tree [] types.table.types place entry held from)
    where
      before : (n : ℕ) → 0 + n ≡ n
      before n = omega arith

  pub place-there : (id : ℕ) (entry : Ty) (has : HasType types id entry) → place_of nat_eq (type_ids types) id ≡ Some has.place
  place-there id entry has = found-once (type_ids types) id has.place sound.once (id-there has.place has.name id has.named has.has_id)

  -- the tree of the type with an id
  pub tree-with : (id : ℕ) (entry : Ty) → HasType types id entry → tree_with_id types id ≡ tree_of_entry trees entry
  tree-with id entry has =
      ap (λ (o : Option ℕ). unwrap_or (slice_get trees (unwrap_or o 0)) Void) (place-there id entry has)
      ∙ ap (λ (o : Option TypeTree). unwrap_or o Void) (tree-there has.place entry has.held)

  -- a type that is named by its id stands at the place of this id
  pub named-place : (to : TyId) (id : ℕ) (entry : Ty) → to.0 < length types.names → id_at types.names to ≡ id → (has : HasType types id entry) → to.0 ≡ has.place
  named-place to id entry within is has = by (slice_get types.names to.0) refl
    where
      by : (o : Option TypeName) → slice_get types.names to.0 ≡ o → to.0 ≡ has.place
      by None none =
          let default : TypeName = record { id = 0; length = None; place = 0 } in
          absurd (apart (sym none ∙ slice_get-get_or types.names to.0 default within))
        where
          apart : {x : TypeName} → None ≡ Some x → ⊥
          apart e = cc
      by (Some name) some =
          let named : name.id ≡ id = sym (ap (λ (o : Option TypeName). unwrap_or (option_map (λ n. n.id) o) 0) some) ∙ is in
          sound.once to.0 has.place id (id-there to.0 name id some named) (id-there has.place has.name id has.named has.has_id)

  -- the tree of a part of a type
  tree-named : (to : TyId) (id : ℕ) (entry : Ty) → to.0 < length types.names → id_at types.names to ≡ id → HasType types id entry → tree_at trees to ≡ tree_of_entry trees entry
  tree-named to id entry within is has =
      ap (λ (p : ℕ). unwrap_or (slice_get trees p) Void) (named-place to id entry within is has)
      ∙ ap (λ (o : Option TypeTree). unwrap_or o Void) (tree-there has.place entry has.held)

  -- a type that makes a pair with one of values
  pub record IsTypeOf (t : ValueType) (id : ℕ) : Type 0 where
    pub entry : Ty
    pub has : HasType types id entry
    pub is : tree_of_entry trees entry ≡ tree_of t

  -- parts stand among the names
  pub part-within : (id : ℕ) (entry : Ty) (has : HasType types id entry) (to : TyId) → to.0 < has.place → to.0 < length types.names
  part-within id entry has to before = let within = slice_get_within types.names has.place has.name has.named in omega arith

  pub type-is : (t : ValueType) (id : ℕ) → PairsType types (type_of t) id → IsTypeOf t id
  type-is i32 id pairs = record { entry = ty.Int pairs.width; has = pairs.held; is = refl }
  type-is i32_pointer id pairs =
      let pointer = pairs.1 in
      let int = pairs.2 in
      let before : pointer.to.0 < pointer.held.place = sound.parts pointer.held.place (ty.Pointer pointer.class pointer.to) pointer.held.held in
      let within = part-within id (ty.Pointer pointer.class pointer.to) pointer.held pointer.to before in
      record {
        entry = ty.Pointer pointer.class pointer.to;
        has = pointer.held;
        is = ap Pointer (tree-named pointer.to pairs.0 (ty.Int int.width) within pointer.points int.held);
      }

  pub type-tree : (t : ValueType) (id : ℕ) → PairsType types (type_of t) id → tree_with_id types id ≡ tree_of t
  type-tree t id pairs = let of = type-is t id pairs in tree-with id of.entry of.has ∙ of.is

  module _ (f : ℕ → ℕ) where
    row-tree : (places : List TyId) (others : List Param) (params : List KernelParam) (limit : ℕ) → limit ≤ length types.names
        → map (id_at types.names) places ≡ map (λ param. param.ty) others → All (IsAmongFirst limit) places
        → AllZip (PairsParam f types) (map parameter params) others → row_at trees places ≡ row_of_params params
    row-tree [] [] [] limit few ids within pairs = refl
    row-tree [] [] (param ∷ params) limit few ids within pairs = absurd pairs
    row-tree [] (other ∷ others) params limit few ids within pairs = let n = ap length ids in absurd (omega arith)
    row-tree (place ∷ places) [] params limit few ids within pairs = let n = ap length ids in absurd (omega arith)
    row-tree (place ∷ places) (other ∷ others) [] limit few ids within pairs = absurd pairs
    row-tree (place ∷ places) (other ∷ others) (param ∷ params) limit few ids within pairs =
        let of = type-is param.value_type other.ty pairs.0.type in
        let before : place.0 < limit = All-head (IsAmongFirst limit) place places within in
        let id : id_at types.names place ≡ other.ty = ap (λ ns. head ns) ids in
        let here : tree_at trees place ≡ tree_of param.value_type = tree-named place other.ty of.entry (omega arith) id of.has ∙ of.is in
        let behind = row-tree places others params limit few (ap tail ids) (All-tail (IsAmongFirst limit) place places within) pairs.1 in
        ap (λ t. Then t (row_at trees places)) here ∙ ap (Then (tree_of param.value_type)) behind
      where
        head : List ℕ → ℕ
        head [] = 0
        head (n ∷ ns) = n

        tail : List ℕ → List ℕ
        tail [] = []
        tail (n ∷ ns) = ns

    -- the tree of a function's type
    pub function-tree-is : (function : SpvFunction) (params : List KernelParam) → HasSignature f types function → HasType types function.result ty.Void
        → AllZip (PairsParam f types) (map parameter params) function.params → tree_with_id types function.ty ≡ function_tree params
    function-tree-is function params signature void pairs =
        let entry = ty.Function signature.given signature.params in
        let held = signature.held in
        let parts : HasPartsIn held.place entry = sound.parts held.place entry held.held in
        let within = slice_get_within types.names held.place held.name held.named in
        let given = tree-named signature.given function.result ty.Void (part-within function.ty entry held signature.given parts.0) signature.gives void in
        let row = row-tree signature.params function.params params held.place (omega arith) signature.takes parts.1 pairs in
        tree-with function.ty entry held
        ∙ ap (λ t. Function t (row_at trees signature.params)) given ∙ ap (Function Void) row
