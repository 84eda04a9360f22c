-- The walk over the types of a kernel's module gives the closed list.
use Rattle.std.proofs.Common.{◌≡◌, Bool, true, false, List, [], ◌∷◌, ◌++◌, map, length, refl, sym, ◌∙◌, ap, subst, arith}
use Rattle.std.specs.Prelude.{if◌then◌else◌, ◌||◌, ◌<◌, ℕ, suc, zero, flat_map, slice_get, All, Some, None}
use Rattle.std.specs.List.{list_any}
use Rattle.std.proofs.lemmas.List.Elements.{All-nil, All-cons}
use Rattle.kern_lanes.specs.declared.width.Width.TheVariants.{W32}
use Rattle.kern_types.specs.Parts.{HasPartsIn, IsAmongFirst}
use Rattle.kern_types.specs.declared.class.Class.TheVariants.{Global}
use Rattle.kern_types.specs.declared.ty.Ty.{Ty}
use Rattle.kern_types.specs.declared.ty.Ty.TheVariants as ty
use Rattle.kern_types.specs.declared.ty.TyId.{TyId}
use Rattle.kernel_tree.specs.declared.kernel.Kernel.{Kernel}
use Rattle.kernel_tree.specs.declared.kernel.KernelInst.{KernelInst}
use Rattle.kernel_tree.specs.declared.kernel.KernelInst.TheVariants.{Add, Load, Store}
use Rattle.kernel_tree.specs.declared.kernel.KernelParam.{KernelParam}
use Rattle.kernel_tree.specs.declared.kernel.ValueType.{ValueType}
use Rattle.kernel_tree.specs.declared.kernel.ValueType.TheVariants.{Int as i32, Pointer as i32_pointer}
use Rattle.spv_module.specs.declared.types.TypeName.{TypeName}
use Rattle.spv_module.specs.NamedTypes.{NamedTypes}
use Rattle.to_spirv.specs.declared.ids.Ids.{Ids}
use Rattle.to_spirv.specs.declared.types.TypesNeeded.{TypesNeeded}
use Rattle.to_spirv.specs.declared.types.TypesNeeded.TheVariants.{Neither, ResultInt, ParamInt, ParamPointer}
use Rattle.to_spirv.specs.TypeTrees.{TypeTree, TypeRow, Void, Int, Pointer, Function, End, Then, is_same, are_same, listing, needing, needing_row, needing_all, places_in}
use Rattle.to_spirv.specs.KernelTypes.{tree_of, row_of_params, function_tree, result_trees, types_of}
use Rattle.to_spirv.specs.Partner.{ids_over, kernel_ids, module_over, partner, named_types, type_name}
use Rattle.to_spirv.specs.ClosedTypes.{takes_pointer, is_pointer, has_value, needed_without_pointer, needed_where, needed_by, listed_by, ids_by, front_of, with_type, with_behind, numbered_types, value_place, function_entry}

-- a type is itself
mutual
  pub tree-same : (tree : TypeTree) → is_same tree tree ≡ true
  tree-same Void = refl
  tree-same Int = refl
  tree-same (Pointer tree) = tree-same tree
  tree-same (Function given row) = rw (tree-same given) (row-same row)

  pub row-same : (row : TypeRow) → are_same row row ≡ true
  row-same End = refl
  row-same (Then tree row) = rw (tree-same tree) (row-same row)

-- results need nothing that is listed
results-listed : (listed : List TypeTree) (insts : List KernelInst) → list_any (is_same Int) listed ≡ true
    → needing_all (flat_map result_trees insts) listed ≡ listed
results-listed listed [] has = refl
results-listed listed (Store value pointer is_aligned ∷ insts) has = results-listed listed insts has
results-listed listed (Add sum left right ∷ insts) has =
    ap (λ b. needing_all (flat_map result_trees insts) (if b then listed else listed ++ Int ∷ [])) has ∙ results-listed listed insts has
results-listed listed (Load loaded pointer is_aligned ∷ insts) has =
    ap (λ b. needing_all (flat_map result_trees insts) (if b then listed else listed ++ Int ∷ [])) has ∙ results-listed listed insts has

-- of a kernel without parameters, the results alone may need a type
bare-results : (insts : List KernelInst)
    → needing_all (flat_map result_trees insts) (Void ∷ Function Void End ∷ []) ≡ listed_by (needed_without_pointer [] (list_any has_value insts)) End
bare-results [] = refl
bare-results (Store value pointer is_aligned ∷ insts) = bare-results insts
bare-results (Add sum left right ∷ insts) = results-listed (Void ∷ Function Void End ∷ Int ∷ []) insts refl
bare-results (Load loaded pointer is_aligned ∷ insts) = results-listed (Void ∷ Function Void End ∷ Int ∷ []) insts refl

-- the types before the function's, where a parameter needs a pointer, and where it doesn't
abbrev with_pointer : Bool → List TypeTree
with_pointer true = Void ∷ Int ∷ Pointer Int ∷ []
with_pointer false = Void ∷ Int ∷ []

row-pointer : (params : List KernelParam) → needing_row (row_of_params params) (with_pointer true) ≡ with_pointer true
row-pointer [] = refl
row-pointer (param ∷ params) = by_type param.value_type (row-pointer params)
  where
    by_type : (t : ValueType) → needing_row (row_of_params params) (with_pointer true) ≡ with_pointer true
        → needing_row (row_of_params params) (needing (tree_of t) (with_pointer true)) ≡ with_pointer true
    by_type i32 behind = behind
    by_type i32_pointer behind = behind

row-int : (params : List KernelParam) → needing_row (row_of_params params) (with_pointer false) ≡ with_pointer (list_any takes_pointer params)
row-int [] = refl
row-int (param ∷ params) = by_type param.value_type (row-int params)
  where
    by_type : (t : ValueType) → needing_row (row_of_params params) (with_pointer false) ≡ with_pointer (list_any takes_pointer params)
        → needing_row (row_of_params params) (needing (tree_of t) (with_pointer false)) ≡ with_pointer (is_pointer t || list_any takes_pointer params)
    by_type i32 behind = behind
    by_type i32_pointer behind = row-pointer params

-- the walk, where the first parameter has been seen
listed-results : (pointer : Bool) (row : TypeRow) (param : KernelParam) (params : List KernelParam) (insts : List KernelInst)
    → needing_all (flat_map result_trees insts) (listing (Function Void row) (with_pointer pointer))
    ≡ listed_by (needed_where pointer (param ∷ params) (list_any has_value insts)) row
listed-results true row param params insts = results-listed (Void ∷ Int ∷ Pointer Int ∷ Function Void row ∷ []) insts refl
listed-results false row param params insts = results-listed (Void ∷ Int ∷ Function Void row ∷ []) insts refl

walk-closed : (params : List KernelParam) (insts : List KernelInst)
    → needing_all (function_tree params ∷ flat_map result_trees insts) [] ≡ listed_by (needed_by params insts) (row_of_params params)
walk-closed [] insts = bare-results insts
walk-closed (param ∷ params) insts = by_type param.value_type
  where
    by_type : (t : ValueType)
        → needing_all (flat_map result_trees insts) (listing (Function Void (Then (tree_of t) (row_of_params params))) (needing_row (row_of_params params) (needing (tree_of t) (Void ∷ []))))
        ≡ listed_by (needed_where (is_pointer t || list_any takes_pointer params) (param ∷ params) (list_any has_value insts)) (Then (tree_of t) (row_of_params params))
    by_type i32 =
        ap (λ listed. needing_all (flat_map result_trees insts) (listing (Function Void (Then Int (row_of_params params))) listed)) (row-int params)
        ∙ listed-results (list_any takes_pointer params) (Then Int (row_of_params params)) param params insts
    by_type i32_pointer =
        ap (λ listed. needing_all (flat_map result_trees insts) (listing (Function Void (Then (Pointer Int) (row_of_params params))) listed)) (row-pointer params)
        ∙ listed-results true (Then (Pointer Int) (row_of_params params)) param params insts

-- the types of a kernel's module
pub types-closed : (kernel : Kernel) → types_of kernel ≡ listed_by (needed_by kernel.params kernel.insts) (row_of_params kernel.params)
unfolding types_of
types-closed kernel = walk-closed kernel.params kernel.insts

-- their ids
pub ids-closed : (needed : TypesNeeded) (kernel : Kernel) → ids_over (listed_by needed (row_of_params kernel.params)) kernel ≡ ids_by needed
ids-closed Neither kernel = rw (row-same (row_of_params kernel.params)) refl
ids-closed ResultInt kernel = rw (row-same (row_of_params kernel.params)) refl
ids-closed ParamInt kernel = rw (row-same (row_of_params kernel.params)) refl
ids-closed ParamPointer kernel = rw (row-same (row_of_params kernel.params)) refl

pub kernel_ids-closed : (kernel : Kernel) → kernel_ids kernel ≡ ids_by (needed_by kernel.params kernel.insts)
kernel_ids-closed kernel =
    ap (λ listed. ids_over listed kernel) (types-closed kernel) ∙ ids-closed (needed_by kernel.params kernel.insts) kernel

-- the places of the parameters' types
pub places-closed : (needed : TypesNeeded) (row : TypeRow) (params : List KernelParam)
    → places_in (listed_by needed row) (row_of_params params) ≡ map (value_place (ids_by needed)) params
places-closed needed row [] = refl
places-closed needed row (param ∷ params) = by_type needed param.value_type (places-closed needed row params)
  where
    by_type : (n : TypesNeeded) (t : ValueType) → places_in (listed_by n row) (row_of_params params) ≡ map (value_place (ids_by n)) params
        → places_in (listed_by n row) (Then (tree_of t) (row_of_params params)) ≡ map (value_place (ids_by n)) (record { value_type = t; name = param.name } ∷ params)
    by_type Neither i32 behind = ap (λ ps. record { 0 = 2 } ∷ ps) behind
    by_type Neither i32_pointer behind = ap (λ ps. record { 0 = 2 } ∷ ps) behind
    by_type ResultInt i32 behind = ap (λ ps. record { 0 = 2 } ∷ ps) behind
    by_type ResultInt i32_pointer behind = ap (λ ps. record { 0 = 3 } ∷ ps) behind
    by_type ParamInt i32 behind = ap (λ ps. record { 0 = 1 } ∷ ps) behind
    by_type ParamInt i32_pointer behind = ap (λ ps. record { 0 = 3 } ∷ ps) behind
    by_type ParamPointer i32 behind = ap (λ ps. record { 0 = 1 } ∷ ps) behind
    by_type ParamPointer i32_pointer behind = ap (λ ps. record { 0 = 2 } ∷ ps) behind

-- which stand before the function's type
place-pointer : (param : KernelParam) (t : ValueType) → (value_place (ids_by ParamPointer) (record { value_type = t; name = param.name })).0 < 3
place-pointer param i32 = omega arith
place-pointer param i32_pointer = omega arith

places-pointer : (params : List KernelParam) → All (IsAmongFirst 3) (map (value_place (ids_by ParamPointer)) params)
places-pointer [] = All-nil (IsAmongFirst 3)
places-pointer (param ∷ params) =
    All-cons (IsAmongFirst 3) (value_place (ids_by ParamPointer) param) (map (value_place (ids_by ParamPointer)) params)
    (place-pointer param param.value_type) (places-pointer params)

places-int : (params : List KernelParam) → list_any takes_pointer params ≡ false → All (IsAmongFirst 2) (map (value_place (ids_by ParamInt)) params)
places-int [] none = All-nil (IsAmongFirst 2)
places-int (param ∷ params) none = by_type param.value_type none (places-int params)
  where
    by_type : (t : ValueType) → (is_pointer t || list_any takes_pointer params) ≡ false
        → (list_any takes_pointer params ≡ false → All (IsAmongFirst 2) (map (value_place (ids_by ParamInt)) params))
        → All (IsAmongFirst 2) (value_place (ids_by ParamInt) (record { value_type = t; name = param.name }) ∷ map (value_place (ids_by ParamInt)) params)
    by_type i32 none_left behind =
        All-cons (IsAmongFirst 2) (record { 0 = 1 }) (map (value_place (ids_by ParamInt)) params) (omega arith) (behind none_left)
    by_type i32_pointer none_left behind = cc

pub parts-first : (params : List KernelParam) (insts : List KernelInst)
    → HasPartsIn (length (front_of (needed_by params insts))) (function_entry (ids_by (needed_by params insts)) params)
parts-first [] insts = by_results (list_any has_value insts)
  where
    by_results : (b : Bool) → HasPartsIn (length (front_of (needed_without_pointer [] b))) (function_entry (ids_by (needed_without_pointer [] b)) [])
    by_results true = (omega arith, All-nil (IsAmongFirst 1))
    by_results false = (omega arith, All-nil (IsAmongFirst 1))
parts-first (param ∷ params) insts = by_pointer (list_any takes_pointer (param ∷ params)) refl
  where
    by_pointer : (b : Bool) → list_any takes_pointer (param ∷ params) ≡ b
        → HasPartsIn (length (front_of (needed_where b (param ∷ params) (list_any has_value insts)))) (function_entry (ids_by (needed_where b (param ∷ params) (list_any has_value insts))) (param ∷ params))
    by_pointer true is = (omega arith, places-pointer (param ∷ params))
    by_pointer false is = (omega arith, places-int (param ∷ params) is)

-- the types as they are added one after another
added-closed : (needed : TypesNeeded) (params : List KernelParam)
    → with_behind needed (with_type (numbered_types (front_of needed)) (function_entry (ids_by needed) params) (ids_by needed).function_type)
    ≡ named_types (listed_by needed (row_of_params params))
added-closed needed params = by_needed needed (sym (places-closed needed (row_of_params params) params))
  where
    by_needed : (n : TypesNeeded) → map (value_place (ids_by n)) params ≡ places_in (listed_by n (row_of_params params)) (row_of_params params)
        → with_behind n (with_type (numbered_types (front_of n)) (function_entry (ids_by n) params) (ids_by n).function_type)
        ≡ named_types (listed_by n (row_of_params params))
    by_needed Neither same = ap (λ places. with_behind Neither (with_type (numbered_types (front_of Neither)) (ty.Function (record { 0 = 0 }) places) 2)) same
    by_needed ResultInt same = ap (λ places. with_behind ResultInt (with_type (numbered_types (front_of ResultInt)) (ty.Function (record { 0 = 0 }) places) 2)) same
    by_needed ParamInt same = ap (λ places. with_behind ParamInt (with_type (numbered_types (front_of ParamInt)) (ty.Function (record { 0 = 0 }) places) 3)) same
    by_needed ParamPointer same = ap (λ places. with_behind ParamPointer (with_type (numbered_types (front_of ParamPointer)) (ty.Function (record { 0 = 0 }) places) 4)) same

abbrev with_named : NamedTypes → Ty → TypeName → NamedTypes
with_named types more name = record {
  table = record { pointer = types.table.pointer; types = types.table.types ++ more ∷ [] };
  names = types.names ++ name ∷ [];
}

pub named_types-added : (needed : TypesNeeded) (ids : Ids) (params : List KernelParam) (front after all : NamedTypes) (entry : Ty) (name : TypeName) → ids ≡ ids_by needed
    → front ≡ numbered_types (front_of needed) → entry ≡ function_entry ids params → after ≡ with_named front entry name → name ≡ type_name ids.function_type
    → all ≡ with_behind needed after → all ≡ named_types (listed_by needed (row_of_params params))
named_types-added needed ids params front after all entry name ids_are front_is entry_is after_is name_is all_is =
    all_is
    ∙ ap (with_behind needed) (after_is
    ∙ ap (with_named front entry) name_is
    ∙ ap (λ f. with_type f entry ids.function_type) front_is
    ∙ ap (λ e. with_type (numbered_types (front_of needed)) e ids.function_type) entry_is
    ∙ ap (λ i. with_type (numbered_types (front_of needed)) (function_entry i params) i.function_type) ids_are)
    ∙ added-closed needed params

-- what a kernel needs decides its module
pub ids-needed : (kernel : Kernel) (needed : TypesNeeded) (ids : Ids) → needed ≡ needed_by kernel.params kernel.insts → ids ≡ ids_by needed → ids ≡ kernel_ids kernel
ids-needed kernel needed ids needed_is ids_are = ids_are ∙ ap ids_by needed_is ∙ sym (kernel_ids-closed kernel)

pub partner-needed : (kernel : Kernel) (needed : TypesNeeded) (ids : Ids) → needed ≡ needed_by kernel.params kernel.insts → ids ≡ ids_by needed
    → module_over (listed_by needed (row_of_params kernel.params)) ids kernel ≡ partner kernel
partner-needed kernel needed ids needed_is ids_are =
    ap (λ n. module_over (listed_by n (row_of_params kernel.params)) ids kernel) needed_is
    ∙ ap (λ listed. module_over listed ids kernel) (sym (types-closed kernel))
    ∙ ap (λ i. module_over (types_of kernel) i kernel) (ids-needed kernel needed ids needed_is ids_are)

pub parts-needed : (kernel : Kernel) (needed : TypesNeeded) (ids : Ids) → needed ≡ needed_by kernel.params kernel.insts → ids ≡ ids_by needed
    → HasPartsIn (length (front_of needed)) (function_entry ids kernel.params)
parts-needed kernel needed ids needed_is ids_are =
    let same : ids ≡ ids_by (needed_by kernel.params kernel.insts) = ids_are ∙ ap ids_by needed_is in
    subst (λ (n : TypesNeeded). HasPartsIn (length (front_of n)) (function_entry ids kernel.params)) (sym needed_is)
    (subst (λ (i : Ids). HasPartsIn (length (front_of (needed_by kernel.params kernel.insts))) (function_entry i kernel.params)) (sym same) (parts-first kernel.params kernel.insts))

-- each type of a module stands behind its parts
some-same : {A : Type 0} (x y : A) → Some x ≡ Some y → x ≡ y
some-same x y e = cc

none-some : {A : Type 0} (x : A) → None ≡ Some x → ⊥
none-some x e = cc

held-parts : (place : ℕ) (held entry : Ty) → Some held ≡ Some entry → HasPartsIn place held → HasPartsIn place entry
held-parts place held entry same parts = subst (HasPartsIn place) (some-same held entry same) parts

listed-before : (needed : TypesNeeded) (params : List KernelParam) → HasPartsIn (length (front_of needed)) (function_entry (ids_by needed) params)
    → (place : ℕ) (entry : Ty) → slice_get (named_types (listed_by needed (row_of_params params))).table.types place ≡ Some entry → HasPartsIn place entry
listed-before needed params parts place entry held = by_needed needed parts.0 (subst (λ (places : List TyId). All (IsAmongFirst (length (front_of needed))) places) (sym (places-closed needed row params)) parts.1) place held
  where
    row : TypeRow
    row = row_of_params params

    by_needed : (n : TypesNeeded) → 0 < length (front_of n) → All (IsAmongFirst (length (front_of n))) (places_in (listed_by n row) row)
        → (p : ℕ) → slice_get (named_types (listed_by n row)).table.types p ≡ Some entry → HasPartsIn p entry
    by_needed Neither first behind zero is = held-parts 0 ty.Void entry is tt
    by_needed Neither first behind (suc zero) is = held-parts 1 (ty.Function (record { 0 = 0 }) (places_in (listed_by Neither row) row)) entry is (first, behind)
    by_needed Neither first behind (suc (suc p)) is = absurd (none-some entry is)
    by_needed ResultInt first behind zero is = held-parts 0 ty.Void entry is tt
    by_needed ResultInt first behind (suc zero) is = held-parts 1 (ty.Function (record { 0 = 0 }) (places_in (listed_by ResultInt row) row)) entry is (first, behind)
    by_needed ResultInt first behind (suc (suc zero)) is = held-parts 2 (ty.Int W32) entry is tt
    by_needed ResultInt first behind (suc (suc (suc p))) is = absurd (none-some entry is)
    by_needed ParamInt first behind zero is = held-parts 0 ty.Void entry is tt
    by_needed ParamInt first behind (suc zero) is = held-parts 1 (ty.Int W32) entry is tt
    by_needed ParamInt first behind (suc (suc zero)) is = held-parts 2 (ty.Function (record { 0 = 0 }) (places_in (listed_by ParamInt row) row)) entry is (first, behind)
    by_needed ParamInt first behind (suc (suc (suc p))) is = absurd (none-some entry is)
    by_needed ParamPointer first behind zero is = held-parts 0 ty.Void entry is tt
    by_needed ParamPointer first behind (suc zero) is = held-parts 1 (ty.Int W32) entry is tt
    by_needed ParamPointer first behind (suc (suc zero)) is = held-parts 2 (ty.Pointer Global (record { 0 = 1 })) entry is (omega arith)
    by_needed ParamPointer first behind (suc (suc (suc zero))) is = held-parts 3 (ty.Function (record { 0 = 0 }) (places_in (listed_by ParamPointer row) row)) entry is (first, behind)
    by_needed ParamPointer first behind (suc (suc (suc (suc p)))) is = absurd (none-some entry is)

pub types-before : (kernel : Kernel) (place : ℕ) (entry : Ty) → slice_get (named_types (types_of kernel)).table.types place ≡ Some entry → HasPartsIn place entry
types-before kernel place entry held =
    let needed = needed_by kernel.params kernel.insts in
    listed-before needed kernel.params (parts-first kernel.params kernel.insts) place entry
    (subst (λ (listed : List TypeTree). slice_get (named_types listed).table.types place ≡ Some entry) (types-closed kernel) held)
