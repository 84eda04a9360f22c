-- The types of a partner are those of the kernel's values, and their ids are found in its table.
use Rattle.std.proofs.Common.{◌≡◌, ℕ, ◌+◌, ◌==◌, Bool, true, false, cond, List, [], ◌∷◌, ◌++◌, Some, map, length, sym, ◌∙◌, ap, refl, arith}
use Rattle.std.specs.Prelude.{flat_map, ◌||◌, if◌then◌else◌}
use Rattle.std.specs.List.{list_any, range_with_len}
use Rattle.std.proofs.lemmas.List.Folds.{list_any-append}
use borrow.Author.Tests.{eq-eqb, ne_eqb}
use Rattle.kern_lanes.specs.declared.width.Width.TheVariants.{W32}
use Rattle.kern_types.specs.declared.ty.Ty.{Ty}
use Rattle.kern_types.specs.declared.ty.Ty.TheVariants as ty
use Rattle.kern_types.specs.declared.ty.TyId.{TyId}
use Rattle.kernel_tree.specs.declared.kernel.Kernel.{Kernel}
use Rattle.kernel_tree.specs.declared.kernel.KernelInst.{KernelInst}
use Rattle.kernel_tree.specs.declared.kernel.KernelInst.TheVariants as inst
use Rattle.kernel_tree.specs.declared.kernel.KernelParam.{KernelParam}
use Rattle.kernel_tree.specs.declared.kernel.ValueType.{ValueType}
use Rattle.kernel_tree.specs.declared.kernel.ValueType.TheVariants as value
use Rattle.spv_play.specs.Types.{type_among}
use Rattle.to_spirv.specs.KernelTypes.{types_of, tree_of, row_of_params, function_tree, result_trees}
use Rattle.to_spirv.specs.TypeTrees.{TypeTree, TypeRow, Void, Int, Pointer, Function, End, Then, is_same, listing, needing, needing_row, needing_all, place_of, place_in, entry_of}
use Rattle.to_spirv.specs.Partner.{type_name}
use Rattle.to_spirv.proofs.TypeLemmas.{tree-same}
use Rattle.kernel_runs.specs.Images.{type_image}

-- a type is one of those that are listed
abbrev pub Lists : List TypeTree → TypeTree → Type 0
Lists listed tree = list_any (is_same tree) listed ≡ true

or-true : (b : Bool) → (b || true) ≡ true
or-true true = refl
or-true false = refl

listing-has : (tree : TypeTree) (listed : List TypeTree) → Lists (listing tree listed) tree
listing-has tree listed = by_test (list_any (is_same tree) listed) refl
  where
    by_test : (b : Bool) → list_any (is_same tree) listed ≡ b → list_any (is_same tree) (if b then listed else listed ++ tree ∷ []) ≡ true
    by_test true e = e
    by_test false e =
        list_any-append (is_same tree) listed (tree ∷ []) ∙ (ap (λ b. list_any (is_same tree) listed || (b || false)) (tree-same tree) ∙ or-true (list_any (is_same tree) listed))

listing-keeps : (tree other : TypeTree) (listed : List TypeTree) → Lists listed other → Lists (listing tree listed) other
listing-keeps tree other listed has = by_test (list_any (is_same tree) listed)
  where
    by_test : (b : Bool) → list_any (is_same other) (if b then listed else listed ++ tree ∷ []) ≡ true
    by_test true = has
    by_test false = list_any-append (is_same other) listed (tree ∷ []) ∙ ap (λ b. b || (is_same other tree || false)) has

mutual
  needing-keeps : (tree other : TypeTree) (listed : List TypeTree) → Lists listed other → Lists (needing tree listed) other
  needing-keeps Void other listed has = listing-keeps Void other listed has
  needing-keeps Int other listed has = listing-keeps Int other listed has
  needing-keeps (Pointer pointee) other listed has = listing-keeps (Pointer pointee) other (needing pointee listed) (needing-keeps pointee other listed has)
  needing-keeps (Function given row) other listed has =
      listing-keeps (Function given row) other (needing_row row (needing given listed)) (row-keeps row other (needing given listed) (needing-keeps given other listed has))

  row-keeps : (row : TypeRow) (other : TypeTree) (listed : List TypeTree) → Lists listed other → Lists (needing_row row listed) other
  row-keeps End other listed has = has
  row-keeps (Then tree row) other listed has = row-keeps row other (needing tree listed) (needing-keeps tree other listed has)

all-keeps : (trees : List TypeTree) (other : TypeTree) (listed : List TypeTree) → Lists listed other → Lists (needing_all trees listed) other
all-keeps [] other listed has = has
all-keeps (tree ∷ trees) other listed has = all-keeps trees other (needing tree listed) (needing-keeps tree other listed has)

-- a list of types that has the type of a value and that of numbers
pub record ListsValue (listed : List TypeTree) (t : ValueType) : Type 0 where
  pub tree : Lists listed (tree_of t)
  pub int : Lists listed Int

value-needed : (t : ValueType) (listed : List TypeTree) → ListsValue (needing (tree_of t) listed) t
value-needed value.Int listed = record { tree = listing-has Int listed; int = listing-has Int listed }
value-needed value.Pointer listed =
    record { tree = listing-has (Pointer Int) (needing Int listed); int = listing-keeps (Pointer Int) Int (needing Int listed) (listing-has Int listed) }

-- each of the parameters
abbrev pub ListsParams : List TypeTree → List KernelParam → Type 0
ListsParams listed [] = Unit {0}
ListsParams listed (param ∷ params) = ListsValue listed param.value_type × ListsParams listed params

params-kept : (params : List KernelParam) (listed more : List TypeTree) → ((other : TypeTree) → Lists listed other → Lists more other) → ListsParams listed params → ListsParams more params
params-kept [] listed more keeps has = tt
params-kept (param ∷ params) listed more keeps has =
    (record { tree = keeps (tree_of param.value_type) has.0.tree; int = keeps Int has.0.int }, params-kept params listed more keeps has.1)

row-needed : (params : List KernelParam) (listed : List TypeTree) → ListsParams (needing_row (row_of_params params) listed) params
row-needed [] listed = tt
row-needed (param ∷ params) listed =
    let first = value-needed param.value_type listed in
    let next = needing (tree_of param.value_type) listed in
    (record { tree = row-keeps (row_of_params params) (tree_of param.value_type) next first.tree; int = row-keeps (row_of_params params) Int next first.int }, row-needed params next)

pub params-listed : (kernel : Kernel) → ListsParams (types_of kernel) kernel.params
unfolding types_of
params-listed kernel =
    let row = needing_row (row_of_params kernel.params) (needing Void []) in
    let whole = needing (function_tree kernel.params) [] in
    params-kept kernel.params row (needing_all (flat_map result_trees kernel.insts) whole)
    (λ other has. all-keeps (flat_map result_trees kernel.insts) other whole (listing-keeps (function_tree kernel.params) other row has)) (row-needed kernel.params (needing Void []))

-- the type of numbers, where an instruction has a result
abbrev pub ListsResults : List TypeTree → List KernelInst → Type 0
ListsResults listed [] = Unit {0}
ListsResults listed (inst.Add sum left right ∷ insts) = Lists listed Int × ListsResults listed insts
ListsResults listed (inst.Load loaded pointer is_aligned ∷ insts) = Lists listed Int × ListsResults listed insts
ListsResults listed (inst.Store value pointer is_aligned ∷ insts) = ListsResults listed insts

results-needed : (insts : List KernelInst) (listed : List TypeTree) → ListsResults (needing_all (flat_map result_trees insts) listed) insts
results-needed [] listed = tt
results-needed (inst.Add sum left right ∷ insts) listed =
    (all-keeps (flat_map result_trees insts) Int (needing Int listed) (listing-has Int listed), results-needed insts (needing Int listed))
results-needed (inst.Load loaded pointer is_aligned ∷ insts) listed =
    (all-keeps (flat_map result_trees insts) Int (needing Int listed) (listing-has Int listed), results-needed insts (needing Int listed))
results-needed (inst.Store value pointer is_aligned ∷ insts) listed = results-needed insts listed

pub results-listed : (kernel : Kernel) → ListsResults (types_of kernel) kernel.insts
unfolding types_of
results-listed kernel = results-needed kernel.insts (needing (function_tree kernel.params) [])

-- the type of a value, as a table has it
module _ (whole : List TypeTree) where
  is-int : (other : TypeTree) → is_same Int other ≡ true → entry_of whole other ≡ ty.Int W32
  is-int Void same = absurd cc
  is-int Int same = refl
  is-int (Pointer pointee) same = absurd cc
  is-int (Function given row) same = absurd cc

  int-place : (other : TypeTree) → is_same Int other ≡ true → place_in whole other ≡ place_in whole Int
  int-place Void same = absurd cc
  int-place Int same = refl
  int-place (Pointer pointee) same = absurd cc
  int-place (Function given row) same = absurd cc

  value-entry : (t : ValueType) (other : TypeTree) → is_same (tree_of t) other ≡ true → entry_of whole other ≡ type_image (place_in whole Int) t
  value-entry value.Int other same = is-int other same
  value-entry value.Pointer Void same = absurd cc
  value-entry value.Pointer Int same = absurd cc
  value-entry value.Pointer (Pointer pointee) same = ap (type_image_of) (int-place pointee same)
    where
      type_image_of : TyId → Ty
      type_image_of to = type_image to value.Pointer
  value-entry value.Pointer (Function given row) same = absurd cc

  -- ids that count from a number
  found-from : (t : ValueType) (listed : List TypeTree) (from : ℕ) → Lists listed (tree_of t)
      → type_among (map type_name (range_with_len from (length listed))) (map (entry_of whole) listed) (place_of (tree_of t) listed + from) ≡ Some (type_image (place_in whole Int) t)
  found-from t [] from has = absurd cc
  found-from t (other ∷ listed) from has = by_test (is_same (tree_of t) other) refl has (found-from t listed (from + 1))
    where
      by_test : (b : Bool) → is_same (tree_of t) other ≡ b → (b || list_any (is_same (tree_of t)) listed) ≡ true
          → (Lists listed (tree_of t) → type_among (map type_name (range_with_len (from + 1) (length listed))) (map (entry_of whole) listed) (place_of (tree_of t) listed + (from + 1)) ≡ Some (type_image (place_in whole Int) t))
          → cond (from == ((if b then 0 else place_of (tree_of t) listed + 1) + from)) (Some (entry_of whole other))
          (type_among (map type_name (range_with_len (from + 1) (length listed))) (map (entry_of whole) listed) ((if b then 0 else place_of (tree_of t) listed + 1) + from))
          ≡ Some (type_image (place_in whole Int) t)
      by_test true e has later =
          let here : from ≡ 0 + from = omega arith in
          ap (λ b. cond b (Some (entry_of whole other)) (type_among (map type_name (range_with_len (from + 1) (length listed))) (map (entry_of whole) listed) (0 + from))) (eq-eqb from (0 + from) here)
          ∙ ap Some (value-entry t other e)
      by_test false e has later =
          let n = place_of (tree_of t) listed in
          let there : n + (from + 1) ≡ n + 1 + from = omega arith in
          ap (λ b. cond b (Some (entry_of whole other)) (type_among (map type_name (range_with_len (from + 1) (length listed))) (map (entry_of whole) listed) (n + 1 + from)))
          (ne_eqb from (n + 1 + from) (λ h. omega (arith, h)))
          ∙ (ap (type_among (map type_name (range_with_len (from + 1) (length listed))) (map (entry_of whole) listed)) (sym there) ∙ later has)

  pub found : (t : ValueType) → Lists whole (tree_of t)
      → type_among (map type_name (range_with_len 1 (length whole))) (map (entry_of whole) whole) (place_of (tree_of t) whole + 1) ≡ Some (type_image (place_in whole Int) t)
  found t has = found-from t whole 1 has
