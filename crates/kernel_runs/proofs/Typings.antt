-- The types that a binary's module gives to the ids of a kernel's values.
use Rattle.std.proofs.Common.{◌≡◌, ◌≢◌, ℕ, nat_eq, Bool, true, false, cond, List, [], ◌∷◌, ◌++◌, Some, map, sym, ◌∙◌, ap, ap₂, refl, eqb, All, Contains, option_map, arith}
use Rattle.std.specs.Prelude.{Option, flat_map, slice_get}
use Rattle.std.specs.Map.{lookup}
use Rattle.std.proofs.lemmas.List.Elements.{All-head, All-tail, Contains-append_right}
use Rattle.std.proofs.lemmas.List.{map-append}
use borrow.Author.Tests.{ne_eqb}
use Rattle.kern_types.specs.declared.ty.Ty.{Ty}
use Rattle.kern_types.specs.declared.ty.TyId.{TyId}
use Rattle.kern_types.specs.Layouts.{◌>>=◌}
use Rattle.spv_module.specs.declared.inst.SpvInst.{SpvInst}
use Rattle.spv_module.specs.declared.module.Param.{Param}
use Rattle.spv_module.specs.declared.module.SpvModule.{SpvModule}
use Rattle.kernel_tree.specs.declared.kernel.Kernel.{Kernel}
use Rattle.kernel_tree.specs.declared.kernel.KernelInst.{KernelInst}
use Rattle.kernel_tree.specs.declared.kernel.KernelInst.TheVariants as inst
use Rattle.kernel_tree.specs.declared.kernel.KernelParam.{KernelParam}
use Rattle.kernel_tree.specs.declared.kernel.ValueType.{ValueType}
use Rattle.kernel_tree.specs.declared.kernel.ValueType.TheVariants.{Int}
use Rattle.spv_play.specs.Types.{Typing, type_named, type_of_value, typing_at, typing_of, typed_params, typed_insts, typed_blocks, typed_constants, typed_variables}
use Rattle.kernel_runs.specs.Images.{IsImage, HasNumbers, inst_image, end_image, param_image, unplaced, type_image}
use Rattle.kernel_runs.specs.Names.{value_numbers, inst_numbers, param_number, param_typed, result_typed, typed_values}
use Rattle.kernel_runs.proofs.Plays.{same-eqb}
use Rattle.kernel_runs.proofs.Starts.{map-map}

abbrev result_ids : SpvInst → ℕ × ℕ
result_ids i = (i.result, i.ty)

-- ids of values, each with its type
abbrev Seen : Type 0
Seen = List (ℕ × Option Ty)

module _ (m : SpvModule) (f : ℕ → ℕ) (int : TyId) (int_id : ℕ) (states : KernelInst → Bool) (n : ℕ) (positive : f n ≢ 0) where
  abbrev seen : ℕ × ℕ → ℕ × Option Ty
  seen ids = (ids.0, type_named m ids.1)

  -- the first value of this name, and the type of the first value with its id
  abbrev Found : List (ℕ × ValueType) → ValueType → Type 0
  Found values t = lookup (nat_eq n) values ≡ Some t

  abbrev FoundType : Seen → ValueType → Type 0
  FoundType types t = lookup (nat_eq (f n)) types ≡ Some (Some (type_image int t))

  found-here : (name : ℕ) (kind t : ValueType) (values : List (ℕ × ValueType)) (type : Option Ty) (types : Seen) → type ≡ Some (type_image int kind)
      → eqb (f n) (f name) ≡ eqb n name → (Found values t → FoundType types t) → Found ((name, kind) ∷ values) t → FoundType ((f name, type) ∷ types) t
  found-here name kind t values type types known same later = by_test (eqb n name) same
    where
      by_test : (b : Bool) → eqb (f n) (f name) ≡ b → cond b (Some kind) (lookup (nat_eq n) values) ≡ Some t
          → cond (eqb (f n) (f name)) (Some type) (lookup (nat_eq (f n)) types) ≡ Some (Some (type_image int t))
      by_test true e found =
          ap (λ b. cond b (Some type) (lookup (nat_eq (f n)) types)) e ∙ (ap Some known ∙ ap (option_map (λ x. Some (type_image int x))) found)
      by_test false e found = ap (λ b. cond b (Some type) (lookup (nat_eq (f n)) types)) e ∙ later found

  -- no value has the id 0
  not-zero : eqb (f n) 0 ≡ false
  not-zero = ne_eqb (f n) 0 positive

  -- the types of the results, those of what follows behind them
  abbrev results_seen : List KernelInst → Seen → Seen
  results_seen is rest = (map seen (map result_ids (map (inst_image f int_id states) is ++ end_image ∷ [])) ++ []) ++ rest

  found-inst : (is : List KernelInst) (t : ValueType) (rest : Seen) → ((a : ℕ) → Contains (flat_map inst_numbers is) a → eqb (f n) (f a) ≡ eqb n a)
      → All (HasNumbers m int_id) (flat_map result_typed is) → Found (flat_map result_typed is) t → FoundType (results_seen is rest) t
  found-inst [] t rest apart numbers found = absurd cc
  found-inst (inst.Add sum left right ∷ is) t rest apart numbers found =
      let P = HasNumbers m int_id in
      found-here sum.number Int t (flat_map result_typed is) (type_named m int_id) (results_seen is rest)
      (All-head P (sum.number, Int) (flat_map result_typed is) numbers) (apart sum.number (0, omega arith, refl))
      (found-inst is t rest (λ a at. apart a (Contains-append_right (inst_numbers (inst.Add sum left right)) (flat_map inst_numbers is) a at))
      (All-tail P (sum.number, Int) (flat_map result_typed is) numbers)) found
  found-inst (inst.Load loaded pointer is_aligned ∷ is) t rest apart numbers found =
      let P = HasNumbers m int_id in
      found-here loaded.number Int t (flat_map result_typed is) (type_named m int_id) (results_seen is rest)
      (All-head P (loaded.number, Int) (flat_map result_typed is) numbers) (apart loaded.number (0, omega arith, refl))
      (found-inst is t rest (λ a at. apart a (Contains-append_right (inst_numbers (inst.Load loaded pointer is_aligned)) (flat_map inst_numbers is) a at))
      (All-tail P (loaded.number, Int) (flat_map result_typed is) numbers)) found
  found-inst (inst.Store value pointer is_aligned ∷ is) t rest apart numbers found =
      ap (λ b. cond b (Some (type_named m 0)) (lookup (nat_eq (f n)) (results_seen is rest))) not-zero
      ∙ found-inst is t rest (λ a at. apart a (Contains-append_right (inst_numbers (inst.Store value pointer is_aligned)) (flat_map inst_numbers is) a at)) numbers found

  found-value : (params : List KernelParam) (is : List KernelInst) (t : ValueType) (rest : Seen)
      → ((a : ℕ) → Contains (map param_number params ++ flat_map inst_numbers is) a → eqb (f n) (f a) ≡ eqb n a)
      → All (HasNumbers m int_id) (flat_map result_typed is) → Found (map param_typed params ++ flat_map result_typed is) t
      → FoundType (map (param_image f int) params ++ results_seen is rest) t
  found-value [] is t rest apart numbers found = found-inst is t rest apart numbers found
  found-value (param ∷ params) is t rest apart numbers found =
      found-here param.name.number param.value_type t (map param_typed params ++ flat_map result_typed is) (Some (type_image int param.value_type))
      (map (param_image f int) params ++ results_seen is rest) refl (apart param.name.number (0, omega arith, refl))
      (found-value params is t rest (λ a at. apart a (Contains-append_right (param.name.number ∷ []) (map param_number params ++ flat_map inst_numbers is) a at)) numbers) found

  -- the type of the value with an id, by the types of all
  seen-found : (typing : Typing) → (lookup (nat_eq (f n)) typing >>= λ type. type_named m type) ≡ (lookup (nat_eq (f n)) (map seen typing) >>= λ type. type)
  seen-found [] = refl
  seen-found (ids ∷ typing) = by_test (eqb (f n) ids.0) (seen-found typing)
    where
      by_test : (b : Bool) → (lookup (nat_eq (f n)) typing >>= λ type. type_named m type) ≡ (lookup (nat_eq (f n)) (map seen typing) >>= λ type. type)
          → (cond b (Some ids.1) (lookup (nat_eq (f n)) typing) >>= λ type. type_named m type)
          ≡ (cond b (Some (type_named m ids.1)) (lookup (nat_eq (f n)) (map seen typing)) >>= λ type. type)
      by_test true later = refl
      by_test false later = later

module _ (kernel : Kernel) (f : ℕ → ℕ) (m : SpvModule) (is : IsImage kernel f m) (n : ℕ) (at : Contains (value_numbers kernel) n) where
  abbrev seen_ids : ℕ × ℕ → ℕ × Option Ty
  seen_ids = seen m f is.int is.int_id is.states_alignment n (is.positive n at)

  -- the module's constants and variables
  others : Typing
  others = typed_constants m.constants ++ typed_variables m.variables

  typing : Typing
  typing = typed_params is.function ++ ((typed_insts is.block.insts ++ []) ++ others)

  typing-is : typing_at m 0 ≡ Some typing
  unfolding typing others
  typing-is =
      ap₂ (λ functions bodies. slice_get functions 0 >>= λ function. slice_get bodies 0 >>= λ body. Some (typing_of m function body)) is.functions is.bodies
      ∙ ap (λ blocks. Some (typed_params is.function ++ (typed_blocks blocks ++ (typed_constants m.constants ++ typed_variables m.variables)))) is.blocks

  insts-typed : typed_insts is.block.insts ≡ map result_ids (map (inst_image f is.int_id is.states_alignment) kernel.insts ++ end_image ∷ [])
  insts-typed = sym (map-map result_ids unplaced is.block.insts) ∙ ap (map result_ids) is.insts

  params-typed : map seen_ids (typed_params is.function) ≡ map (param_image f is.int) kernel.params
  params-typed = map-map seen_ids (λ (p : Param). (p.id, p.ty)) is.function.params ∙ is.params

  typing-seen : map seen_ids typing ≡ map (param_image f is.int) kernel.params ++ results_seen m f is.int is.int_id is.states_alignment n (is.positive n at) kernel.insts (map seen_ids others)
  unfolding typing
  typing-seen =
      map-append seen_ids (typed_params is.function) ((typed_insts is.block.insts ++ []) ++ others)
      ∙ ap₂ (λ xs ys. xs ++ ys) params-typed
      (map-append seen_ids (typed_insts is.block.insts ++ []) others
      ∙ ap (λ xs. xs ++ map seen_ids others) (map-append seen_ids (typed_insts is.block.insts) [] ∙ ap (λ xs. map seen_ids xs ++ []) insts-typed))

  -- a value has the type with which it is defined
  pub value-type : (t : ValueType) → lookup (nat_eq n) (typed_values kernel) ≡ Some t → type_of_value m 0 (f n) ≡ Some (type_image is.int t)
  value-type t found =
      ap (λ x. x >>= λ ids. lookup (nat_eq (f n)) ids >>= λ type. type_named m type) typing-is
      ∙ (seen-found m f is.int is.int_id is.states_alignment n (is.positive n at) typing
      ∙ ap (λ x. x >>= λ type. type)
      (ap (λ types. lookup (nat_eq (f n)) types) typing-seen
      ∙ found-value m f is.int is.int_id is.states_alignment n (is.positive n at) kernel.params kernel.insts t (map seen_ids others)
      (λ a at_a. same-eqb f (value_numbers kernel) is.injective n a at at_a) is.numbers found))
