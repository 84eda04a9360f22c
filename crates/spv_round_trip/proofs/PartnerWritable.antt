-- The module of a kernel is one whose instructions say all of it.
use Rattle.std.proofs.Common.{◌≡◌, ℕ, zero, suc, ◌+◌, ◌<◌, Bool, List, [], ◌∷◌, ◌++◌, All, map, length, take, slice_get, unwrap_or, Option, Some, None, refl, ap, subst, sym, ◌∙◌, inl, inr, eq-eqb, ne_eqb, arith}
use Rattle.std.specs.Prelude.{if◌then◌else◌}
use Rattle.std.specs.Option.{option_map}
use Rattle.std.proofs.lemmas.List.Elements.{All-nil, All-cons}
use Rattle.inst_walk.specs.declared.body.Block.{Block}
use Rattle.kern_types.specs.Parts.{HasPartsIn}
use Rattle.kern_types.specs.declared.ty.TyId.{TyId}
use Rattle.spv_codec.specs.declared.module.RawInst.{RawInst}
use Rattle.spv_module.specs.declared.inst.SpvInst.{SpvInst}
use Rattle.spv_module.specs.declared.module.SpvModule.{SpvModule}
use Rattle.spv_module.specs.declared.types.TypeName.{TypeName}
use Rattle.spv_module.specs.Spelled.{id_at}
use Rattle.spv_names.specs.Functions.{part_of}
use Rattle.spv_names.specs.Uses.{is_dropped}
use Rattle.spv_sections.specs.Standing.{standing_of}
use Rattle.spv_types.specs.Laws.{IsTold}
use Rattle.spv_types.specs.Numbers.{constant_number}
use Rattle.spv_types.specs.Packed.{is_packed}
use Rattle.spv_module.specs.Sections.{flattened}
use Rattle.spv_types.specs.Tables.{place_from, place_of}
use Rattle.spv_build.specs.Functions.{param_id}
use Rattle.spv_build.specs.Insts.{inst_of}
use Rattle.spv_build.specs.Laws.{IsInside, IsLast, IsBlock, IsUnplaced, IsWhole}
use Rattle.kernel_tree.specs.declared.kernel.Kernel.{Kernel}
use Rattle.kernel_tree.specs.declared.kernel.KernelInst.{KernelInst}
use Rattle.kernel_tree.specs.declared.kernel.KernelInst.TheVariants.{Add, Load, Store}
use Rattle.kernel_tree.specs.declared.kernel.KernelParam.{KernelParam}
use Rattle.to_spirv.specs.Partner.{partner, kernel_ids, type_name, inst_partner, end_of_block, param_partner, entry_partner, function_partner, body_partner, id_of}
use Rattle.to_spirv.specs.Partner.{param_id as partner_id}
use Rattle.to_spirv.specs.KernelTypes.{types_of}
use Rattle.to_spirv.specs.TypeTrees.{TypeTree, entry_of, Void, Int, Pointer, Function}
use Rattle.to_spirv.proofs.TypeLemmas.{types-before}
use Rattle.std.specs.List.{range_with_len}
use Rattle.spv_round_trip.specs.Laws.{PartnerIsWritable, PartnerIsBuiltAgain}
use Rattle.spv_round_trip.proofs.Whole.{modules-are-built}
use Rattle.spv_round_trip.specs.Writable.{IsText, IsKeptInst, HasKeptInsts, HasKeptBlocks, IsMode, HasModes, IsDecoration, IsOutside, IsNamed, HasTypes, HasFunctions, OfOther, is_wide_in}

some_same : {A : Type 0} (x y : A) → Some x ≡ Some y → x ≡ y
some_same x y e = cc

none_some : {A P : Type 0} (x : A) → None ≡ Some x → P
none_some x e = cc

-- an element of a mapped list
mapped : {A B : Type 0} (f : A → B) (xs : List A) (i : ℕ) (y : B) → slice_get (map f xs) i ≡ Some y → (x : A) × (f x ≡ y)
mapped f [] i y e = none_some y e
mapped f (x ∷ xs) zero y e = (x, some_same (f x) y e)
mapped f (x ∷ xs) (suc i) y e = mapped f xs i y e

-- ids that count on are found at their places
found-from : (from j k n : ℕ) → j < k → k < n + 1 → place_from from (take k (map type_name (range_with_len (from + 1) n))) (from + 1 + j) ≡ Some (let p : TyId = record { 0 = from + j } in p)
found-from from j zero n first second = absurd (omega (arith, first))
found-from from j (suc k) zero first second = absurd (omega (arith, second, first))
found-from from zero (suc k) (suc n) first second =
    ap (λ b. if b then Some (let p : TyId = record { 0 = from } in p) else place_from (from + 1) (take k (map type_name (range_with_len (from + 1 + 1) n))) (from + 1 + 0)) (eq-eqb (from + 1) (from + 1 + 0) (omega arith))
    ∙ ap (λ m. Some (let p : TyId = record { 0 = m } in p)) (omega arith)
found-from from (suc j) (suc k) (suc n) first second =
    ap (λ b. if b then Some (let p : TyId = record { 0 = from } in p) else place_from (from + 1) (take k (map type_name (range_with_len (from + 1 + 1) n))) (from + 1 + suc j))
    (ne_eqb (from + 1) (from + 1 + suc j) (λ e. omega (arith, e)))
    ∙ (ap (λ m. place_from (from + 1) (take k (map type_name (range_with_len (from + 1 + 1) n))) m) (omega arith)
    ∙ (found-from (from + 1) j k n (omega (arith, first)) (omega (arith, second))
    ∙ ap (λ m. Some (let p : TyId = record { 0 = m } in p)) (omega arith)))

id-from : (start n j : ℕ) → j < n → slice_get (map type_name (range_with_len start n)) j ≡ Some (type_name (start + j))
id-from start zero j lt = absurd (omega (arith, lt))
id-from start (suc n) zero lt = ap (λ m. Some (type_name m)) (omega arith)
id-from start (suc n) (suc j) lt = id-from (start + 1) n j (omega (arith, lt)) ∙ ap (λ m. Some (type_name m)) (omega arith)

abbrev names_to : ℕ → List TypeName
names_to n = map type_name (range_with_len 1 n)

found-part : (n place : ℕ) (part : TyId) → part.0 < place → place < n → place_of (take place (names_to n)) (id_at (names_to n) part) ≡ Some part
found-part n place part first second =
    ap (λ o. place_of (take place (names_to n)) (unwrap_or (option_map (λ name. name.id) o) 0)) (id-from 1 n part.0 (omega (arith, first, second)))
    ∙ (found-from 0 part.0 place n first (omega (arith, second)) ∙ ap (λ m. Some (let p : TyId = record { 0 = m } in p)) (omega arith))

get-within : {A : Type 0} (xs : List A) (i : ℕ) (x : A) → slice_get xs i ≡ Some x → i < length xs
get-within [] i x e = none_some x e
get-within (y ∷ ys) zero x e = omega arith
get-within (y ∷ ys) (suc i) x e = let h = get-within ys i x e in omega (arith, h)

length-listed : {A B : Type 0} (f : A → B) (xs : List A) → length (map f xs) ≡ length xs
length-listed f [] = refl
length-listed f (x ∷ xs) = ap suc (length-listed f xs)

length-range : (start n : ℕ) → length (map type_name (range_with_len start n)) ≡ n
length-range start zero = refl
length-range start (suc n) = ap suc (length-range (start + 1) n)

module _ (n : ℕ) (numbers : ℕ → Option ℕ) (packed : ℕ → Bool) where
  tree-told : (listed : List TypeTree) (place : ℕ) (name : TypeName) (tree : TypeTree) → place < n → HasPartsIn place (entry_of listed tree)
      → IsTold (names_to n) (place_of (take place (names_to n))) numbers packed name (entry_of listed tree)
  tree-told listed place name Void lt parts = tt
  tree-told listed place name Int lt parts = tt
  tree-told listed place name (Pointer to) lt parts = found-part n place _ parts lt
  tree-told listed place name (Function given row) lt parts =
      (found-part n place _ parts.0 lt, λ k d within. found-part n place _ (parts.1 k d within) lt)

tree-named : (listed : List TypeTree) (name : TypeName) (tree : TypeTree) → name.length ≡ None → IsNamed name (entry_of listed tree)
tree-named listed name Void e = e
tree-named listed name Int e = e
tree-named listed name (Pointer to) e = e
tree-named listed name (Function given row) e = e

module _ (w : RawInst → Bool) (kernel : Kernel) where
  inside : (inst : KernelInst) → IsInside w (inst_partner (kernel_ids kernel) inst)
  unfolding part_of standing_of inst_of
  inside (Add sum left right) = (refl, refl)
  inside (Load loaded pointer is_aligned) = (refl, refl)
  inside (Store value pointer is_aligned) = (refl, refl)

  last : IsLast w end_of_block
  unfolding part_of standing_of inst_of
  last = (refl, refl)

  all-inside : (insts : List KernelInst) → All (IsInside w) (map (inst_partner (kernel_ids kernel)) insts)
  all-inside [] = All-nil (IsInside w)
  all-inside (inst ∷ insts) = All-cons (IsInside w) (inst_partner (kernel_ids kernel) inst) (map (inst_partner (kernel_ids kernel)) insts) (inside inst) (all-inside insts)

kept-inst : (kernel : Kernel) (inst : KernelInst) → IsKeptInst (inst_partner (kernel_ids kernel) inst)
unfolding part_of standing_of is_dropped
kept-inst kernel (Add sum left right) = (inl refl, refl)
kept-inst kernel (Load loaded pointer is_aligned) = (inl refl, refl)
kept-inst kernel (Store value pointer is_aligned) = (inl refl, refl)

kept-last : IsKeptInst end_of_block
unfolding part_of standing_of is_dropped
kept-last = (inr refl, refl)

all-kept : (kernel : Kernel) (insts : List KernelInst) → All IsKeptInst (map (inst_partner (kernel_ids kernel)) insts ++ end_of_block ∷ [])
all-kept kernel [] = All-cons IsKeptInst end_of_block [] kept-last (All-nil IsKeptInst)
all-kept kernel (inst ∷ insts) =
    All-cons IsKeptInst (inst_partner (kernel_ids kernel) inst) (map (inst_partner (kernel_ids kernel)) insts ++ end_of_block ∷ []) (kept-inst kernel inst) (all-kept kernel insts)

params-unplaced : (kernel : Kernel) (params : List KernelParam) → All IsUnplaced (map (param_partner (kernel_ids kernel)) params)
params-unplaced kernel [] = All-nil IsUnplaced
params-unplaced kernel (param ∷ params) = All-cons IsUnplaced (param_partner (kernel_ids kernel) param) (map (param_partner (kernel_ids kernel)) params) refl (params-unplaced kernel params)

params-ids : (kernel : Kernel) (params : List KernelParam) → map (partner_id (kernel_ids kernel)) params ≡ map param_id (map (param_partner (kernel_ids kernel)) params)
params-ids kernel [] = refl
params-ids kernel (param ∷ params) = ap (λ rest. partner_id (kernel_ids kernel) param ∷ rest) (params-ids kernel params)

module _ (kernel : Kernel) where
  abbrev listed : List TypeTree
  listed = types_of kernel

  abbrev m : SpvModule
  m = partner kernel

  has-types : HasTypes m
  has-types = record {
    as_many = length-range 1 (length listed) ∙ sym (length-listed (entry_of listed) listed);
    named = λ place name type p q.
        let tree = mapped (entry_of listed) listed place type q in
        let origin = mapped type_name (range_with_len 1 (length listed)) place name p in
        subst (IsNamed name) tree.1 (tree-named listed name tree.0 (ap (λ n. n.length) (sym origin.1)));
    told = λ place name type p q.
        let tree = mapped (entry_of listed) listed place type q in
        let parts = types-before kernel place type q in
        let within = get-within (map (entry_of listed) listed) place type q in
        let lt : place < length listed = omega (arith, within, length-listed (entry_of listed) listed) in
        subst (IsTold (names_to (length listed)) (place_of (take place (names_to (length listed)))) (constant_number (flattened m).insts) (is_packed (flattened m).insts) name) tree.1
        (tree-told (length listed) (constant_number (flattened m).insts) (is_packed (flattened m).insts) listed place name tree.0 lt (subst (HasPartsIn place) (sym tree.1) parts));
  }

  abbrev block : Block SpvInst ℕ
  block = record { name = id_of (kernel_ids kernel) kernel.block; insts = map (inst_partner (kernel_ids kernel)) kernel.insts ++ end_of_block ∷ [] }

  has-functions : HasFunctions m
  has-functions =
      let w = is_wide_in m in
      record {
        as_many = refl;
        whole = All-cons (IsWhole w) (function_partner (kernel_ids kernel) kernel, body_partner (kernel_ids kernel) kernel) [] (record {
          placed = refl;
          params = params-unplaced kernel kernel.params;
          ids = params-ids kernel kernel.params;
          labels = refl;
          blocks = All-cons (IsBlock w) block [] (record {
            inner = map (inst_partner (kernel_ids kernel)) kernel.insts;
            last = end_of_block;
            ends = refl;
            inside = all-inside w kernel kernel.insts;
            terminated = last w kernel;
          }) (All-nil (IsBlock w));
        }) (All-nil (IsWhole w));
      }

pub partner-writable : PartnerIsWritable
partner-writable kernel plain = record {
  kept = record {
    modes = All-cons HasModes (entry_partner (kernel_ids kernel) kernel) [] (All-nil IsMode) (All-nil HasModes);
    source = tt;
    decorations = All-nil IsDecoration;
    bodies = All-cons HasKeptBlocks (body_partner (kernel_ids kernel) kernel) [] (All-cons HasKeptInsts (block kernel) [] (all-kept kernel kernel.insts) (All-nil HasKeptInsts)) (All-nil HasKeptBlocks);
  };
  texts = record {
    extensions = All-nil (λ extension. IsText extension.name);
    imports = All-nil (λ set. IsText set.name);
    entries = All-cons (λ entry. IsText entry.name) (entry_partner (kernel_ids kernel) kernel) [] (record { utf8 = plain.utf8; no_zero = plain.no_zero }) (All-nil (λ entry. IsText entry.name));
    strings = All-nil (λ string. IsText string.text);
  };
  entries = (All-nil (OfOther (kernel_ids kernel).function), tt);
  types = has-types kernel;
  pointers = refl;
  variables = All-nil IsOutside;
  functions = has-functions kernel;
}

pub partner-built : PartnerIsBuiltAgain
partner-built kernel plain = modules-are-built (partner kernel) (partner-writable kernel plain)
