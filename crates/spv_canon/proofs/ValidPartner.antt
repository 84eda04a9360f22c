-- The module of a kernel of the covered subset is valid.
use Rattle.std.proofs.Common.{◌≡◌, ℕ, zero, suc, ◌+◌, ◌<◌, Bool, true, false, List, [], ◌∷◌, ◌++◌, map, length, refl, sym, ◌∙◌, ap, subst, arith, All, Option, Some, None, length-append, inl, inr}
use Rattle.std.specs.Prelude.{◌&&◌, flat_map, slice_get, nat_eq, nat_le, nat_lt, ◌≤◌, Contains}
use Rattle.std.specs.List.{list_all, range_with_len}
use Rattle.std.specs.Option.{option_map}
use Rattle.std.proofs.lemmas.Bool.{false≢true}
use Rattle.std.proofs.lemmas.Bool.Decides.{nat_tests}
use Rattle.std.proofs.lemmas.List.{append_assoc, length-map}
use Rattle.std.proofs.lemmas.List.Elements.{All-nil, All-cons, All-head, All-tail, All-weaker, Contains-append_left, Contains-append_right}
use Rattle.std.proofs.lemmas.Option.{slice_get-map}
use Rattle.kern_lanes.specs.declared.width.Width.TheVariants.{W32}
use Rattle.kern_types.specs.declared.class.Class.TheVariants.{Global}
use Rattle.inst_walk.specs.Places.{place_of}
use Rattle.kernel_tree.specs.declared.kernel.Kernel.{Kernel}
use Rattle.kernel_tree.specs.declared.kernel.KernelInst.{KernelInst}
use Rattle.kernel_tree.specs.declared.kernel.KernelInst.TheVariants.{Add, Load, Store}
use Rattle.kernel_tree.specs.declared.kernel.KernelParam.{KernelParam}
use Rattle.kernel_tree.specs.declared.kernel.ValueType.{ValueType}
use Rattle.kernel_tree.specs.declared.kernel.ValueType.TheVariants.{Int as i32, Pointer as i32_pointer}
use Rattle.kernel_tree.specs.declared.names.Definition.{Definition}
use Rattle.kernel_tree.specs.declared.names.Use.{Use}
use Rattle.kernel_tree.specs.Covered.{are_distinct, has_type, in_sequence, is_covered, is_found, is_type, same_type, use_fits, uses_fit}
use Rattle.kernel_tree.specs.Names.{block_definition, defined_above, defined_by, definitions, int_use, param_definition, pointer_use, result_definition, used_by}
use Rattle.kernel_tree.specs.Numbered.{IsNumbered, definition_count, number_defined}
use Rattle.kernel_tree.specs.Canonical.{numbers_defined}
use Rattle.spv_module.specs.declared.inst.SpvInst.{SpvInst}
use Rattle.spv_module.specs.NamedTypes.{NamedTypes}
use Rattle.to_spirv.specs.ClosedTypes.{has_value, needed_by}
use Rattle.to_spirv.specs.KernelTypes.{types_of}
use Rattle.to_spirv.specs.Laws.{IsAligned}
use Rattle.to_spirv.specs.Partner.{bound_of, end_of_block, entry_partner, id_of, ids_over, kernel_ids, inst_partner, param_partner, partner, value_type_id}
use Rattle.to_spirv.specs.TypeTrees.{TypeTree}
use Rattle.to_spirv.proofs.PairLemmas.{HasParamType, HasValueType, TypeFacts, pairs, params-listed, type-facts, values-listed}
use Rattle.spv_canon.specs.Valid.{AreFit, Fits, IsBelow, IsEntry, IsValid, PointsTo, Typed, param_value, value_at, values_of}
use Rattle.spv_canon.specs.Canonical.{ids_in_functions}
use Rattle.spv_canon.specs.Trees.{type_ids}
use Rattle.spv_canon.proofs.ListFacts.{some-is, stands}
use Rattle.spv_canon.proofs.SoundPartner.{ids-range, partner-sound}

none-is : {A : Type 0} (x : A) → None ≡ Some x → ⊥
none-is x e = cc

both-true : (a b : Bool) → (a && b) ≡ true → (a ≡ true) × (b ≡ true)
both-true true b e = (refl, e)
both-true false b e = absurd (false≢true e)

below : (n m : ℕ) → nat_lt n m ≡ true → n < m
below n m e = grind (arith, nat_tests)

same-is : (t u : ValueType) → same_type t u ≡ true → u ≡ t
same-is i32 i32 e = refl
same-is i32_pointer i32_pointer e = refl
same-is i32 i32_pointer e = absurd (false≢true e)
same-is i32_pointer i32 e = absurd (false≢true e)

get-front-part : {A : Type 0} (xs ys : List A) (i : ℕ) → i < length xs → slice_get (xs ++ ys) i ≡ slice_get xs i
get-front-part [] ys i within = absurd (omega arith)
get-front-part (x ∷ xs) ys zero within = refl
get-front-part (x ∷ xs) ys (suc i) within = get-front-part xs ys i (omega arith)

contains-one : {A : Type 0} (x : A) → Contains (x ∷ []) x
contains-one x = (0, omega arith, refl)

-- what a definition with a type is
record Defines (t : ValueType) (number : ℕ) (d : Definition) : Type 0 where
  type : d.value_type ≡ Some t
  is : d.name.number ≡ number

module _ (listed : List TypeTree) (kernel : Kernel) (types : NamedTypes) where
  abbrev Known : ValueType → Type 0
  Known t = TypeFacts types (ids_over listed kernel).int (ids_over listed kernel).pointer t

  abbrev KnownWhere : Option ValueType → Type 0
  KnownWhere None = Unit {0}
  KnownWhere (Some t) = Known t

  abbrev IsKnown : Definition → Type 0
  IsKnown d = KnownWhere d.value_type

  abbrev typed_where : ℕ → Option ValueType → List Typed
  typed_where number None = []
  typed_where number (Some t) = value_at (value_type_id (ids_over listed kernel) t) ((ids_over listed kernel).function + number) ∷ []

  -- the values that definitions are
  abbrev typed_of : Definition → List Typed
  typed_of d = typed_where d.name.number d.value_type

  abbrev values_above : List Definition → List Typed
  values_above done = flat_map typed_of done

  record IsThere (done : List Definition) (t : ValueType) (number : ℕ) : Type 0 where
    value : Contains (values_above done) (value_at (value_type_id (ids_over listed kernel) t) ((ids_over listed kernel).function + number))
    known : Known t

  there : (done : List Definition) (place : ℕ) (d : Definition) (t : ValueType) (number : ℕ) → slice_get done place ≡ Some d → Defines t number d → All IsKnown done → IsThere done t number
  there [] place d t number at defines known = absurd (none-is d at)
  there (first ∷ done) zero d t number at defines known =
      let same : first ≡ d = some-is first d at in
      let type : first.value_type ≡ Some t = ap (λ x. x.value_type) same ∙ defines.type in
      let is : first.name.number ≡ number = ap (λ x. x.name.number) same ∙ defines.is in
      let value = value_at (value_type_id (ids_over listed kernel) t) ((ids_over listed kernel).function + number) in
      let values : typed_of first ≡ value ∷ [] = ap (typed_where first.name.number) type ∙ ap (λ n. typed_where n (Some t)) is in
      record {
        value = Contains-append_left (typed_of first) (values_above done) value (subst (λ (vs : List Typed). Contains vs value) (sym values) (contains-one value));
        known = subst KnownWhere type (All-head IsKnown first done known);
      }
  there (first ∷ done) (suc place) d t number at defines known =
      let later = there done place d t number at defines (All-tail IsKnown first done known) in
      let value = value_at (value_type_id (ids_over listed kernel) t) ((ids_over listed kernel).function + number) in
      record { value = Contains-append_right (typed_of first) (values_above done) value later.value; known = later.known }

  -- a use whose definition stands above
  used-there : (done more : List Definition) (used : Use) → use_fits (done ++ more) (length done) used ≡ true → All IsKnown done → IsThere done used.value_type used.name.number
  used-there done more used fits known = by_place (place_of nat_eq (map number_defined (done ++ more)) used.name.number) refl fits
    where
      by_definition : (place : ℕ) (o : Option Definition) → place_of nat_eq (map number_defined (done ++ more)) used.name.number ≡ Some place → place < length done
          → slice_get (done ++ more) place ≡ o → has_type used.value_type o ≡ true → IsThere done used.value_type used.name.number
      by_definition place None found within at typed = absurd (false≢true typed)
      by_definition place (Some d) found within at typed =
          let named : slice_get (map number_defined (done ++ more)) place ≡ Some used.name.number = stands (map number_defined (done ++ more)) used.name.number place found in
          let number : d.name.number ≡ used.name.number =
          some-is d.name.number used.name.number (sym (slice_get-map number_defined (done ++ more) place ∙ ap (λ (o : Option Definition). option_map number_defined o) at) ∙ named) in
          let here : slice_get done place ≡ Some d = sym (get-front-part done more place within) ∙ at in
          by_type d.value_type refl typed number here
        where
          by_type : (o : Option ValueType) → d.value_type ≡ o → is_type used.value_type d.value_type ≡ true → d.name.number ≡ used.name.number → slice_get done place ≡ Some d
              → IsThere done used.value_type used.name.number
          by_type None none is number here = absurd (false≢true (sym (ap (is_type used.value_type) none) ∙ is))
          by_type (Some t) some is number here =
              let same : t ≡ used.value_type = same-is used.value_type t (sym (ap (is_type used.value_type) some) ∙ is) in
              there done place d used.value_type used.name.number here (record { type = some ∙ ap Some same; is = number }) known

      by_place : (o : Option ℕ) → place_of nat_eq (map number_defined (done ++ more)) used.name.number ≡ o
          → is_found (done ++ more) (length done) used.value_type (place_of nat_eq (map number_defined (done ++ more)) used.name.number) ≡ true
          → IsThere done used.value_type used.name.number
      by_place None none is = absurd (false≢true (sym (ap (is_found (done ++ more) (length done) used.value_type) none) ∙ is))
      by_place (Some place) some is =
          let both = both-true (nat_lt place (length done)) (has_type used.value_type (slice_get (done ++ more) place)) (sym (ap (is_found (done ++ more) (length done) used.value_type) some) ∙ is) in
          by_definition place (slice_get (done ++ more) place) some (below place (length done) both.0) refl both.1

  two-uses : (defined : List Definition) (above : ℕ) (first second : Use) → (use_fits defined above first && (use_fits defined above second && true)) ≡ true
      → (use_fits defined above first ≡ true) × (use_fits defined above second ≡ true)
  two-uses defined above first second e =
      let both = both-true (use_fits defined above first) (use_fits defined above second && true) e in
      (both.0, (both-true (use_fits defined above second) true both.1).0)

  points : Known i32_pointer → PointsTo types (ids_over listed kernel).pointer (ids_over listed kernel).int
  points known = record { class = Global; to = record { 0 = 1 }; held = known.1; points = known.2 }

  inst-fits : (done more : List Definition) (inst : KernelInst) → list_all (use_fits (done ++ more) (length done)) (used_by inst) ≡ true → All IsKnown done
      → (has_value inst ≡ true → Known i32) → Fits types (values_above done) (inst_partner (ids_over listed kernel) inst)
  inst-fits done more (Add sum left right) fits known int =
      let uses = two-uses (done ++ more) (length done) (int_use left) (int_use right) fits in
      inl (record {
        opcode = refl;
        left = id_of (ids_over listed kernel) left;
        right = id_of (ids_over listed kernel) right;
        operands = refl;
        integer = record { width = W32; held = int refl };
        left_is = (used-there done more (int_use left) uses.0 known).value;
        right_is = (used-there done more (int_use right) uses.1 known).value;
      })
  inst-fits done more (Load loaded pointer is_aligned) fits known int =
      let used = (both-true (use_fits (done ++ more) (length done) (pointer_use pointer)) true fits).0 in
      let is = used-there done more (pointer_use pointer) used known in
      inr (inl (record {
        opcode = refl;
        pointer = id_of (ids_over listed kernel) pointer;
        pointer_type = (ids_over listed kernel).pointer;
        operands = refl;
        pointer_is = is.value;
        points = points is.known;
      }))
  inst-fits done more (Store value pointer is_aligned) fits known int =
      let uses = two-uses (done ++ more) (length done) (int_use value) (pointer_use pointer) fits in
      let is = used-there done more (pointer_use pointer) uses.1 known in
      inr (inr (record {
        opcode = refl;
        pointer = id_of (ids_over listed kernel) pointer;
        pointer_type = (ids_over listed kernel).pointer;
        object = id_of (ids_over listed kernel) value;
        object_type = (ids_over listed kernel).int;
        operands = refl;
        pointer_is = is.value;
        object_is = (used-there done more (int_use value) uses.0 known).value;
        points = points is.known;
      }))

  values-are : (inst : KernelInst) → flat_map typed_of (defined_by inst) ≡ values_of (inst_partner (ids_over listed kernel) inst)
  values-are (Add sum left right) = refl
  values-are (Load loaded pointer is_aligned) = refl
  values-are (Store value pointer is_aligned) = refl

  known-defined : (inst : KernelInst) → (has_value inst ≡ true → Known i32) → All IsKnown (defined_by inst)
  known-defined (Add sum left right) int = one (int refl)
    where
      one : Known i32 → All IsKnown (defined_by (Add sum left right))
      one known = All-cons IsKnown (result_definition sum) [] known (All-nil IsKnown)
  known-defined (Load loaded pointer is_aligned) int = All-cons IsKnown (result_definition loaded) [] (int refl) (All-nil IsKnown)
  known-defined (Store value pointer is_aligned) int = All-nil IsKnown

  all-both : (xs ys : List Definition) → All IsKnown xs → All IsKnown ys → All IsKnown (xs ++ ys)
  all-both [] ys first second = second
  all-both (x ∷ xs) ys first second = All-cons IsKnown x (xs ++ ys) (All-head IsKnown x xs first) (all-both xs ys (All-tail IsKnown x xs first) second)

  flat-both : (xs ys : List Definition) → values_above (xs ++ ys) ≡ values_above xs ++ values_above ys
  flat-both [] ys = refl
  flat-both (x ∷ xs) ys = ap (λ vs. typed_of x ++ vs) (flat-both xs ys) ∙ sym (append_assoc (typed_of x) (values_above xs) (values_above ys))

  abbrev IntWhere : KernelInst → Type 0
  IntWhere inst = has_value inst ≡ true → Known i32

  -- a block goes on with an instruction behind one that fits
  goes-on : (above : List Typed) (inst : SpvInst) (insts : List SpvInst) (last : SpvInst) → Fits types above inst → AreFit types (above ++ values_of inst) (insts ++ last ∷ [])
      → AreFit types above (inst ∷ insts ++ last ∷ [])
  goes-on above inst [] last fits rest = (fits, rest)
  goes-on above inst (next ∷ insts) last fits rest = (fits, rest)

  pub insts-fit : (done : List Definition) (insts : List KernelInst) → uses_fit (done ++ flat_map defined_by insts) (length done) insts ≡ true → All IsKnown done → All IntWhere insts
      → AreFit types (values_above done) (map (inst_partner (ids_over listed kernel)) insts ++ end_of_block ∷ [])
  insts-fit done [] fits known ints = refl
  insts-fit done (inst ∷ insts) fits known ints =
      let more = flat_map defined_by insts in
      let here = defined_by inst in
      let both = both-true (list_all (use_fits (done ++ (here ++ more)) (length done)) (used_by inst)) (uses_fit (done ++ (here ++ more)) (length done + length here) insts) fits in
      let int = All-head IntWhere inst insts ints in
      let joined : done ++ (here ++ more) ≡ (done ++ here) ++ more = sym (append_assoc done here more) in
      let count : length done + length here ≡ length (done ++ here) = sym (length-append done here) in
      let rest : uses_fit ((done ++ here) ++ more) (length (done ++ here)) insts ≡ true =
      sym (ap (λ ds. uses_fit ds (length done + length here) insts) joined ∙ ap (λ n. uses_fit ((done ++ here) ++ more) n insts) count) ∙ both.1 in
      let behind = insts-fit (done ++ here) insts rest (all-both done here known (known-defined inst int)) (All-tail IntWhere inst insts ints) in
      let above : values_above (done ++ here) ≡ values_above done ++ values_of (inst_partner (ids_over listed kernel) inst) = flat-both done here ∙ ap (λ vs. values_above done ++ vs) (values-are inst) in
      goes-on (values_above done) (inst_partner (ids_over listed kernel) inst) (map (inst_partner (ids_over listed kernel)) insts) end_of_block
      (inst-fits done (here ++ more) inst both.0 known int)
      (subst (λ (vs : List Typed). AreFit types vs (map (inst_partner (ids_over listed kernel)) insts ++ end_of_block ∷ [])) above behind)

  -- the parameters are the first values
  pub params-values : (params : List KernelParam) (block : Definition) → block.value_type ≡ None
      → values_above (map param_definition params ++ block ∷ []) ≡ map param_value (map (param_partner (ids_over listed kernel)) params)
  params-values [] block none = ap (λ (o : Option ValueType). typed_where block.name.number o ++ []) none
  params-values (param ∷ params) block none =
      ap (λ vs. param_value (param_partner (ids_over listed kernel) param) ∷ vs) (params-values params block none)

-- ids that count from 1 are below the bound behind the last
range-below : (start count bound : ℕ) → 0 < start → start + count ≤ bound → All (IsBelow bound) (range_with_len start count)
range-below start zero bound first within = All-nil (IsBelow bound)
range-below start (suc count) bound first within =
    All-cons (IsBelow bound) start (range_with_len (start + 1) count) (first, omega arith) (range-below (start + 1) count bound (omega arith) (omega arith))

params-known : (kernel : Kernel) (params : List KernelParam) → All (HasParamType (needed_by kernel.params kernel.insts)) params
    → All (IsKnown (types_of kernel) kernel (partner kernel).types) (map param_definition params)
params-known kernel [] listed = All-nil (IsKnown (types_of kernel) kernel (partner kernel).types)
params-known kernel (param ∷ params) listed =
    let needed = needed_by kernel.params kernel.insts in
    All-cons (IsKnown (types_of kernel) kernel (partner kernel).types) (param_definition param) (map param_definition params)
    (type-facts kernel param.value_type (All-head (HasParamType needed) param params listed))
    (params-known kernel params (All-tail (HasParamType needed) param params listed))

pub partner-valid : (kernel : Kernel) → IsNumbered kernel → kernel.name.number ≡ 0 → All IsAligned kernel.insts → is_covered kernel ≡ true → IsValid (partner kernel)
partner-valid kernel numbered own aligned covered =
    let listed = types_of kernel in
    let types = (partner kernel).types in
    let count = length listed in
    let paired = (pairs kernel own aligned).functions.0 in
    let block = block_definition kernel.block in
    let above = map param_definition kernel.params in
    let known_above : All (IsKnown listed kernel types) (defined_above kernel) =
    all-both listed kernel types above (block ∷ []) (params-known kernel kernel.params (params-listed kernel.params kernel.insts))
    (All-cons (IsKnown listed kernel types) block [] tt (All-nil (IsKnown listed kernel types))) in
    let ints : All (IntWhere listed kernel types) kernel.insts =
    All-weaker (HasValueType (needed_by kernel.params kernel.insts)) (IntWhere listed kernel types)
    (λ inst needed has. type-facts kernel i32 (needed has)) kernel.insts (values-listed kernel.params kernel.insts) in
    let size : length kernel.params + 1 ≡ length (defined_above kernel) = sym (length-append above (block ∷ []) ∙ ap (λ n. n + 1) (length-map kernel.params param_definition)) in
    let parts = both-true (nat_le (length kernel.params) 255) _ covered in
    let distinct = both-true (are_distinct (numbers_defined kernel)) _ parts.1 in
    let sequence = both-true (in_sequence kernel.names 0 (numbers_defined kernel)) _ distinct.1 in
    let fits : uses_fit (definitions kernel) (length (defined_above kernel)) kernel.insts ≡ true = sym (ap (λ n. uses_fit (definitions kernel) n kernel.insts) size) ∙ sequence.1 in
    let insts = insts-fit listed kernel types (defined_above kernel) kernel.insts fits known_above ints in
    let values = params-values listed kernel types kernel.params block refl in
    let from : 1 + count ≡ count + 1 = omega arith in
    let ids : type_ids types ++ ids_in_functions (partner kernel) ≡ range_with_len 1 (count + (definition_count kernel + 1)) = ids-range kernel numbered in
    record {
      sound = partner-sound kernel numbered;
      bound = subst (All (IsBelow (bound_of kernel))) (sym ids) (range-below 1 (count + (definition_count kernel + 1)) (bound_of kernel) (omega arith) (omega arith));
      functions = (
        record {
          given = paired.signature.given;
          params = paired.signature.params;
          signature = paired.signature.held;
          gives = paired.signature.gives;
          takes = paired.signature.takes;
          void = paired.given;
          block = record { name = id_of (kernel_ids kernel) kernel.block; insts = map (inst_partner (kernel_ids kernel)) kernel.insts ++ end_of_block ∷ [] };
          blocks = refl;
          insts = subst (λ (vs : List Typed). AreFit types vs (map (inst_partner (kernel_ids kernel)) kernel.insts ++ end_of_block ∷ [])) values insts;
        },
        tt,
      );
      entries = All-cons (IsEntry (partner kernel)) (entry_partner (kernel_ids kernel) kernel) [] (contains-one (kernel_ids kernel).function) (All-nil (IsEntry (partner kernel)));
    }
