-- A module that makes a pair with a kernel's module of text has the kernel's instructions.
use Rattle.std.proofs.Common.{◌≡◌, ℕ, zero, suc, ◌+◌, ◌<◌, Bool, true, false, cond, List, [], ◌∷◌, ◌++◌, map, length, refl, sym, ◌∙◌, ap, subst, arith, All, Option, Some, None, inl, inr, get_or}
use Rattle.std.specs.Prelude.{◌==◌, ◌⊎◌, ◌≢◌, find, flat_map, slice_get, Contains, nat_eq}
use Rattle.std.specs.List.{AllZip}
use Rattle.std.proofs.lemmas.Bool.{false≢true}
use Rattle.std.proofs.lemmas.Bool.Decides.{nat_tests}
use Rattle.std.proofs.lemmas.List.Elements.{All-nil, All-cons, All-head, All-tail}
use Rattle.std.proofs.lemmas.Option.{slice_get_within, slice_get-get_or, get_or_from_slice_get}
use Rattle.kern_lanes.specs.declared.width.Width.{Width}
use Rattle.kern_lanes.specs.declared.width.Width.TheVariants.{W1, W8, W16, W32, W64}
use Rattle.kern_lanes.specs.Widths.{bits_of}
use Rattle.kern_types.specs.declared.class.Class.{Class}
use Rattle.kern_types.specs.declared.class.Class.TheVariants as class
use Rattle.kern_types.specs.declared.ty.Ty.{Ty}
use Rattle.kern_types.specs.declared.ty.Ty.TheVariants as ty
use Rattle.kern_types.specs.declared.ty.TyId.{TyId}
use Rattle.kernel_tree.specs.declared.kernel.Kernel.{Kernel}
use Rattle.kernel_tree.specs.declared.kernel.KernelInst.{KernelInst}
use Rattle.kernel_tree.specs.declared.kernel.KernelInst.TheVariants.{Add, Load, Store}
use Rattle.kernel_tree.specs.declared.kernel.KernelParam.{KernelParam}
use Rattle.kernel_tree.specs.declared.kernel.ValueType.{ValueType}
use Rattle.kernel_tree.specs.declared.kernel.ValueType.TheVariants.{Int as i32, Pointer as i32_pointer}
use Rattle.kernel_tree.specs.Modules.{end_of_block as text_end, instruction, parameter, text_module, type_of}
use Rattle.kernel_tree.specs.Numbered.{IsNumbered, definition_count}
use Rattle.spv_module.specs.declared.inst.SpvInst.{SpvInst}
use Rattle.spv_module.specs.declared.module.Param.{Param}
use Rattle.spv_module.specs.declared.module.SpvModule.{SpvModule}
use Rattle.spv_module.specs.declared.types.TypeName.{TypeName}
use Rattle.spv_module.specs.NamedTypes.{NamedTypes}
use Rattle.spv_play.specs.Types.{type_among, type_named}
use Rattle.to_spirv.specs.Pairing.{HasType, Pairs, PairsInst, PairsInt, PairsParam, PairsType, space_of}
use Rattle.to_spirv.specs.Ranges.{EachNumber}
use Rattle.to_spirv.proofs.AloneLemmas.{RowFacts, return_row}
use Rattle.to_spirv.proofs.NumberLemmas.{numbered-names}
use Rattle.kernel_runs.specs.Images.{HasNumbers, IsImage, end_image, inst_image, param_image, param_seen, type_image, unplaced}
use Rattle.kernel_runs.specs.Names.{inst_numbers, param_number, result_typed, value_numbers}
use Rattle.kernel_runs.proofs.CoveredForms.{covered-forms}
use Rattle.kernel_runs.proofs.Runs.{image-runs}
use Rattle.spv_canon.specs.Canonical.{ids_in_functions}
use Rattle.spv_canon.specs.Sound.{EachOnce, HasSoundIds}
use Rattle.spv_canon.specs.Trees.{id_of_type}
use Rattle.spv_canon.proofs.ListFacts.{some-is}
use Rattle.spv_canon.proofs.OneForm.{HasParts, has-parts, ids-range, range-at, types-sound}
use Rattle.spv_canon.proofs.PartFacts.{FactsFor, end-facts, facts-for, values-are}
use Rattle.spv_canon.proofs.TreeFacts.{HasSoundTypes, named-place, part-within}
use Rattle.pair_runs.specs.Laws.{HasPlainIds, PairedRunsAreSame}

none-is : {A : Type 0} (x : A) → None ≡ Some x → ⊥
none-is x e = cc

-- widths and classes by their numbers
width-is : (width : Width) → bits_of width ≡ 32 → width ≡ W32
width-is W1 bits = absurd (omega arith)
width-is W8 bits = absurd (omega arith)
width-is W16 bits = absurd (omega arith)
width-is W32 bits = refl
width-is W64 bits = absurd (omega arith)

class-is : (c : Class) → space_of c ≡ Some 1 → c ≡ class.Global
class-is class.Private space = let n = some-is 0 1 space in absurd (omega arith)
class-is class.Global space = refl
class-is class.Constant space = let n = some-is 2 1 space in absurd (omega arith)
class-is class.Local space = let n = some-is 3 1 space in absurd (omega arith)
class-is class.Generic space = let n = some-is 4 1 space in absurd (omega arith)
class-is class.Input space = absurd (none-is 1 space)

-- the place of the integer type, if there is one
abbrev is_int_32 : Ty → Bool
is_int_32 (ty.Int W32) = true
is_int_32 _ = false

int-32 : (t : Ty) → is_int_32 t ≡ true → t ≡ ty.Int W32
int-32 ty.Void e = absurd (false≢true e)
int-32 ty.Bool e = absurd (false≢true e)
int-32 (ty.Int W1) e = absurd (false≢true e)
int-32 (ty.Int W8) e = absurd (false≢true e)
int-32 (ty.Int W16) e = absurd (false≢true e)
int-32 (ty.Int W32) e = refl
int-32 (ty.Int W64) e = absurd (false≢true e)
int-32 (ty.Vector part lanes) e = absurd (false≢true e)
int-32 (ty.Array part count) e = absurd (false≢true e)
int-32 (ty.Struct members packed) e = absurd (false≢true e)
int-32 (ty.Pointer c to) e = absurd (false≢true e)
int-32 (ty.Function given params) e = absurd (false≢true e)
int-32 ty.Other e = absurd (false≢true e)

abbrev IntAt : List Ty → ℕ → Type 0
IntAt entries place = slice_get entries place ≡ Some (ty.Int W32)

int-there : (entries : List Ty) → ((place : ℕ) × IntAt entries place) ⊎ ((place : ℕ) → IntAt entries place → ⊥)
int-there [] = inr (λ place at. none-is (ty.Int W32) at)
int-there (entry ∷ entries) = by (is_int_32 entry) refl (int-there entries)
  where
    by : (b : Bool) → is_int_32 entry ≡ b → ((place : ℕ) × IntAt entries place) ⊎ ((place : ℕ) → IntAt entries place → ⊥)
        → ((place : ℕ) × IntAt (entry ∷ entries) place) ⊎ ((place : ℕ) → IntAt (entry ∷ entries) place → ⊥)
    by true is behind = inl (0, ap Some (int-32 entry is))
    by false is (inl found) = inl (suc found.0, found.1)
    by false is (inr none) = inr further
      where
        further : (place : ℕ) → IntAt (entry ∷ entries) place → ⊥
        further zero at = false≢true (sym is ∙ ap is_int_32 (some-is entry (ty.Int W32) at))
        further (suc place) at = none place at

-- the type with an id, where each id stands once
type-found : (names : List TypeName) (types : List Ty) (place id : ℕ) (name : TypeName) (entry : Ty) → slice_get names place ≡ Some name → name.id ≡ id
    → slice_get types place ≡ Some entry → EachOnce (map id_of_type names) → type_among names types id ≡ Some entry
type-found [] types place id name entry named is held once = absurd (none-is name named)
type-found (first ∷ names) [] place id name entry named is held once = absurd (none-is entry held)
type-found (first ∷ names) (type ∷ types) zero id name entry named is held once = by (first.id == id) refl
  where
    by : (b : Bool) → (first.id == id) ≡ b → cond (first.id == id) (Some type) (type_among names types id) ≡ Some entry
    by true test = ap (λ t. cond t (Some type) (type_among names types id)) test ∙ held
    by false test =
        let same : first.id ≡ id = ap (λ n. n.id) (some-is first name named) ∙ is in
        absurd (apart first.id id same test)
      where
        apart : (n m : ℕ) → n ≡ m → nat_eq n m ≡ false → ⊥
        apart n m e no_e = grind (arith, nat_tests)
type-found (first ∷ names) (type ∷ types) (suc place) id name entry named is held once = by (first.id == id) refl (type-found names types place id name entry named is held later)
  where
    later : EachOnce (map id_of_type names)
    later i j other at there = let same : suc i ≡ suc j = once (suc i) (suc j) other at there in omega arith

    id-behind : (ns : List TypeName) (p : ℕ) → slice_get ns p ≡ Some name → slice_get (map id_of_type ns) p ≡ Some name.id
    id-behind [] p at = absurd (none-is name at)
    id-behind (n ∷ ns) zero at = ap (λ (o : Option TypeName). option_id o) at
      where
        option_id : Option TypeName → Option ℕ
        option_id None = None
        option_id (Some x) = Some x.id
    id-behind (n ∷ ns) (suc p) at = id-behind ns p at

    by : (b : Bool) → (first.id == id) ≡ b → type_among names types id ≡ Some entry → cond (first.id == id) (Some type) (type_among names types id) ≡ Some entry
    by true test found =
        let same : first.id ≡ id = equal first.id id test in
        let there : slice_get (map id_of_type names) place ≡ Some id = id-behind names place named ∙ ap Some is in
        let places : 0 ≡ suc place = once 0 (suc place) id (ap Some same) there in
        absurd (omega arith)
      where
        equal : (n m : ℕ) → nat_eq n m ≡ true → n ≡ m
        equal n m e = grind (arith, nat_tests)
    by false test found = ap (λ t. cond t (Some type) (type_among names types id)) test ∙ found

-- the id and the place that the integer type has, where it is asked for
record IntFacts (types : NamedTypes) : Type 0 where
  int : TyId
  int_id : ℕ
  place-is : (id : ℕ) (pairs : PairsInt types 32 id) → pairs.held.place ≡ int.0
  id-is : (id : ℕ) → PairsInt types 32 id → id ≡ int_id

module _ (kernel : Kernel) (m : SpvModule) (numbers : IsNumbered kernel) (own : kernel.name.number ≡ 0) (sound : HasSoundIds m) (plain : HasPlainIds m)
    (pairs : Pairs (text_module kernel) m) where
  abbrev types : NamedTypes
  types = m.types

  abbrev f : ℕ → ℕ
  f = pairs.ids

  has : HasParts kernel m pairs.ids
  has = has-parts kernel m pairs

  sound_types : HasSoundTypes types
  sound_types = types-sound kernel m numbers own sound pairs.ids has

  int-at : (id : ℕ) (int : PairsInt types 32 id) → IntAt types.table.types int.held.place
  int-at id int = int.held.held ∙ ap (λ (w : Width). Some (ty.Int w)) (width-is int.width int.wide)

  int-facts : IntFacts types
  int-facts = by (int-there types.table.types)
    where
      by : ((place : ℕ) × IntAt types.table.types place) ⊎ ((place : ℕ) → IntAt types.table.types place → ⊥) → IntFacts types
      by (inl found) =
          let place = found.0 in
          let within : place < length types.names =
          let inside = slice_get_within types.table.types place (ty.Int W32) found.1 in let same = sound.named in omega arith in
          let default : TypeName = record { id = 0; length = None; place = 0 } in
          let name = get_or types.names place default in
          let named : slice_get types.names place ≡ Some name = slice_get-get_or types.names place default within in
          record {
            int = record { 0 = place };
            int_id = name.id;
            place-is = λ id int. plain.once int.held.place place (int-at id int) found.1;
            id-is = λ id int.
                let same : int.held.place ≡ place = plain.once int.held.place place (int-at id int) found.1 in
                let also : Some int.held.name ≡ Some name = sym int.held.named ∙ ap (slice_get types.names) same ∙ named in
                sym int.held.has_id ∙ ap (λ (n : TypeName). n.id) (some-is int.held.name name also);
          }
      by (inr none) = record {
        int = record { 0 = 0 };
        int_id = 0;
        place-is = λ id int. absurd (none int.held.place (int-at id int));
        id-is = λ id int. absurd (none int.held.place (int-at id int));
      }

  abbrev int : TyId
  int = int-facts.int

  abbrev int_id : ℕ
  int_id = int-facts.int_id

  type-of-id : (id : ℕ) (entry : Ty) → HasType types id entry → type_named m id ≡ Some entry
  type-of-id id entry held = type-found types.names types.table.types held.place id held.name entry held.named held.has_id held.held sound_types.once

  type-known : (t : ValueType) (id : ℕ) → PairsType types (type_of t) id → type_named m id ≡ Some (type_image int t)
  type-known i32 id pair = type-of-id id (ty.Int pair.width) pair.held ∙ ap (λ (w : Width). Some (ty.Int w)) (width-is pair.width pair.wide)
  type-known i32_pointer id pair =
      let pointer = pair.1 in
      let number = pair.2 in
      let entry = ty.Pointer pointer.class pointer.to in
      let before : pointer.to.0 < pointer.held.place = sound.parts pointer.held.place entry pointer.held.held in
      let within = part-within types sound_types id entry pointer.held pointer.to before in
      let place : pointer.to.0 ≡ int.0 =
      named-place types sound_types pointer.to pair.0 (ty.Int number.width) within pointer.points number.held ∙ int-facts.place-is pair.0 number in
      type-of-id id entry pointer.held
      ∙ ap (λ (c : Class). Some (ty.Pointer c pointer.to)) (class-is pointer.class pointer.spaced)
      ∙ ap (λ (p : ℕ). Some (ty.Pointer class.Global (record { 0 = p }))) place

  params-are : (params : List KernelParam) (spvs : List Param) → AllZip (PairsParam f types) (map parameter params) spvs
      → map (param_seen m) spvs ≡ map (param_image f int) params
  params-are [] [] all = refl
  params-are [] (spv ∷ spvs) all = absurd all
  params-are (param ∷ params) [] all = absurd all
  params-are (param ∷ params) (spv ∷ spvs) all =
      let id = all.0.name in
      let type = type-known param.value_type spv.ty all.0.type in
      let here : param_seen m spv ≡ param_image f int param = λ i. (sym id i, type i) in
      ap (λ p. p ∷ map (param_seen m) spvs) here ∙ ap (λ ps. param_image f int param ∷ ps) (params-are params spvs all.1)

  abbrev states : KernelInst → Bool
  states i = true

  unplaced-is : (op type result : ℕ) (ids words : List ℕ) (spv : SpvInst) → spv.op ≡ op → spv.ty ≡ type → spv.result ≡ result → spv.operands.ids ≡ ids → spv.operands.words ≡ words
      → unplaced spv ≡ record { op = op; ty = type; result = result; operands = record { ids = ids; words = words }; place = 0 }
  unplaced-is op type result ids words spv is type_is result_is ids_are words_are =
      λ i. record { op = is i; ty = type_is i; result = result_is i; operands = record { ids = ids_are i; words = words_are i }; place = 0 }

  inst-is : (inst : KernelInst) (spv : SpvInst) → FactsFor f types inst spv → unplaced spv ≡ inst_image f int_id states inst
  inst-is (Add sum left right) spv facts =
      unplaced-is _ int_id (f sum.number) (f left.number ∷ f right.number ∷ []) [] spv facts.opcode (int-facts.id-is spv.ty facts.given.0) (sym facts.given.1)
      (values-are f types (left ∷ right ∷ []) spv.operands.ids facts.values) facts.words
  inst-is (Load loaded pointer is_aligned) spv facts =
      unplaced-is _ int_id (f loaded.number) (f pointer.number ∷ []) (2 ∷ 4 ∷ []) spv facts.opcode (int-facts.id-is spv.ty facts.given.0) (sym facts.given.1)
      (values-are f types (pointer ∷ []) spv.operands.ids facts.values) facts.words
  inst-is (Store value pointer is_aligned) spv facts =
      unplaced-is _ 0 0 (f pointer.number ∷ f value.number ∷ []) (2 ∷ 4 ∷ []) spv facts.opcode facts.given.0 facts.given.1
      (values-are f types (pointer ∷ value ∷ []) spv.operands.ids facts.values) facts.words

  end-is : (spv : SpvInst) → RowFacts f types return_row None spv → unplaced spv ≡ end_image
  end-is spv facts = unplaced-is _ 0 0 [] [] spv facts.opcode facts.given.0 facts.given.1 (values-are f types [] spv.operands.ids facts.values) facts.words

  insts-are : (insts : List KernelInst) (spvs : List SpvInst) → AllZip (PairsInst f types) (map instruction insts ++ text_end ∷ []) spvs
      → map unplaced spvs ≡ map (inst_image f int_id states) insts ++ end_image ∷ []
  insts-are [] [] all = absurd all
  insts-are [] (spv ∷ []) all = ap (λ i. i ∷ []) (end-is spv (end-facts f types spv all.0))
  insts-are [] (spv ∷ other ∷ spvs) all = absurd all.1
  insts-are (inst ∷ insts) [] all = absurd all
  insts-are (inst ∷ insts) (spv ∷ spvs) all =
      ap (λ i. i ∷ map unplaced spvs) (inst-is inst spv (facts-for f types inst spv all.0)) ∙ ap (λ is. inst_image f int_id states inst ∷ is) (insts-are insts spvs all.1)

  -- results are numbers
  has-numbers : (spv : SpvInst) (number : ℕ) → PairsInt types 32 spv.ty → HasNumbers m int_id (number, i32)
  has-numbers spv number pair = ap (type_named m) (sym (int-facts.id-is spv.ty pair)) ∙ type-known i32 spv.ty pair

  numbers-are : (insts : List KernelInst) (spvs : List SpvInst) → AllZip (PairsInst f types) (map instruction insts ++ text_end ∷ []) spvs
      → All (HasNumbers m int_id) (flat_map result_typed insts)
  numbers-are [] spvs all = All-nil (HasNumbers m int_id)
  numbers-are (inst ∷ insts) [] all = absurd all
  numbers-are (Add sum left right ∷ insts) (spv ∷ spvs) all =
      All-cons (HasNumbers m int_id) (sum.number, i32) (flat_map result_typed insts)
      (has-numbers spv sum.number (facts-for f types (Add sum left right) spv all.0).given.0) (numbers-are insts spvs all.1)
  numbers-are (Load loaded pointer is_aligned ∷ insts) (spv ∷ spvs) all =
      All-cons (HasNumbers m int_id) (loaded.number, i32) (flat_map result_typed insts)
      (has-numbers spv loaded.number (facts-for f types (Load loaded pointer is_aligned) spv all.0).given.0) (numbers-are insts spvs all.1)
  numbers-are (Store value pointer is_aligned ∷ insts) (spv ∷ spvs) all = numbers-are insts spvs all.1

  -- the ids of values are no 0
  abbrev Within : ℕ → Type 0
  Within n = n < definition_count kernel + 1

  within-insts : (insts : List KernelInst) → All (EachNumber Within) insts → All Within (flat_map inst_numbers insts)
  within-insts [] all = All-nil Within
  within-insts (Add sum left right ∷ insts) all =
      let here = All-head (EachNumber Within) (Add sum left right) insts all in
      let rest = flat_map inst_numbers insts in
      All-cons Within sum.number (left.number ∷ right.number ∷ rest) here.0
      (All-cons Within left.number (right.number ∷ rest) here.1
      (All-cons Within right.number rest here.2 (within-insts insts (All-tail (EachNumber Within) (Add sum left right) insts all))))
  within-insts (Load loaded pointer is_aligned ∷ insts) all =
      let here = All-head (EachNumber Within) (Load loaded pointer is_aligned) insts all in
      let rest = flat_map inst_numbers insts in
      All-cons Within loaded.number (pointer.number ∷ rest) here.0
      (All-cons Within pointer.number rest here.1 (within-insts insts (All-tail (EachNumber Within) (Load loaded pointer is_aligned) insts all)))
  within-insts (Store value pointer is_aligned ∷ insts) all =
      let here = All-head (EachNumber Within) (Store value pointer is_aligned) insts all in
      let rest = flat_map inst_numbers insts in
      All-cons Within value.number (pointer.number ∷ rest) here.0
      (All-cons Within pointer.number rest here.1 (within-insts insts (All-tail (EachNumber Within) (Store value pointer is_aligned) insts all)))

  within-values : (params : List KernelParam) → All (λ param. Within param.name.number) params → All Within (flat_map inst_numbers kernel.insts)
      → All Within (map param_number params ++ flat_map inst_numbers kernel.insts)
  within-values [] all rest = rest
  within-values (param ∷ params) all rest =
      All-cons Within param.name.number (map param_number params ++ flat_map inst_numbers kernel.insts)
      (All-head (λ p. Within p.name.number) param params all) (within-values params (All-tail (λ p. Within p.name.number) param params all) rest)

  all-within : All Within (value_numbers kernel)
  all-within =
      let names = numbered-names Within kernel numbers (λ n lt. lt) in
      within-values kernel.params names.params (within-insts kernel.insts names.insts)

  positive : (number : ℕ) → Contains (value_numbers kernel) number → f number ≢ 0
  positive number there zero_is =
      let within : Within number = subst Within there.2 (all-within there.0 number there.1) in
      let ids = ids_in_functions m in
      let at : slice_get ids number ≡ Some (f number) =
      ap (λ is. slice_get is number) (ids-range kernel m numbers own sound pairs.ids has)
      ∙ range-at kernel m numbers own sound pairs.ids has [] 0 number (suc (definition_count kernel)) (omega arith) ∙ ap (λ k. Some (f k)) (behind-zero number) in
      let inside = slice_get_within ids number (f number) at in
      let more : 0 < get_or ids number 0 = plain.positive number 0 inside in
      let is : get_or ids number 0 ≡ f number = get_or_from_slice_get ids number (f number) 0 at in
      omega arith
    where
      behind-zero : (k : ℕ) → 0 + k ≡ k
      behind-zero k = omega arith

  paired-image : IsImage kernel f m
  paired-image = record {
    injective = λ a b at_a at_b same. pairs.distinct a b same;
    positive = positive;
    no_constant = λ n at. ap (λ cs. find (λ constant. constant.id == f n) cs) pairs.no_more.constants;
    no_variables = pairs.no_more.variables;
    entry = has.entry;
    entries = has.entries;
    entry_name = sym has.entry_pairs.name;
    function = has.fn;
    functions = has.fns;
    entry_function = sym has.entry_pairs.function_id ∙ has.fn_pairs.name;
    int = int;
    params = params-are kernel.params has.fn.params has.fn_pairs.params;
    int_id = int_id;
    numbers = numbers-are kernel.insts has.blk.insts has.blk_pairs.insts;
    body = has.bd;
    bodies = has.bds;
    block = has.blk;
    blocks = has.blks;
    states_alignment = states;
    insts = insts-are kernel.insts has.blk.insts has.blk_pairs.insts;
  }

pub paired-runs : PairedRunsAreSame
paired-runs kernel m numbers own covered sound plain pairs name inputs =
    image-runs kernel m pairs.ids (covered-forms kernel covered).typed (paired-image kernel m numbers own sound plain pairs) name inputs
