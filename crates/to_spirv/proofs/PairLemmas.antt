-- A kernel's module of text and its module of a binary stand for one another.
use Rattle.std.proofs.Common.{◌≡◌, ℕ, ◌+◌, Bool, true, false, List, [], ◌∷◌, ◌++◌, map, All, Some, None, refl, sym, ◌∙◌, ap, subst, arith, get_or}
use Rattle.std.specs.Prelude.{◌||◌}
use Rattle.std.specs.List.{AllZip, list_any}
use Rattle.std.proofs.lemmas.Bool.{false≢true}
use Rattle.std.proofs.lemmas.List.Elements.{All-nil, All-cons, All-head, All-tail, All-weaker}
use Rattle.kern_lanes.specs.declared.width.Width.TheVariants.{W32}
use Rattle.kern_types.specs.declared.class.Class.TheVariants.{Global}
use Rattle.kern_types.specs.declared.ty.Ty.TheVariants as ty
use Rattle.ll_tree.specs.declared.value.Value.{Local as local}
use Rattle.spv_layout.specs.declared.opcode.Opcode.TheVariants as op
use Rattle.spv_module.specs.declared.module.SpvModule.{SpvModule}
use Rattle.spv_module.specs.NamedTypes.{NamedTypes}
use Rattle.spv_module.specs.Spelled.{id_at}
use Rattle.kernel_tree.specs.declared.kernel.Kernel.{Kernel}
use Rattle.kernel_tree.specs.declared.kernel.KernelInst.{KernelInst}
use Rattle.kernel_tree.specs.declared.kernel.KernelInst.TheVariants.{Add, Load, Store}
use Rattle.kernel_tree.specs.declared.kernel.KernelParam.{KernelParam}
use Rattle.kernel_tree.specs.declared.kernel.ValueType.{ValueType}
use Rattle.kernel_tree.specs.declared.kernel.ValueType.TheVariants.{Int as i32, Pointer as i32_pointer}
use Rattle.kernel_tree.specs.Modules.{text_module, function, body, parameter, instruction, end_of_block as text_end, type_of}
use Rattle.to_spirv.specs.declared.types.TypesNeeded.{TypesNeeded}
use Rattle.to_spirv.specs.declared.types.TypesNeeded.TheVariants.{Neither, ResultInt, ParamInt, ParamPointer}
use Rattle.to_spirv.specs.declared.ids.Ids.{Ids}
use Rattle.to_spirv.specs.TypeTrees.{TypeRow, TypeTree, places_in, place_in}
use Rattle.to_spirv.specs.KernelTypes.{row_of_params, tree_of}
use Rattle.to_spirv.specs.ClosedTypes.{listed_by, ids_by, needed_by, needed_where, has_value, takes_pointer, is_pointer}
use Rattle.to_spirv.specs.Laws.{IsAligned}
use Rattle.to_spirv.specs.Pairing.{HasType, PairsInt, PairsPointer, PairsType, PairsInst, PairsBody, PairsParam, HasSignature, PairsFunction, Pairs}
use Rattle.to_spirv.specs.Partner.{kernel_ids, named_types, type_name, value_type_id, param_id, inst_partner, end_of_block, param_partner, function_partner, body_partner, module_over, partner}
use Rattle.to_spirv.proofs.TypeLemmas.{kernel_ids-closed, partner-needed, types-closed}

-- lists that are made of one list correspond
zip-maps : {X A B : Type 0} (R : A → B → Type 0) (f : X → A) (g : X → B) (xs : List X) → All (λ x. R (f x) (g x)) xs → AllZip R (map f xs) (map g xs)
zip-maps R f g [] all = tt
zip-maps R f g (x ∷ xs) all = (All-head (λ y. R (f y) (g y)) x xs all, zip-maps R f g xs (All-tail (λ y. R (f y) (g y)) x xs all))

zip-push : {A B : Type 0} (R : A → B → Type 0) (xs : List A) (ys : List B) (x : A) (y : B) → AllZip R xs ys → R x y → AllZip R (xs ++ x ∷ []) (ys ++ y ∷ [])
zip-push R [] [] x y all here = (here, tt)
zip-push R [] (w ∷ ys) x y all here = absurd all
zip-push R (v ∷ xs) [] x y all here = absurd all
zip-push R (v ∷ xs) (w ∷ ys) x y all here = (all.0, zip-push R xs ys x y all.1 here)

-- the types of the module
abbrev pub types_in : TypesNeeded → TypeRow → NamedTypes
types_in needed row = named_types (listed_by needed row)

-- the map from names to ids
abbrev ids_in : TypesNeeded → ℕ → ℕ
ids_in needed number = (ids_by needed).function + number

-- whether the module has the type of such values
abbrev pub is_listed : TypesNeeded → ValueType → Bool
is_listed Neither t = false
is_listed ResultInt i32 = true
is_listed ResultInt i32_pointer = false
is_listed ParamInt i32 = true
is_listed ParamInt i32_pointer = false
is_listed ParamPointer t = true

-- types
int-at : (needed : TypesNeeded) (row : TypeRow) → is_listed needed i32 ≡ true → PairsInt (types_in needed row) 32 (ids_by needed).int
int-at Neither row listed = absurd (false≢true listed)
int-at ResultInt row listed = record { width = W32; wide = refl; held = record { place = 2; name = type_name 3; named = refl; has_id = refl; held = refl } }
int-at ParamInt row listed = record { width = W32; wide = refl; held = record { place = 1; name = type_name 2; named = refl; has_id = refl; held = refl } }
int-at ParamPointer row listed = record { width = W32; wide = refl; held = record { place = 1; name = type_name 2; named = refl; has_id = refl; held = refl } }

pointer-at : (needed : TypesNeeded) (row : TypeRow) → is_listed needed i32_pointer ≡ true
    → PairsType (types_in needed row) (type_of i32_pointer) (ids_by needed).pointer
pointer-at Neither row listed = absurd (false≢true listed)
pointer-at ResultInt row listed = absurd (false≢true listed)
pointer-at ParamInt row listed = absurd (false≢true listed)
pointer-at ParamPointer row listed =
    let held : HasType (types_in ParamPointer row) 3 (ty.Pointer Global (record { 0 = 1 })) = record { place = 2; name = type_name 3; named = refl; has_id = refl; held = refl } in
    let pointer : PairsPointer (types_in ParamPointer row) 1 3 2 = record { class = Global; to = record { 0 = 1 }; held = held; spaced = refl; points = refl } in
    (2, pointer, int-at ParamPointer row listed)

type-pairs : (needed : TypesNeeded) (row : TypeRow) (t : ValueType) → is_listed needed t ≡ true
    → PairsType (types_in needed row) (type_of t) (value_type_id (ids_by needed) t)
type-pairs needed row i32 listed = int-at needed row listed
type-pairs needed row i32_pointer listed = pointer-at needed row listed

void-at : (needed : TypesNeeded) (row : TypeRow) → HasType (types_in needed row) (ids_by needed).void ty.Void
void-at Neither row = record { place = 0; name = type_name 1; named = refl; has_id = refl; held = refl }
void-at ResultInt row = record { place = 0; name = type_name 1; named = refl; has_id = refl; held = refl }
void-at ParamInt row = record { place = 0; name = type_name 1; named = refl; has_id = refl; held = refl }
void-at ParamPointer row = record { place = 0; name = type_name 1; named = refl; has_id = refl; held = refl }

function_type-at : (needed : TypesNeeded) (row : TypeRow)
    → HasType (types_in needed row) (ids_by needed).function_type (ty.Function (record { 0 = 0 }) (places_in (listed_by needed row) row))
function_type-at Neither row = record { place = 1; name = type_name 2; named = refl; has_id = refl; held = refl }
function_type-at ResultInt row = record { place = 1; name = type_name 2; named = refl; has_id = refl; held = refl }
function_type-at ParamInt row = record { place = 2; name = type_name 3; named = refl; has_id = refl; held = refl }
function_type-at ParamPointer row = record { place = 3; name = type_name 4; named = refl; has_id = refl; held = refl }

void-first : (needed : TypesNeeded) (row : TypeRow) → id_at (types_in needed row).names (record { 0 = 0 }) ≡ (ids_by needed).void
void-first Neither row = refl
void-first ResultInt row = refl
void-first ParamInt row = refl
void-first ParamPointer row = refl

type-id : (needed : TypesNeeded) (row : TypeRow) (t : ValueType) → is_listed needed t ≡ true
    → id_at (types_in needed row).names (place_in (listed_by needed row) (tree_of t)) ≡ value_type_id (ids_by needed) t
type-id Neither row t listed = absurd (false≢true listed)
type-id ResultInt row i32 listed = refl
type-id ResultInt row i32_pointer listed = absurd (false≢true listed)
type-id ParamInt row i32 listed = refl
type-id ParamInt row i32_pointer listed = absurd (false≢true listed)
type-id ParamPointer row i32 listed = refl
type-id ParamPointer row i32_pointer listed = refl

abbrev pub HasParamType : TypesNeeded → KernelParam → Type 0
HasParamType needed param = is_listed needed param.value_type ≡ true

takes-types : (needed : TypesNeeded) (row : TypeRow) (params : List KernelParam) → All (HasParamType needed) params
    → map (id_at (types_in needed row).names) (places_in (listed_by needed row) (row_of_params params)) ≡ map (λ param. param.ty) (map (param_partner (ids_by needed)) params)
takes-types needed row [] listed = refl
takes-types needed row (param ∷ params) listed =
    let here = type-id needed row param.value_type (All-head (HasParamType needed) param params listed) in
    let behind = takes-types needed row params (All-tail (HasParamType needed) param params listed) in
    ap (λ id. id ∷ map (id_at (types_in needed row).names) (places_in (listed_by needed row) (row_of_params params))) here
    ∙ ap (λ rest. value_type_id (ids_by needed) param.value_type ∷ rest) behind

signature-has : (needed : TypesNeeded) (kernel : Kernel) → All (HasParamType needed) kernel.params
    → HasSignature (ids_in needed) (types_in needed (row_of_params kernel.params)) (function_partner (ids_by needed) kernel)
signature-has needed kernel listed =
    let row = row_of_params kernel.params in
    record {
      given = record { 0 = 0 };
      params = places_in (listed_by needed row) row;
      held = function_type-at needed row;
      gives = void-first needed row;
      takes = takes-types needed row kernel.params listed;
    }

-- instructions
abbrev pub HasValueType : TypesNeeded → KernelInst → Type 0
HasValueType needed inst = has_value inst ≡ true → is_listed needed i32 ≡ true

inst-pairs : (needed : TypesNeeded) (row : TypeRow) (inst : KernelInst) → HasValueType needed inst → IsAligned inst
    → PairsInst (ids_in needed) (types_in needed row) (instruction inst) (inst_partner (ids_by needed) inst)
inst-pairs needed row (Add sum left right) listed aligned = record {
  found = record { opcode = op.IAdd; result_type = Some (type_of i32); values = local left ∷ local right ∷ []; words = [] };
  is = refl;
  opcode = refl;
  given = (int-at needed row (listed refl), refl);
  values = (refl, (refl, tt));
  words = refl;
}
inst-pairs needed row (Load loaded pointer true) listed aligned = record {
  found = record { opcode = op.Load; result_type = Some (type_of i32); values = local pointer ∷ []; words = 2 ∷ 4 ∷ [] };
  is = refl;
  opcode = refl;
  given = (int-at needed row (listed refl), refl);
  values = (refl, tt);
  words = refl;
}
inst-pairs needed row (Load loaded pointer false) listed aligned = absurd (false≢true aligned)
inst-pairs needed row (Store value pointer true) listed aligned = record {
  found = record { opcode = op.Store; result_type = None; values = local pointer ∷ local value ∷ []; words = 2 ∷ 4 ∷ [] };
  is = refl;
  opcode = refl;
  given = (refl, refl);
  values = (refl, (refl, tt));
  words = refl;
}
inst-pairs needed row (Store value pointer false) listed aligned = absurd (false≢true aligned)

end-pairs : (needed : TypesNeeded) (row : TypeRow) → PairsInst (ids_in needed) (types_in needed row) text_end end_of_block
end-pairs needed row = record {
  found = record { opcode = op.Return; result_type = None; values = []; words = [] };
  is = refl;
  opcode = refl;
  given = (refl, refl);
  values = tt;
  words = refl;
}

insts-pair : (needed : TypesNeeded) (row : TypeRow) (insts : List KernelInst) → All (HasValueType needed) insts → All IsAligned insts
    → AllZip (PairsInst (ids_in needed) (types_in needed row)) (map instruction insts ++ text_end ∷ []) (map (inst_partner (ids_by needed)) insts ++ end_of_block ∷ [])
insts-pair needed row insts listed aligned =
    zip-push (PairsInst (ids_in needed) (types_in needed row)) (map instruction insts) (map (inst_partner (ids_by needed)) insts) text_end end_of_block
    (zip-maps (PairsInst (ids_in needed) (types_in needed row)) instruction (inst_partner (ids_by needed)) insts
    (λ k d lt. inst-pairs needed row (get_or insts k d) (listed k d lt) (aligned k d lt)))
    (end-pairs needed row)

param_ids-same : (needed : TypesNeeded) (params : List KernelParam)
    → map (ids_in needed) (map (λ param. param.name.number) params) ≡ map (param_id (ids_by needed)) params
param_ids-same needed [] = refl
param_ids-same needed (param ∷ params) = ap (λ rest. param_id (ids_by needed) param ∷ rest) (param_ids-same needed params)

body-pairs : (needed : TypesNeeded) (row : TypeRow) (kernel : Kernel) → All (HasValueType needed) kernel.insts → All IsAligned kernel.insts
    → PairsBody (ids_in needed) (types_in needed row) (body kernel) (body_partner (ids_by needed) kernel)
body-pairs needed row kernel listed aligned = record {
  params = param_ids-same needed kernel.params;
  blocks = (record { name = refl; insts = insts-pair needed row kernel.insts listed aligned }, tt);
}

function-pairs : (needed : TypesNeeded) (kernel : Kernel) → All (HasParamType needed) kernel.params → kernel.name.number ≡ 0
    → PairsFunction (ids_in needed) (types_in needed (row_of_params kernel.params)) (function kernel) (function_partner (ids_by needed) kernel)
function-pairs needed kernel listed first =
    let row = row_of_params kernel.params in
    let Pairs' = PairsParam (ids_in needed) (types_in needed row) in
    record {
      linkage = refl;
      attributes = refl;
      arg_type = refl;
      size = refl;
      hint = refl;
      name = omega arith;
      given = void-at needed row;
      params = zip-maps Pairs' parameter (param_partner (ids_by needed)) kernel.params
          (λ k d lt. record { attributes = refl; type = type-pairs needed row (get_or kernel.params k d).value_type (listed k d lt); name = refl });
      signature = signature-has needed kernel listed;
    }

-- what kernels need is listed
int-listed : (pointer : Bool) (params : List KernelParam) → is_listed (needed_where pointer params true) i32 ≡ true
int-listed true params = refl
int-listed false [] = refl
int-listed false (param ∷ params) = refl

some-value : (insts : List KernelInst) → All (λ inst. has_value inst ≡ true → list_any has_value insts ≡ true) insts
some-value [] = All-nil (λ inst. has_value inst ≡ true → false ≡ true)
some-value (inst ∷ insts) =
    All-cons (λ i. has_value i ≡ true → (has_value inst || list_any has_value insts) ≡ true) inst insts (here (has_value inst))
    (All-weaker (λ i. has_value i ≡ true → list_any has_value insts ≡ true) (λ i. has_value i ≡ true → (has_value inst || list_any has_value insts) ≡ true)
    (λ i behind has. further (has_value inst) (behind has)) insts (some-value insts))
  where
    here : (b : Bool) → b ≡ true → (b || list_any has_value insts) ≡ true
    here true is = refl
    here false is = absurd (false≢true is)

    further : (b : Bool) → list_any has_value insts ≡ true → (b || list_any has_value insts) ≡ true
    further true is = refl
    further false is = is

pub values-listed : (params : List KernelParam) (insts : List KernelInst) → All (HasValueType (needed_by params insts)) insts
values-listed params insts =
    All-weaker (λ inst. has_value inst ≡ true → list_any has_value insts ≡ true) (HasValueType (needed_by params insts))
    (λ inst some has. subst (λ (b : Bool). is_listed (needed_where (list_any takes_pointer params) params b) i32 ≡ true) (sym (some has)) (int-listed (list_any takes_pointer params) params))
    insts (some-value insts)

ints-listed : (params : List KernelParam) → list_any takes_pointer params ≡ false → All (HasParamType ParamInt) params
ints-listed [] none = All-nil (HasParamType ParamInt)
ints-listed (param ∷ params) none =
    All-cons (HasParamType ParamInt) param params (here param.value_type none) (ints-listed params (behind param.value_type none))
  where
    here : (t : ValueType) → (is_pointer t || list_any takes_pointer params) ≡ false → is_listed ParamInt t ≡ true
    here i32 is = refl
    here i32_pointer is = cc

    behind : (t : ValueType) → (is_pointer t || list_any takes_pointer params) ≡ false → list_any takes_pointer params ≡ false
    behind i32 is = is
    behind i32_pointer is = cc

pub params-listed : (params : List KernelParam) (insts : List KernelInst) → All (HasParamType (needed_by params insts)) params
params-listed [] insts = All-nil (HasParamType (needed_by [] insts))
params-listed (param ∷ params) insts = by_pointer (list_any takes_pointer (param ∷ params)) refl
  where
    by_pointer : (b : Bool) → list_any takes_pointer (param ∷ params) ≡ b
        → All (HasParamType (needed_where b (param ∷ params) (list_any has_value insts))) (param ∷ params)
    by_pointer true is = λ k d lt. refl
    by_pointer false is = ints-listed (param ∷ params) is

module-pairs : (needed : TypesNeeded) (kernel : Kernel) → All (HasParamType needed) kernel.params → All (HasValueType needed) kernel.insts
    → kernel.name.number ≡ 0 → All IsAligned kernel.insts
    → Pairs (text_module kernel) (module_over (listed_by needed (row_of_params kernel.params)) (ids_by needed) kernel)
module-pairs needed kernel params insts first aligned = record {
  ids = ids_in needed;
  distinct = λ name other same. omega arith;
  version = refl;
  capabilities = refl;
  addressing = refl;
  memory = refl;
  pointer = refl;
  functions = (function-pairs needed kernel params first, tt);
  bodies = (body-pairs needed (row_of_params kernel.params) kernel insts aligned, tt);
  entries = (record { function_id = omega arith; name = refl; interface = refl; modes = refl }, tt);
  no_more = record {
    structs = refl;
    text_variables = refl;
    declares = refl;
    ocl_version = refl;
    nodes = refl;
    extensions = refl;
    imports = refl;
    strings = refl;
    source = refl;
    decorations = refl;
    decoration_groups = refl;
    groups = refl;
    constants = refl;
    variables = refl;
  };
}

pub pairs : (kernel : Kernel) → kernel.name.number ≡ 0 → All IsAligned kernel.insts → Pairs (text_module kernel) (partner kernel)
pairs kernel first aligned =
    let needed = needed_by kernel.params kernel.insts in
    subst (λ (spv : SpvModule). Pairs (text_module kernel) spv) (partner-needed kernel needed (ids_by needed) refl refl)
    (module-pairs needed kernel (params-listed kernel.params kernel.insts) (values-listed kernel.params kernel.insts) first aligned)

-- the entries of the types that values have
abbrev pub TypeFacts : NamedTypes → ℕ → ℕ → ValueType → Type 0
TypeFacts types int pointer i32 = HasType types int (ty.Int W32)
TypeFacts types int pointer i32_pointer =
    HasType types int (ty.Int W32) × HasType types pointer (ty.Pointer Global (record { 0 = 1 })) × (id_at types.names (record { 0 = 1 }) ≡ int)

int-held : (needed : TypesNeeded) (row : TypeRow) → is_listed needed i32 ≡ true → HasType (types_in needed row) (ids_by needed).int (ty.Int W32)
int-held Neither row listed = absurd (false≢true listed)
int-held ResultInt row listed = record { place = 2; name = type_name 3; named = refl; has_id = refl; held = refl }
int-held ParamInt row listed = record { place = 1; name = type_name 2; named = refl; has_id = refl; held = refl }
int-held ParamPointer row listed = record { place = 1; name = type_name 2; named = refl; has_id = refl; held = refl }

facts-in : (needed : TypesNeeded) (row : TypeRow) (t : ValueType) → is_listed needed t ≡ true
    → TypeFacts (types_in needed row) (ids_by needed).int (ids_by needed).pointer t
facts-in needed row i32 listed = int-held needed row listed
facts-in Neither row i32_pointer listed = absurd (false≢true listed)
facts-in ResultInt row i32_pointer listed = absurd (false≢true listed)
facts-in ParamInt row i32_pointer listed = absurd (false≢true listed)
facts-in ParamPointer row i32_pointer listed =
    (int-held ParamPointer row refl, record { place = 2; name = type_name 3; named = refl; has_id = refl; held = refl }, refl)

pub type-facts : (kernel : Kernel) (t : ValueType) → is_listed (needed_by kernel.params kernel.insts) t ≡ true
    → TypeFacts (partner kernel).types (kernel_ids kernel).int (kernel_ids kernel).pointer t
type-facts kernel t listed =
    let needed = needed_by kernel.params kernel.insts in
    let row = row_of_params kernel.params in
    let ids = sym (kernel_ids-closed kernel) in
    subst (λ (trees : List TypeTree). TypeFacts (named_types trees) (kernel_ids kernel).int (kernel_ids kernel).pointer t) (sym (types-closed kernel))
    (subst (λ (i : Ids). TypeFacts (types_in needed row) i.int i.pointer t) ids (facts-in needed row t listed))
