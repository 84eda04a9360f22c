-- The types of a module are read back from its instructions.
use Rattle.std.proofs.Common.{◌≡◌, ℕ, suc, ◌+◌, ◌==◌, Bool, true, false, List, [], ◌∷◌, ◌++◌, map, length, take, slice_get, unwrap_or, Option, Some, None, refl, ap, ap₂, subst, sym, ◌∙◌, append_assoc, append-nil, arith}
use Rattle.std.specs.Prelude.{IfSome, nat_lt, if◌then◌else◌}
use Rattle.std.specs.List.{flat_map, zip}
use Rattle.std.specs.Option.{option_to_list}
use Rattle.std.proofs.lemmas.List.{map-append}
use Rattle.kern_types.specs.declared.class.PointerWidth.{PointerWidth}
use Rattle.kern_types.specs.declared.ty.Ty.{Ty}
use Rattle.kern_types.specs.declared.ty.Ty.TheVariants as ty
use Rattle.kern_types.specs.declared.ty.TyId.{TyId}
use Rattle.spv_codec.specs.declared.module.RawInst.{RawInst}
use Rattle.spv_layout.specs.declared.opcode.Opcode.{Opcode}
use Rattle.spv_layout.specs.declared.opcode.Opcode.TheVariants as op
use Rattle.spv_layout.specs.Forms.{number_of, opcode_of}
use Rattle.spv_module.specs.declared.declared.Declared.{Declared}
use Rattle.spv_module.specs.declared.types.TypeName.{TypeName}
use Rattle.spv_module.specs.Modules.{type_name_moved, types_moved}
use Rattle.spv_module.specs.NamedTypes.{NamedTypes}
use Rattle.spv_module.specs.Sections.{placed, sections, preamble, debug_section, annotations, global_section, function_section, merged, put_before, inst_of, declared_as, type_declared, types_declared, constant_declared, variable_declared}
use Rattle.spv_module.specs.Spelled.{type_spelled}
use Rattle.spv_types.specs.Laws.{IsTold, IsReadAs}
use Rattle.spv_types.specs.Numbers.{constant_number}
use Rattle.spv_types.specs.Packed.{is_packed}
use Rattle.spv_types.specs.Readings.{type_by, name_of}
use Rattle.spv_types.specs.Tables.{place_from, place_of, with_type, type_behind, types_behind, types_from, no_types, types_of}
use Rattle.spv_types.proofs.ReadBack.{read-back}
use Rattle.spv_build.specs.Laws.{at}
use Rattle.spv_round_trip.specs.Laws.{TypesAreBuiltAgain, unplace}
use Rattle.spv_round_trip.specs.Writable.{IsNamed}
use Rattle.spv_round_trip.proofs.Lists.{Each, each-weaker}
use Rattle.spv_round_trip.proofs.OpcodeReaders.{refused}
use Rattle.spv_round_trip.proofs.SectionParts.{Passes, Declares, in_preamble, in_debug, in_annotations, in_functions, in_constants, in_variables, preamble-passes, debug-passes, annotations-pass, functions-pass, constants-declare, variables-declare, insts-each}

abbrev name_unplaced : TypeName → TypeName
name_unplaced name = type_name_moved unplace name

abbrev types_unplaced : NamedTypes → NamedTypes
types_unplaced types = types_moved unplace types

place-moved : (from : ℕ) (names : List TypeName) (id : ℕ) → place_from from names id ≡ place_from from (map name_unplaced names) id
place-moved from [] id = refl
place-moved from (name ∷ names) id = ap (λ o. if name.id == id then Some (let p : TyId = record { 0 = from } in p) else o) (place-moved (from + 1) names id)

places-moved : (names : List TypeName) → place_of names ≡ place_of (map name_unplaced names)
places-moved names = λ j id. place-moved 0 names id j

with-moved : (types : NamedTypes) (name : TypeName) (o : Option Ty) → types_unplaced (with_type types name o) ≡ with_type (types_unplaced types) (name_unplaced name) o
with-moved types name None = refl
with-moved types name (Some type) =
    ap (λ ns. let t : NamedTypes = record { table = record types.table { types = types.table.types ++ type ∷ [] }; names = ns } in t)
    (map-append name_unplaced types.names (name ∷ []))

module _ (numbers : ℕ → Option ℕ) (packed : ℕ → Bool) where
  behind-moved : (types : NamedTypes) (inst : RawInst) → types_unplaced (types_behind numbers packed types inst) ≡ types_behind numbers packed (types_unplaced types) (at 0 inst)
  behind-moved types inst =
      with-moved types (name_of inst) (type_behind numbers packed types inst)
      ∙ ap (λ places. with_type (types_unplaced types) (name_of (at 0 inst)) (type_by places numbers packed (opcode_of inst.op) inst.operands)) (places-moved types.names)

  from-moved : (s t : NamedTypes) → types_unplaced s ≡ types_unplaced t → (place : ℕ) (insts : List RawInst)
      → types_unplaced (types_from numbers packed s (placed place insts)) ≡ types_unplaced (types_from numbers packed t insts)
  from-moved s t e place [] = e
  from-moved s t e place (inst ∷ insts) =
      from-moved (types_behind numbers packed s (at place inst)) (types_behind numbers packed t inst)
      (behind-moved s (at place inst) ∙ (ap (λ r. types_behind numbers packed r (at 0 inst)) e ∙ sym (behind-moved t inst)))
      (place + (length inst.operands + 1)) insts

  from-append : (types : NamedTypes) (xs ys : List RawInst) → types_from numbers packed types (xs ++ ys) ≡ types_from numbers packed (types_from numbers packed types xs) ys
  from-append types [] ys = refl
  from-append types (x ∷ xs) ys = from-append (types_behind numbers packed types x) xs ys

  -- an instruction that declares no type
  abbrev IsNone : RawInst → Type 0
  IsNone inst = (places : ℕ → Option TyId) → type_by places numbers packed (opcode_of inst.op) inst.operands ≡ None

  none-behind : (types : NamedTypes) (inst : RawInst) → IsNone inst → types_behind numbers packed types inst ≡ types
  none-behind types inst none = ap (with_type types (name_of inst)) (none (place_of types.names))

  from-none : (types : NamedTypes) (xs : List RawInst) → Each IsNone xs → types_from numbers packed types xs ≡ types
  from-none types [] none = refl
  from-none types (x ∷ xs) none = ap (λ t. types_from numbers packed t xs) (none-behind types x none.0) ∙ from-none types xs none.1

  from-behind : (types : NamedTypes) (xs ys : List RawInst) → Each IsNone xs → types_from numbers packed types (xs ++ ys) ≡ types_from numbers packed types ys
  from-behind types xs ys none = from-append types xs ys ∙ ap (λ t. types_from numbers packed t ys) (from-none types xs none)

  from-before : (types : NamedTypes) (xs ys : List RawInst) → Each IsNone ys → types_from numbers packed types (xs ++ ys) ≡ types_from numbers packed types xs
  from-before types xs ys none = from-append types xs ys ∙ from-none (types_from numbers packed types xs) ys none

  -- a test that refuses each opcode of a type
  passes-none : (test : ℕ → Bool) → test (number_of op.TypeVoid) ≡ false → test (number_of op.TypeBool) ≡ false → test (number_of op.TypeInt) ≡ false → test (number_of op.TypeVector) ≡ false
      → test (number_of op.TypeArray) ≡ false → test (number_of op.TypeStruct) ≡ false → test (number_of op.TypePointer) ≡ false → test (number_of op.TypeFunction) ≡ false
      → (inst : RawInst) → Passes test inst → IsNone inst
  passes-none test h1 h2 h3 h4 h5 h6 h7 h8 inst passes places = by_opcode (opcode_of inst.op) (λ opcode e. e)
    where
      by_opcode : (o : Option Opcode) → ((opcode : Opcode) → o ≡ Some opcode → opcode_of inst.op ≡ Some opcode) → type_by places numbers packed o inst.operands ≡ None
      by_opcode None is = refl
      by_opcode (Some op.TypeVoid) is = refused test op.TypeVoid inst.op h1 passes (is op.TypeVoid refl)
      by_opcode (Some op.TypeBool) is = refused test op.TypeBool inst.op h2 passes (is op.TypeBool refl)
      by_opcode (Some op.TypeInt) is = refused test op.TypeInt inst.op h3 passes (is op.TypeInt refl)
      by_opcode (Some op.TypeVector) is = refused test op.TypeVector inst.op h4 passes (is op.TypeVector refl)
      by_opcode (Some op.TypeArray) is = refused test op.TypeArray inst.op h5 passes (is op.TypeArray refl)
      by_opcode (Some op.TypeStruct) is = refused test op.TypeStruct inst.op h6 passes (is op.TypeStruct refl)
      by_opcode (Some op.TypePointer) is = refused test op.TypePointer inst.op h7 passes (is op.TypePointer refl)
      by_opcode (Some op.TypeFunction) is = refused test op.TypeFunction inst.op h8 passes (is op.TypeFunction refl)
      by_opcode (Some opcode) is = refl

  -- types among other declarations
  abbrev DeclaresNone : Declared → Type 0
  DeclaresNone declared = IsNone declared.inst

  put-first : (first : Declared) (rest : List Declared → List Declared) (F : NamedTypes → NamedTypes)
      → ((zs : List Declared) → Each DeclaresNone zs → (types : NamedTypes) → types_from numbers packed types (map inst_of (rest zs)) ≡ F types)
      → (ys : List Declared) → Each DeclaresNone ys → (types : NamedTypes)
      → types_from numbers packed types (map inst_of (put_before first rest ys)) ≡ F (types_behind numbers packed types first.inst)
  put-first first rest F more [] none types = more [] none (types_behind numbers packed types first.inst)
  put-first first rest F more (other ∷ others) none types =
      by_test (nat_lt other.id first.id) (put-first first rest F more others none.1 types)
    where
      by_test : (b : Bool) → types_from numbers packed types (map inst_of (put_before first rest others)) ≡ F (types_behind numbers packed types first.inst)
          → types_from numbers packed types (map inst_of (if b then other ∷ put_before first rest others else first ∷ rest (other ∷ others))) ≡ F (types_behind numbers packed types first.inst)
      by_test true behind = ap (λ t. types_from numbers packed t (map inst_of (put_before first rest others))) (none-behind types other.inst none.0) ∙ behind
      by_test false behind = more (other ∷ others) none (types_behind numbers packed types first.inst)

  merged-types : (xs ys : List Declared) → Each DeclaresNone ys → (types : NamedTypes)
      → types_from numbers packed types (map inst_of (merged xs ys)) ≡ types_from numbers packed types (map inst_of xs)
  merged-types [] ys none types = from-none types (map inst_of ys) (insts-each IsNone ys none)
  merged-types (x ∷ xs) ys none types =
      put-first x (merged xs) (λ t. types_from numbers packed t (map inst_of xs)) (λ zs each t. merged-types xs zs each t) ys none types

  -- one type, behind those before it
  module _ (names : List TypeName) where
    abbrev says : TypeName → Ty → RawInst → Type 0
    says name type inst = name_of inst ≡ name_unplaced name

    named-back : (name : TypeName) (type : Ty) → IsNamed name type → IfSome (type_spelled names name type) (says name type)
    named-back name ty.Void e = ap (λ l. let n : TypeName = record { id = name.id; length = l; place = 0 } in n) (sym e)
    named-back name ty.Bool e = ap (λ l. let n : TypeName = record { id = name.id; length = l; place = 0 } in n) (sym e)
    named-back name (ty.Int width) e = ap (λ l. let n : TypeName = record { id = name.id; length = l; place = 0 } in n) (sym e)
    named-back name (ty.Vector part lanes) e = ap (λ l. let n : TypeName = record { id = name.id; length = l; place = 0 } in n) (sym e)
    named-back name (ty.Array part count) e =
        ap (λ l. let n : TypeName = record { id = name.id; length = Some (unwrap_or l 0); place = 0 } in n) e.1
        ∙ ap (λ l. let n : TypeName = record { id = name.id; length = l; place = 0 } in n) (sym e.1)
    named-back name (ty.Struct members is_packed) e = ap (λ l. let n : TypeName = record { id = name.id; length = l; place = 0 } in n) (sym e)
    named-back name (ty.Pointer class pointee) e = ap (λ l. let n : TypeName = record { id = name.id; length = l; place = 0 } in n) (sym e)
    named-back name (ty.Function given params) e = ap (λ l. let n : TypeName = record { id = name.id; length = l; place = 0 } in n) (sym e)
    named-back name ty.Other e = absurd e

    is-spelled : (name : TypeName) (type : Ty) → IsNamed name type → (inst : RawInst) × (type_spelled names name type ≡ Some inst)
    is-spelled name ty.Void e = (_, refl)
    is-spelled name ty.Bool e = (_, refl)
    is-spelled name (ty.Int width) e = (_, refl)
    is-spelled name (ty.Vector part lanes) e = (_, refl)
    is-spelled name (ty.Array part count) e = (_, refl)
    is-spelled name (ty.Struct members is_packed) e = (_, refl)
    is-spelled name (ty.Pointer class pointee) e = (_, refl)
    is-spelled name (ty.Function given params) e = (_, refl)
    is-spelled name ty.Other e = absurd e

    abbrev table_with : PointerWidth → List TypeName → List Ty → NamedTypes
    table_with pointer done types = record { table = record { pointer = pointer; types = types }; names = map name_unplaced done }

    one-type : (pointer : PointerWidth) (done : List TypeName) (types : List Ty) (name : TypeName) (type : Ty) → IsNamed name type
        → IsTold names (place_of done) numbers packed name type
        → types_from numbers packed (table_with pointer done types) (map inst_of (type_declared names (name, type))) ≡ table_with pointer (done ++ name ∷ []) (types ++ type ∷ [])
    one-type pointer done types name type is told =
        let found = is-spelled name type is in
        let inst = found.0 in
        let same : name_of inst ≡ name_unplaced name = subst (λ o. IfSome o (says name type)) found.1 (named-back name type is) in
        let read : type_by (place_of done) numbers packed (opcode_of inst.op) inst.operands ≡ Some type =
        subst (λ o. IfSome o (IsReadAs names (place_of done) numbers packed type)) found.1 (read-back names (place_of done) numbers packed name type told) in
        let there : type_by (place_of (map name_unplaced done)) numbers packed (opcode_of inst.op) inst.operands ≡ Some type =
        ap (λ places. type_by places numbers packed (opcode_of inst.op) inst.operands) (sym (places-moved done)) ∙ read in
        ap (λ o. types_from numbers packed (table_with pointer done types) (map inst_of (map (declared_as name.id) (option_to_list o)))) found.1
        ∙ (ap₂ (with_type (table_with pointer done types)) same there
        ∙ ap (λ ns. let t : NamedTypes = record { table = record { pointer = pointer; types = types ++ type ∷ [] }; names = ns } in t)
        (sym (map-append name_unplaced done (name ∷ []))))

    all-types : (pointer : PointerWidth) (done rest : List TypeName) (types more : List Ty) → length rest ≡ length more
        → ((k : ℕ) (name : TypeName) (type : Ty) → slice_get rest k ≡ Some name → slice_get more k ≡ Some type → IsNamed name type)
        → ((k : ℕ) (name : TypeName) (type : Ty) → slice_get rest k ≡ Some name → slice_get more k ≡ Some type → IsTold names (place_of (done ++ take k rest)) numbers packed name type)
        → types_from numbers packed (table_with pointer done types) (map inst_of (flat_map (type_declared names) (zip rest more))) ≡ table_with pointer (done ++ rest) (types ++ more)
    all-types pointer done [] types [] e named told = ap₂ (table_with pointer) (sym (append-nil done)) (sym (append-nil types))
    all-types pointer done [] types (type ∷ more) e named told = absurd (omega (arith, e))
    all-types pointer done (name ∷ rest) types [] e named told = absurd (omega (arith, e))
    all-types pointer done (name ∷ rest) types (type ∷ more) e named told =
        let first = map inst_of (type_declared names (name, type)) in
        ap (types_from numbers packed (table_with pointer done types)) (map-append inst_of (type_declared names (name, type)) (flat_map (type_declared names) (zip rest more)))
        ∙ (from-append (table_with pointer done types) first (map inst_of (flat_map (type_declared names) (zip rest more)))
        ∙ (ap (λ t. types_from numbers packed t (map inst_of (flat_map (type_declared names) (zip rest more))))
        (one-type pointer done types name type (named 0 name type refl refl) (subst (λ ns. IsTold names (place_of ns) numbers packed name type) (append-nil done) (told 0 name type refl refl)))
        ∙ (all-types pointer (done ++ name ∷ []) rest (types ++ type ∷ []) more (omega (arith, e)) (λ k n t p q. named (suc k) n t p q)
        (λ k n t p q. subst (λ ns. IsTold names (place_of ns) numbers packed n t) (sym (append_assoc done (name ∷ []) (take k rest))) (told (suc k) n t p q))
        ∙ ap₂ (table_with pointer) (append_assoc done (name ∷ []) rest) (append_assoc types (type ∷ []) more))))

twice : (names : List TypeName) → map name_unplaced (map name_unplaced names) ≡ map name_unplaced names
twice [] = refl
twice (name ∷ names) = ap (λ rest. name_unplaced name ∷ rest) (twice names)

pub types-are-built : TypesAreBuiltAgain
unfolding types_of
types-are-built m bodies has =
    let insts = placed 5 (sections m) in
    let numbers = constant_number insts in
    let packed = is_packed insts in
    let start = no_types m.types.table.pointer in
    let types = types_declared m.types in
    let constants = map constant_declared m.constants in
    let variables = map variable_declared m.variables in
    let Nothing : RawInst → Type 0 = IsNone numbers packed in
    from-moved numbers packed start start refl 5 (sections m)
    ∙ (ap types_unplaced
    (from-behind numbers packed start (preamble m) _ (each-weaker (Passes in_preamble) Nothing (passes-none numbers packed in_preamble refl refl refl refl refl refl refl refl) (preamble m) (preamble-passes m))
    ∙ (from-behind numbers packed start (debug_section m) _ (each-weaker (Passes in_debug) Nothing (passes-none numbers packed in_debug refl refl refl refl refl refl refl refl) (debug_section m) (debug-passes m))
    ∙ (from-behind numbers packed start (annotations m) _ (each-weaker (Passes in_annotations) Nothing (passes-none numbers packed in_annotations refl refl refl refl refl refl refl refl) (annotations m) (annotations-pass m))
    ∙ (from-before numbers packed start (global_section m) (function_section m) (each-weaker (Passes in_functions) Nothing (passes-none numbers packed in_functions refl refl refl refl refl refl refl refl) (function_section m) (functions-pass m bodies))
    ∙ (merged-types numbers packed (merged types constants) variables
    (each-weaker (Declares in_variables) (DeclaresNone numbers packed) (λ d is. passes-none numbers packed in_variables refl refl refl refl refl refl refl refl d.inst is) variables (variables-declare m)) start
    ∙ (merged-types numbers packed types constants
    (each-weaker (Declares in_constants) (DeclaresNone numbers packed) (λ d is. passes-none numbers packed in_constants refl refl refl refl refl refl refl refl d.inst is) constants (constants-declare in_constants (λ opcode is. is) m)) start
    ∙ all-types numbers packed m.types.names m.types.table.pointer [] m.types.names [] m.types.table.types has.as_many has.named has.told))))))
    ∙ ap (λ ns. let t : NamedTypes = record { table = m.types.table; names = ns } in t) (twice m.types.names))
