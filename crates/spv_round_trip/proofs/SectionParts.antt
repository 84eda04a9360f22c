-- Which opcodes the instructions of each section have.
use Rattle.std.proofs.Common.{◌≡◌, ℕ, ◌==◌, Bool, true, false, not, List, [], ◌∷◌, ◌++◌, All, map, Option, Some, None, refl, ap, sym, ◌∙◌, eqb-true, inl, inr}
use Rattle.std.specs.Prelude.{nat_lt, if◌then◌else◌}
use Rattle.std.specs.List.{flat_map, zip}
use Rattle.std.specs.Option.{option_to_list}
use Rattle.std.proofs.lemmas.Bool.{false≢true}
use Rattle.std.proofs.lemmas.List.Elements.{All-head, All-tail}
use Rattle.inst_walk.specs.declared.body.Block.{Block}
use Rattle.inst_walk.specs.declared.body.Body.{Body}
use Rattle.kern_types.specs.declared.ty.Ty.{Ty}
use Rattle.kern_types.specs.declared.ty.Ty.TheVariants as ty
use Rattle.spv_codec.specs.declared.module.RawInst.{RawInst}
use Rattle.spv_layout.specs.declared.opcode.Opcode.{Opcode}
use Rattle.spv_layout.specs.declared.opcode.Opcode.TheVariants as op
use Rattle.spv_layout.specs.Forms.{number_of}
use Rattle.spv_module.specs.declared.declared.Declared.{Declared}
use Rattle.spv_module.specs.declared.inst.SpvInst.{SpvInst}
use Rattle.spv_module.specs.declared.module.ConstantValue.{ConstantValue}
use Rattle.spv_module.specs.declared.module.ConstantValue.TheVariants as value
use Rattle.spv_module.specs.declared.module.Decoration.{Decoration}
use Rattle.spv_module.specs.declared.module.Function.{Function}
use Rattle.spv_module.specs.declared.module.SpvModule.{SpvModule}
use Rattle.spv_module.specs.declared.types.TypeName.{TypeName}
use Rattle.spv_module.specs.Sections.{merged, put_before, inst_of, declarations, type_declared, types_declared, constant_declared, variable_declared, block_spelled, body_spelled, preamble, debug_section, annotations, global_section, function_section}
use Rattle.spv_module.specs.Spelled.{capability_spelled, extension_spelled, import_spelled, entry_spelled, mode_spelled, modes_spelled, string_spelled, source_spelled, decoration_by, decoration_spelled, decoration_group_spelled, group_spelled, constant_by, param_spelled}
use Rattle.spv_module.specs.Woven.{inst_spelled}
use Rattle.spv_names.specs.declared.functions.Part.TheVariants as part
use Rattle.spv_names.specs.Functions.{part_of}
use Rattle.spv_sections.specs.Standing.{standing_of}
use Rattle.spv_round_trip.specs.Writable.{IsInBody, HasInsts, HasBlocks, AreInBodies}
use Rattle.spv_round_trip.proofs.Lists.{Each, each-append, each-map, each-flat}

abbrev pub is_among : List Opcode → ℕ → Bool
is_among [] number = false
is_among (opcode ∷ opcodes) number = if number == number_of opcode then true else is_among opcodes number

abbrev pub in_preamble : ℕ → Bool
in_preamble number = is_among (op.Capability ∷ op.Extension ∷ op.ExtInstImport ∷ op.MemoryModel ∷ op.EntryPoint ∷ op.ExecutionMode ∷ []) number

abbrev pub in_debug : ℕ → Bool
in_debug number = is_among (op.String ∷ op.Source ∷ []) number

abbrev pub in_annotations : ℕ → Bool
in_annotations number = is_among (op.Decorate ∷ op.MemberDecorate ∷ op.DecorationGroup ∷ op.GroupDecorate ∷ []) number

abbrev pub type_opcodes : List Opcode
type_opcodes = op.TypeVoid ∷ op.TypeBool ∷ op.TypeInt ∷ op.TypeVector ∷ op.TypeArray ∷ op.TypeStruct ∷ op.TypePointer ∷ op.TypeFunction ∷ []

abbrev pub constant_opcodes : List Opcode
constant_opcodes = op.ConstantTrue ∷ op.ConstantFalse ∷ op.Constant ∷ op.ConstantComposite ∷ op.ConstantNull ∷ []

abbrev pub in_types : ℕ → Bool
in_types number = is_among type_opcodes number

abbrev pub in_constants : ℕ → Bool
in_constants number = is_among constant_opcodes number

abbrev pub in_variables : ℕ → Bool
in_variables number = is_among (op.Variable ∷ []) number

abbrev pub in_globals : ℕ → Bool
in_globals number = is_among (type_opcodes ++ (constant_opcodes ++ (op.Variable ∷ []))) number

-- what can't stand in a function
abbrev pub outside_functions : List Opcode
outside_functions =
    op.Capability ∷ op.Extension ∷ op.ExtInstImport ∷ op.MemoryModel ∷ op.EntryPoint ∷ op.ExecutionMode ∷ op.String ∷ op.Source
    ∷ op.Decorate ∷ op.MemberDecorate ∷ op.DecorationGroup ∷ op.GroupDecorate ∷ (type_opcodes ++ constant_opcodes)

abbrev pub in_functions : ℕ → Bool
in_functions number = not (is_among outside_functions number)

abbrev pub Passes : (ℕ → Bool) → RawInst → Type 0
Passes test inst = test inst.op ≡ true

module _ (m : SpvModule) where
  pub preamble-passes : Each (Passes in_preamble) (preamble m)
  preamble-passes =
      each-append (Passes in_preamble) (map capability_spelled m.capabilities) _ (each-map (Passes in_preamble) capability_spelled (λ c. refl) m.capabilities)
      (each-append (Passes in_preamble) (map extension_spelled m.extensions) _ (each-map (Passes in_preamble) extension_spelled (λ c. refl) m.extensions)
      (each-append (Passes in_preamble) (map import_spelled m.imports) _ (each-map (Passes in_preamble) import_spelled (λ c. refl) m.imports) (
        refl,
        each-append (Passes in_preamble) (map entry_spelled m.entries) _ (each-map (Passes in_preamble) entry_spelled (λ c. refl) m.entries)
            (each-flat (Passes in_preamble) modes_spelled (λ entry. each-map (Passes in_preamble) (mode_spelled entry.function) (λ c. refl) entry.modes) m.entries),
      )))

  pub debug-passes : Each (Passes in_debug) (debug_section m)
  debug-passes =
      each-append (Passes in_debug) (map string_spelled m.strings) _ (each-map (Passes in_debug) string_spelled (λ c. refl) m.strings)
      (each-map (Passes in_debug) source_spelled (λ c. refl) (option_to_list m.source))

  pub annotations-pass : Each (Passes in_annotations) (annotations m)
  annotations-pass =
      each-append (Passes in_annotations) (map decoration_spelled m.decorations) _ (each-map (Passes in_annotations) decoration_spelled (λ d. by_member d.member d) m.decorations)
      (each-append (Passes in_annotations) (map decoration_group_spelled m.decoration_groups) _ (each-map (Passes in_annotations) decoration_group_spelled (λ c. refl) m.decoration_groups)
      (each-map (Passes in_annotations) group_spelled (λ c. refl) m.groups))
    where
      by_member : (member : Option ℕ) (d : Decoration) → Passes in_annotations (decoration_by member d)
      by_member None d = refl
      by_member (Some member) d = refl

-- two lists as one
put-each : (P : Declared → Type 0) (first : Declared) (rest : List Declared → List Declared) → P first
    → ((zs : List Declared) → Each P zs → Each P (rest zs)) → (ys : List Declared) → Each P ys → Each P (put_before first rest ys)
put-each P first rest is more [] each = (is, more [] each)
put-each P first rest is more (other ∷ others) each = by_test (nat_lt other.id first.id) (put-each P first rest is more others each.1)
  where
    by_test : (b : Bool) → Each P (put_before first rest others) → Each P (if b then other ∷ put_before first rest others else first ∷ rest (other ∷ others))
    by_test true behind = (each.0, behind)
    by_test false behind = (is, more (other ∷ others) each)

pub merged-each : (P : Declared → Type 0) (xs ys : List Declared) → Each P xs → Each P ys → Each P (merged xs ys)
merged-each P [] ys first second = second
merged-each P (x ∷ xs) ys first second = put-each P x (merged xs) first.0 (λ zs each. merged-each P xs zs first.1 each) ys second

abbrev pub Declares : (ℕ → Bool) → Declared → Type 0
Declares test declared = Passes test declared.inst

pub insts-each : (P : RawInst → Type 0) (xs : List Declared) → Each (λ d. P d.inst) xs → Each P (map inst_of xs)
insts-each P [] each = tt
insts-each P (x ∷ xs) each = (each.0, insts-each P xs each.1)

-- a test that each opcode of a list passes
pub types-declare : (test : ℕ → Bool) → ((opcode : Opcode) → is_among type_opcodes (number_of opcode) ≡ true → test (number_of opcode) ≡ true) → (m : SpvModule)
    → Each (Declares test) (types_declared m.types)
types-declare test passes m = each-flat (Declares test) (type_declared m.types.names) (λ e. by_type e.0 e.1) (zip m.types.names m.types.table.types)
  where
    by_type : (name : TypeName) (type : Ty) → Each (Declares test) (type_declared m.types.names (name, type))
    by_type name ty.Void = (passes op.TypeVoid refl, tt)
    by_type name ty.Bool = (passes op.TypeBool refl, tt)
    by_type name (ty.Int width) = (passes op.TypeInt refl, tt)
    by_type name (ty.Vector part lanes) = (passes op.TypeVector refl, tt)
    by_type name (ty.Array part count) = (passes op.TypeArray refl, tt)
    by_type name (ty.Struct members packed) = (passes op.TypeStruct refl, tt)
    by_type name (ty.Pointer class pointee) = (passes op.TypePointer refl, tt)
    by_type name (ty.Function given params) = (passes op.TypeFunction refl, tt)
    by_type name ty.Other = tt

pub constants-declare : (test : ℕ → Bool) → ((opcode : Opcode) → is_among constant_opcodes (number_of opcode) ≡ true → test (number_of opcode) ≡ true) → (m : SpvModule)
    → Each (Declares test) (map constant_declared m.constants)
constants-declare test passes m = each-map (Declares test) constant_declared (λ c. by_value c.ty c.id c.value) m.constants
  where
    by_value : (type id : ℕ) (v : ConstantValue) → Passes test (constant_by type id v)
    by_value type id value.True = passes op.ConstantTrue refl
    by_value type id value.False = passes op.ConstantFalse refl
    by_value type id (value.Number low None) = passes op.Constant refl
    by_value type id (value.Number low (Some high)) = passes op.Constant refl
    by_value type id (value.Composite parts) = passes op.ConstantComposite refl
    by_value type id value.Null = passes op.ConstantNull refl

pub variables-declare : (m : SpvModule) → Each (Declares in_variables) (map variable_declared m.variables)
variables-declare m = each-map (Declares in_variables) variable_declared (λ v. refl) m.variables

among-front : (xs ys : List Opcode) (number : ℕ) → is_among xs number ≡ true → is_among (xs ++ ys) number ≡ true
among-front [] ys number is = absurd (false≢true is)
among-front (x ∷ xs) ys number is = by_test (number == number_of x) (among-front xs ys number) is
  where
    by_test : (b : Bool) → (is_among xs number ≡ true → is_among (xs ++ ys) number ≡ true) → (if b then true else is_among xs number) ≡ true
        → (if b then true else is_among (xs ++ ys) number) ≡ true
    by_test true rest e = refl
    by_test false rest e = rest e

among-behind : (xs ys : List Opcode) (number : ℕ) → is_among ys number ≡ true → is_among (xs ++ ys) number ≡ true
among-behind [] ys number is = is
among-behind (x ∷ xs) ys number is = by_test (number == number_of x) (among-behind xs ys number is)
  where
    by_test : (b : Bool) → is_among (xs ++ ys) number ≡ true → (if b then true else is_among (xs ++ ys) number) ≡ true
    by_test true rest = refl
    by_test false rest = rest

pub globals-pass : (m : SpvModule) → Each (Passes in_globals) (global_section m)
globals-pass m =
    insts-each (Passes in_globals) (declarations m)
    (merged-each (Declares in_globals) (merged (types_declared m.types) (map constant_declared m.constants)) (map variable_declared m.variables)
    (merged-each (Declares in_globals) (types_declared m.types) (map constant_declared m.constants)
    (types-declare in_globals (λ opcode is. among-front type_opcodes (constant_opcodes ++ (op.Variable ∷ [])) (number_of opcode) is) m)
    (constants-declare in_globals
    (λ opcode is. among-behind type_opcodes (constant_opcodes ++ (op.Variable ∷ [])) (number_of opcode) (among-front constant_opcodes (op.Variable ∷ []) (number_of opcode) is))
    m))
    (each-map (Declares in_globals) variable_declared (λ v. refl) m.variables))

-- an opcode that stands outside of functions is no part of one
abbrev raw : ℕ → List ℕ → RawInst
raw number words = record { op = number; place = 0; operands = words }

abbrev IsStray : Opcode → Type 0
IsStray opcode = (words : List ℕ) → part_of (raw (number_of opcode) words) ≡ part.Stray

strays : Each IsStray outside_functions
unfolding part_of standing_of
strays = (λ ws. refl, (λ ws. refl, (λ ws. refl, (λ ws. refl, (λ ws. refl, (λ ws. refl, (λ ws. refl, (λ ws. refl, (λ ws. refl, (λ ws. refl, (λ ws. refl, (λ ws. refl, (λ ws. refl, (λ ws. refl, (λ ws. refl, (λ ws. refl, (λ ws. refl, (λ ws. refl, (λ ws. refl, (λ ws. refl, (λ ws. refl, (λ ws. refl, (λ ws. refl, (λ ws. refl, (λ ws. refl, tt)))))))))))))))))))))))))

not-among : (opcodes : List Opcode) → Each IsStray opcodes → (number : ℕ) (words : List ℕ) → (part_of (raw number words) ≡ part.Stray → ⊥) → is_among opcodes number ≡ false
not-among [] stray number words never = refl
not-among (opcode ∷ opcodes) stray number words never =
    by_test (number == number_of opcode) (λ is. eqb-true number (number_of opcode) is) (not-among opcodes stray.1 number words never)
  where
    by_test : (b : Bool) → (b ≡ true → number ≡ number_of opcode) → is_among opcodes number ≡ false → (if b then true else is_among opcodes number) ≡ false
    by_test true is rest = absurd (never (ap (λ n. part_of (raw n words)) (is refl) ∙ stray.0 words))
    by_test false is rest = rest

inner_stray : part.Inner ≡ part.Stray → ⊥
inner_stray e = cc

terminator_stray : part.Terminator ≡ part.Stray → ⊥
terminator_stray e = cc

in-body : (inst : SpvInst) → IsInBody inst → Passes in_functions (inst_spelled inst)
in-body inst is = ap not (not-among outside_functions strays inst.op (inst_spelled inst).operands (never is))
  where
    never : IsInBody inst → part_of (inst_spelled inst) ≡ part.Stray → ⊥
    never (inl inner) e = inner_stray (sym inner ∙ e)
    never (inr last) e = terminator_stray (sym last ∙ e)

insts-pass : (insts : List SpvInst) → All IsInBody insts → Each (Passes in_functions) (map inst_spelled insts)
insts-pass [] all = tt
insts-pass (inst ∷ insts) all = (in-body inst (All-head IsInBody inst insts all), insts-pass insts (All-tail IsInBody inst insts all))

blocks-pass : (blocks : List (Block SpvInst ℕ)) → All HasInsts blocks → Each (Passes in_functions) (flat_map block_spelled blocks)
blocks-pass [] all = tt
blocks-pass (block ∷ blocks) all = (
  refl,
  each-append (Passes in_functions) (map inst_spelled block.insts) (flat_map block_spelled blocks)
      (insts-pass block.insts (All-head HasInsts block blocks all)) (blocks-pass blocks (All-tail HasInsts block blocks all)),
)

body-passes : (function : Function) (body : Body SpvInst ℕ) → HasBlocks body → Each (Passes in_functions) (body_spelled (function, body))
body-passes function body all = (
  refl,
  each-append (Passes in_functions) (map param_spelled function.params) _ (each-map (Passes in_functions) param_spelled (λ p. refl) function.params)
      (each-append (Passes in_functions) (flat_map block_spelled body.blocks) _ (blocks-pass body.blocks all) (refl, tt)),
)

bodies-pass : (functions : List Function) (bodies : List (Body SpvInst ℕ)) → All HasBlocks bodies → Each (Passes in_functions) (flat_map body_spelled (zip functions bodies))
bodies-pass [] bodies all = tt
bodies-pass (function ∷ functions) [] all = tt
bodies-pass (function ∷ functions) (body ∷ bodies) all =
    each-append (Passes in_functions) (body_spelled (function, body)) (flat_map body_spelled (zip functions bodies))
    (body-passes function body (All-head HasBlocks body bodies all)) (bodies-pass functions bodies (All-tail HasBlocks body bodies all))

pub functions-pass : (m : SpvModule) → AreInBodies m → Each (Passes in_functions) (function_section m)
functions-pass m all = bodies-pass m.functions m.bodies all
