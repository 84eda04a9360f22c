-- What stands before the functions of a module, and what stands from the first one on.
use Rattle.std.proofs.Common.{◌≡◌, ◌≢◌, ℕ, ◌+◌, ◌==◌, Bool, true, false, List, [], ◌∷◌, ◌++◌, All, map, length, Option, refl, ap, sym, ◌∙◌, append_assoc, eqb-true}
use Rattle.std.specs.Prelude.{if◌then◌else◌}
use Rattle.std.specs.List.{flat_map, zip}
use Rattle.std.proofs.lemmas.Bool.{false≢true}
use Rattle.std.proofs.lemmas.List.Elements.{All-head, All-tail}
use Rattle.inst_walk.specs.declared.body.Body.{Body}
use Rattle.kern_types.specs.declared.class.Class.{Class}
use Rattle.kern_types.specs.declared.class.Class.TheVariants as class
use Rattle.spv_codec.specs.declared.module.RawInst.{RawInst}
use Rattle.spv_layout.specs.declared.opcode.Opcode.{Opcode}
use Rattle.spv_layout.specs.declared.opcode.Opcode.TheVariants as op
use Rattle.spv_layout.specs.Forms.{number_of}
use Rattle.spv_module.specs.declared.declared.Declared.{Declared}
use Rattle.spv_module.specs.declared.inst.SpvInst.{SpvInst}
use Rattle.spv_module.specs.declared.module.Function.{Function}
use Rattle.spv_module.specs.declared.module.SpvModule.{SpvModule}
use Rattle.spv_module.specs.declared.module.Variable.{Variable}
use Rattle.spv_module.specs.Sections.{placed, sections, preamble, debug_section, annotations, global_section, declarations, merged, types_declared, constant_declared, variable_declared, body_spelled}
use Rattle.spv_module.specs.Sections.{function_section as functions_written}
use Rattle.spv_module.specs.Spelled.{spelled, class_number, initializer_words}
use Rattle.spv_names.specs.Functions.{function_section}
use Rattle.spv_sections.specs.Standing.{standing_of, begins_functions}
use Rattle.spv_build.specs.Modules.{before_functions}
use Rattle.spv_round_trip.specs.Writable.{IsOutside}
use Rattle.spv_round_trip.proofs.Lists.{Each, each-append, each-weaker}
use Rattle.spv_round_trip.proofs.SectionParts.{is_among, Passes, Declares, in_preamble, in_debug, in_annotations, in_types, in_constants, type_opcodes, constant_opcodes, preamble-passes, debug-passes, annotations-pass, types-declare, constants-declare, insts-each, merged-each}

-- an instruction that stands before the functions
abbrev pub IsBefore : RawInst → Type 0
IsBefore inst = begins_functions inst ≡ false

abbrev raw : ℕ → List ℕ → RawInst
raw number words = record { op = number; place = 0; operands = words }

abbrev StandsBefore : Opcode → Type 0
StandsBefore opcode = (words : List ℕ) → IsBefore (raw (number_of opcode) words)

among-before : (opcodes : List Opcode) → Each StandsBefore opcodes → (inst : RawInst) → is_among opcodes inst.op ≡ true → IsBefore inst
unfolding standing_of
among-before [] stand inst is = absurd (false≢true is)
among-before (opcode ∷ opcodes) stand inst is =
    by_test (inst.op == number_of opcode) (λ e. eqb-true inst.op (number_of opcode) e) (among-before opcodes stand.1 inst) is
  where
    by_test : (b : Bool) → (b ≡ true → inst.op ≡ number_of opcode) → (is_among opcodes inst.op ≡ true → IsBefore inst)
        → (if b then true else is_among opcodes inst.op) ≡ true → IsBefore inst
    by_test true same rest e = ap (λ n. begins_functions (record inst { op = n })) (same refl) ∙ stand.0 inst.operands
    by_test false same rest e = rest e

preamble-before : (inst : RawInst) → Passes in_preamble inst → IsBefore inst
unfolding standing_of
preamble-before inst is =
    among-before (op.Capability ∷ op.Extension ∷ op.ExtInstImport ∷ op.MemoryModel ∷ op.EntryPoint ∷ op.ExecutionMode ∷ [])
    (λ ws. refl, (λ ws. refl, (λ ws. refl, (λ ws. refl, (λ ws. refl, (λ ws. refl, tt)))))) inst is

debug-before : (inst : RawInst) → Passes in_debug inst → IsBefore inst
unfolding standing_of
debug-before inst is = among-before (op.String ∷ op.Source ∷ []) (λ ws. refl, (λ ws. refl, tt)) inst is

annotations-before : (inst : RawInst) → Passes in_annotations inst → IsBefore inst
unfolding standing_of
annotations-before inst is =
    among-before (op.Decorate ∷ op.MemberDecorate ∷ op.DecorationGroup ∷ op.GroupDecorate ∷ []) (λ ws. refl, (λ ws. refl, (λ ws. refl, (λ ws. refl, tt)))) inst is

types-before : (inst : RawInst) → Passes in_types inst → IsBefore inst
unfolding standing_of
types-before inst is =
    among-before type_opcodes (λ ws. refl, (λ ws. refl, (λ ws. refl, (λ ws. refl, (λ ws. refl, (λ ws. refl, (λ ws. refl, (λ ws. refl, tt)))))))) inst is

constants-before : (inst : RawInst) → Passes in_constants inst → IsBefore inst
unfolding standing_of
constants-before inst is =
    among-before constant_opcodes (λ ws. refl, (λ ws. refl, (λ ws. refl, (λ ws. refl, (λ ws. refl, tt))))) inst is

variable-before : (type id : ℕ) (initializer : Option ℕ) (c : Class) → c ≢ class.Private
    → IsBefore (spelled op.Variable (type ∷ id ∷ class_number c ∷ initializer_words initializer))
unfolding standing_of
variable-before type id initializer class.Private other = absurd (other refl)
variable-before type id initializer class.Global other = refl
variable-before type id initializer class.Constant other = refl
variable-before type id initializer class.Local other = refl
variable-before type id initializer class.Generic other = refl
variable-before type id initializer class.Input other = refl

variables-before : (variables : List Variable) → All IsOutside variables → Each (λ d. IsBefore d.inst) (map variable_declared variables)
variables-before [] all = tt
variables-before (v ∷ vs) all = (variable-before v.ty v.id v.initializer v.class (All-head IsOutside v vs all), variables-before vs (All-tail IsOutside v vs all))

module _ (m : SpvModule) where
  pub globals-before : All IsOutside m.variables → Each IsBefore (global_section m)
  globals-before all =
      let Before : Declared → Type 0 = λ d. IsBefore d.inst in
      insts-each IsBefore (declarations m)
      (merged-each Before (merged (types_declared m.types) (map constant_declared m.constants)) (map variable_declared m.variables)
      (merged-each Before (types_declared m.types) (map constant_declared m.constants)
      (each-weaker (Declares in_types) Before (λ d is. types-before d.inst is) (types_declared m.types) (types-declare in_types (λ opcode is. is) m))
      (each-weaker (Declares in_constants) Before (λ d is. constants-before d.inst is) (map constant_declared m.constants) (constants-declare in_constants (λ opcode is. is) m)))
      (variables-before m.variables all))

  -- the sections before the functions
  abbrev pub front : List RawInst
  front = preamble m ++ (debug_section m ++ (annotations m ++ global_section m))

  pub front-before : All IsOutside m.variables → Each IsBefore front
  front-before all =
      each-append IsBefore (preamble m) _ (each-weaker (Passes in_preamble) IsBefore preamble-before (preamble m) (preamble-passes m))
      (each-append IsBefore (debug_section m) _ (each-weaker (Passes in_debug) IsBefore debug-before (debug_section m) (debug-passes m))
      (each-append IsBefore (annotations m) _ (each-weaker (Passes in_annotations) IsBefore annotations-before (annotations m) (annotations-pass m))
      (globals-before all)))

  pub sections-front : sections m ≡ front ++ functions_written m
  sections-front =
      let functions = functions_written m in
      ap (λ xs. preamble m ++ xs)
      (ap (λ xs. debug_section m ++ xs) (sym (append_assoc (annotations m) (global_section m) functions))
      ∙ sym (append_assoc (debug_section m) (annotations m ++ global_section m) functions))
      ∙ sym (append_assoc (preamble m) (debug_section m ++ (annotations m ++ global_section m)) functions)

-- the place behind some instructions
abbrev pub place_behind : ℕ → List RawInst → ℕ
place_behind place [] = place
place_behind place (inst ∷ insts) = place_behind (place + (length inst.operands + 1)) insts

-- instructions from a function on, or none
abbrev pub IsFunctions : List RawInst → Type 0
IsFunctions [] = Unit {0}
IsFunctions (inst ∷ insts) = begins_functions inst ≡ true

section-here : (place : ℕ) (insts : List RawInst) → IsFunctions insts → function_section (placed place insts) ≡ placed place insts
unfolding standing_of
section-here place [] is = refl
section-here place (inst ∷ insts) is = ap (λ b. if b then placed place (inst ∷ insts) else function_section (placed (place + (length inst.operands + 1)) insts)) is

pub section-behind : (place : ℕ) (xs ys : List RawInst) → Each IsBefore xs → IsFunctions ys → function_section (placed place (xs ++ ys)) ≡ placed (place_behind place xs) ys
unfolding standing_of
section-behind place [] ys before is = section-here place ys is
section-behind place (x ∷ xs) ys before is =
    ap (λ b. if b then placed place (x ∷ (xs ++ ys)) else function_section (placed (place + (length x.operands + 1)) (xs ++ ys))) before.0
    ∙ section-behind (place + (length x.operands + 1)) xs ys before.1 is

before-here : (place : ℕ) (insts : List RawInst) → IsFunctions insts → before_functions (placed place insts) ≡ []
unfolding standing_of
before-here place [] is = refl
before-here place (inst ∷ insts) is =
    ap (λ b. if b then [] else record inst { place = place } ∷ before_functions (placed (place + (length inst.operands + 1)) insts)) is

pub front-placed : (place : ℕ) (xs ys : List RawInst) → Each IsBefore xs → IsFunctions ys → before_functions (placed place (xs ++ ys)) ≡ placed place xs
unfolding standing_of
front-placed place [] ys before is = before-here place ys is
front-placed place (x ∷ xs) ys before is =
    ap (λ b. if b then [] else record x { place = place } ∷ before_functions (placed (place + (length x.operands + 1)) (xs ++ ys))) before.0
    ∙ ap (λ rest. record x { place = place } ∷ rest) (front-placed (place + (length x.operands + 1)) xs ys before.1 is)

written-functions : (functions : List Function) (bodies : List (Body SpvInst ℕ)) → IsFunctions (flat_map body_spelled (zip functions bodies))
unfolding standing_of
written-functions [] bodies = tt
written-functions (function ∷ functions) [] = tt
written-functions (function ∷ functions) (body ∷ bodies) = refl

pub are-functions : (m : SpvModule) → IsFunctions (functions_written m)
are-functions m = written-functions m.functions m.bodies
