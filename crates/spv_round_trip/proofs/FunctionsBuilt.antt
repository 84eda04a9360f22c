-- The functions and the variables of a module are read back from its instructions.
use Rattle.std.proofs.Common.{◌≡◌, ℕ, List, [], ◌∷◌, map, length, Some, refl, ap, ◌∙◌, arith}
use Rattle.std.specs.List.{zip}
use Rattle.inst_walk.specs.declared.body.Body.{Body}
use Rattle.spv_codec.specs.declared.module.RawInst.{RawInst}
use Rattle.spv_layout.specs.declared.opcode.Opcode.TheVariants as op
use Rattle.spv_module.specs.declared.declared.Declared.{Declared}
use Rattle.spv_module.specs.declared.inst.SpvInst.{SpvInst}
use Rattle.spv_module.specs.declared.module.Function.{Function}
use Rattle.spv_module.specs.declared.module.SpvModule.{SpvModule}
use Rattle.spv_module.specs.declared.module.Variable.{Variable}
use Rattle.spv_module.specs.Modules.{function_moved, body_moved, variable_moved}
use Rattle.spv_module.specs.Sections.{placed, sections, preamble, debug_section, annotations, merged, inst_of, types_declared, constant_declared, variable_declared}
use Rattle.spv_module.specs.Sections.{function_section as functions_written}
use Rattle.spv_module.specs.Spelled.{variable_spelled}
use Rattle.spv_names.specs.Functions.{function_section}
use Rattle.spv_names.specs.Uses.{has_wide}
use Rattle.spv_build.specs.Functions.{read_functions}
use Rattle.spv_build.specs.Items.{items_of, variable_by, variable_of}
use Rattle.spv_build.specs.Laws.{at, function_in, body_in}
use Rattle.spv_build.specs.Modules.{before_functions}
use Rattle.spv_build.proofs.FunctionsBack.{functions-are-back}
use Rattle.spv_build.proofs.ReadBack as known
use Rattle.spv_round_trip.specs.Laws.{FunctionsAreBuiltAgain, VariablesAreBuiltAgain, unplace}
use Rattle.spv_round_trip.specs.Writable.{is_wide_in}
use Rattle.spv_round_trip.proofs.FrontSections.{front, front-before, sections-front, place_behind, section-behind, front-placed, are-functions}
use Rattle.spv_round_trip.proofs.FunctionsMoved.{so_far_moved, functions-moved}
use Rattle.spv_round_trip.proofs.Lists.{each-weaker, each-all, anywhere, IsSilent, items-placed, items-moved, items-each, items-behind}
use Rattle.spv_round_trip.proofs.ListsBack.{said-ignores}
use Rattle.spv_round_trip.proofs.MergedLists.{merged-second}
use Rattle.spv_round_trip.proofs.Natural as natural
use Rattle.spv_round_trip.proofs.SectionParts.{Passes, Declares, in_preamble, in_debug, in_annotations, in_types, in_constants, preamble-passes, debug-passes, annotations-pass, types-declare, constants-declare, merged-each}

wide-anywhere : (m : SpvModule) (inst : RawInst) → is_wide_in m inst ≡ is_wide_in m (at 0 inst)
unfolding has_wide
wide-anywhere m inst = refl

firsts : (functions : List Function) (bodies : List (Body SpvInst ℕ)) → length functions ≡ length bodies → map function_in (zip functions bodies) ≡ functions
firsts [] bodies e = refl
firsts (function ∷ functions) [] e = absurd (omega (arith, e))
firsts (function ∷ functions) (body ∷ bodies) e = ap (λ fs. function ∷ fs) (firsts functions bodies (omega (arith, e)))

seconds : (functions : List Function) (bodies : List (Body SpvInst ℕ)) → length functions ≡ length bodies → map body_in (zip functions bodies) ≡ bodies
seconds [] [] e = refl
seconds [] (body ∷ bodies) e = absurd (omega (arith, e))
seconds (function ∷ functions) [] e = absurd (omega (arith, e))
seconds (function ∷ functions) (body ∷ bodies) e = ap (λ bs. body ∷ bs) (seconds functions bodies (omega (arith, e)))

pub functions-are-built : FunctionsAreBuiltAgain
functions-are-built m outside has =
    let w = is_wide_in m in
    let place = place_behind 5 (front m) in
    let section : function_section (placed 5 (sections m)) ≡ placed place (functions_written m) =
    ap (λ xs. function_section (placed 5 xs)) (sections-front m) ∙ section-behind 5 (front m) (functions_written m) (front-before m outside) (are-functions m) in
    let said = ap (λ xs. so_far_moved (read_functions w xs)) section ∙ functions-moved w (wide-anywhere m) place (functions_written m) in
    let again = functions-are-back w (zip m.functions m.bodies) has.whole in (
      ap (λ s. s.functions) said ∙ ap (map (function_moved unplace)) (again.0 ∙ firsts m.functions m.bodies has.as_many),
      ap (λ s. s.bodies) said ∙ ap (map (body_moved unplace)) (again.1 ∙ seconds m.functions m.bodies has.as_many),
    )

variable-insts : (variables : List Variable) → map inst_of (map variable_declared variables) ≡ map variable_spelled variables
variable-insts [] = refl
variable-insts (v ∷ vs) = ap (λ rest. variable_spelled v ∷ rest) (variable-insts vs)

pub variables-are-built : VariablesAreBuiltAgain
variables-are-built m outside =
    let g = anywhere variable_of in
    let items = map (variable_moved unplace) m.variables in
    let Silent : Declared → Type 0 = λ d. IsSilent g d.inst in
    let types = types_declared m.types in
    let constants = map constant_declared m.constants in
    let ignores = said-ignores op.Variable variable_by in
    ap (λ xs. map (variable_moved unplace) (items_of variable_of (before_functions (placed 5 xs)))) (sections-front m)
    ∙ (ap (λ xs. map (variable_moved unplace) (items_of variable_of xs)) (front-placed 5 (front m) (functions_written m) (front-before m outside) (are-functions m))
    ∙ (items-moved variable_of (variable_moved unplace) natural.variables (placed 5 (front m))
    ∙ (items-placed variable_of 5 (front m)
    ∙ items-behind g (preamble m) _ items (each-weaker (Passes in_preamble) (IsSilent g) (ignores in_preamble refl) (preamble m) (preamble-passes m))
    (items-behind g (debug_section m) _ items (each-weaker (Passes in_debug) (IsSilent g) (ignores in_debug refl) (debug_section m) (debug-passes m))
    (items-behind g (annotations m) _ items (each-weaker (Passes in_annotations) (IsSilent g) (ignores in_annotations refl) (annotations m) (annotations-pass m))
    (merged-second g (merged types constants) (map variable_declared m.variables)
    (merged-each Silent types constants
    (each-weaker (Declares in_types) Silent (λ d is. ignores in_types refl d.inst is) types (types-declare in_types (λ opcode is. is) m))
    (each-weaker (Declares in_constants) Silent (λ d is. ignores in_constants refl d.inst is) constants (constants-declare in_constants (λ opcode is. is) m)))
    ∙ (ap (items_of g) (variable-insts m.variables)
    ∙ items-each g variable_spelled (variable_moved unplace) m.variables
    (each-all (λ v. g (variable_spelled v) ≡ Some (variable_moved unplace v)) (λ v. known.variables (variable_moved unplace v)) m.variables))))))))
