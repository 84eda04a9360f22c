-- The places at which ids break a rule (SPIR-V 1.2, 2.16.1 "Universal Validation Rules"). The first definition of an id counts.
use Rattle.std.specs.Prelude.{ℕ, ◌==◌, nat_le, Bool, true, false, ◌&&◌, ◌||◌, not, if◌then◌else◌, List, [], take, Option, Some, None}
use Rattle.std.specs.Option.{is_some}
use Rattle.std.specs.List.{list_any}
use Rattle.spv_codec.specs.declared.module.RawInst.{RawInst}
use Rattle.spv_layout.specs.declared.opcode.Opcode.TheVariants as op
use Rattle.spv_layout.specs.Forms.{number_of}
use Rattle.spv_names.specs.declared.definitions.Definition.{Definition}
use Rattle.spv_sections.specs.declared.standing.Section.TheVariants as section
use Rattle.spv_names.specs.Definitions.{result_of, definition_of, entry_of, function_after}
use Rattle.spv_sections.specs.Places.{places_where}
use Rattle.spv_sections.specs.SectionOrder.{rank_behind}
use Rattle.spv_sections.specs.Standing.{rank_of}
use Rattle.spv_names.specs.Uses.{uses_of}

-- whether an id is 0 or not below the bound
abbrev pub is_outside : ℕ → ℕ → Bool
is_outside bound id = id == 0 || nat_le bound id

-- whether an instruction has a result, and this is so of it
abbrev pub is_result : (ℕ → Bool) → Option ℕ → Bool
is_result test None = false
is_result test (Some id) = test id

-- whether an id of an instruction, behind others of a module, is outside the bound. Of a dropped instruction only the result is looked at.
abbrev pub has_outside : List RawInst → ℕ → List RawInst → RawInst → Bool
has_outside insts bound before inst =
    is_result (is_outside bound) (result_of inst) || list_any (is_outside bound) (uses_of insts before inst)

abbrev pub bound_places : List RawInst → ℕ → List ℕ
bound_places insts bound = places_where (has_outside insts bound) insts

-- whether some instruction has an id as its result
abbrev pub is_defined : List RawInst → ℕ → Bool
is_defined insts id = is_some (definition_of insts id)

-- whether an instruction defines an id that one before it has defined
abbrev pub defines_again : List RawInst → RawInst → Bool
defines_again before inst = is_result (is_defined before) (result_of inst)

abbrev pub twice_places : List RawInst → List ℕ
twice_places insts = places_where defines_again insts

-- whether two instructions belong to two functions
abbrev pub are_apart : Option ℕ → Option ℕ → Bool
are_apart (Some function) (Some other) = not (function == other)
are_apart function other = false

-- whether an id is defined nowhere, or in another function than this one
abbrev pub is_elsewhere : Option ℕ → Option Definition → Bool
is_elsewhere function None = true
is_elsewhere function (Some definition) = are_apart function definition.function

-- whether an instruction uses such an id
abbrev pub uses_unknown : List RawInst → List RawInst → RawInst → Bool
uses_unknown insts before inst = list_any (λ id. is_elsewhere (function_after 0 None before) (entry_of insts id)) (uses_of insts before inst)

abbrev pub unknown_places : List RawInst → List ℕ
unknown_places insts = places_where (uses_unknown insts) insts

-- whether a section is that of the declarations
abbrev pub is_declarations : Option ℕ → Bool
is_declarations None = false
is_declarations (Some rank) = rank == rank_of section.Declarations

-- which of the ids that an instruction of a section uses have to be defined before it: all of a declaration's, and an OpSwitch's selector
abbrev pub ordered_ids : Option ℕ → ℕ → List ℕ → List ℕ
ordered_ids section number uses =
    if is_declarations section then uses else (if number == number_of op.Switch then take 1 uses else [])

-- whether an id is defined, but not before an instruction
abbrev pub is_defined_later : List RawInst → List RawInst → ℕ → Bool
is_defined_later insts before id = is_defined insts id && not (is_defined before id)

-- whether an instruction uses such an id where it has to be defined before. What an instruction itself defines isn't defined before it.
abbrev pub uses_later : List RawInst → List RawInst → RawInst → Bool
uses_later insts before inst =
    list_any (is_defined_later insts before) (ordered_ids (rank_behind before inst) inst.op (uses_of insts before inst))

abbrev pub later_places : List RawInst → List ℕ
later_places insts = places_where (uses_later insts) insts
