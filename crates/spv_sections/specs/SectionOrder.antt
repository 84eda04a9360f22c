-- The places at which the order of the sections is broken (SPIR-V 1.2, 2.4 "Logical Layout of a Module").
use Rattle.std.specs.Prelude.{ℕ, ◌==◌, nat_lt, max, Bool, true, false, ◌&&◌, ◌||◌, not, List, [], ◌∷◌, ◌++◌, Option, Some, None}
use Rattle.std.specs.List.{list_any}
use Rattle.spv_codec.specs.declared.module.RawInst.{RawInst}
use Rattle.spv_layout.specs.declared.opcode.Opcode.TheVariants as op
use Rattle.spv_layout.specs.Forms.{number_of}
use Rattle.spv_sections.specs.declared.standing.Section.TheVariants as section
use Rattle.spv_sections.specs.declared.standing.Standing.{Standing}
use Rattle.spv_sections.specs.declared.standing.Standing.TheVariants.{Anywhere, LastTwo, In}
use Rattle.spv_sections.specs.Places.{place_if, places_where}
use Rattle.spv_sections.specs.Standing.{rank_of, standing_of, begins_functions}

-- the rank of the section that an instruction belongs to, where the function section has begun or not
abbrev pub rank_in : Bool → Standing → Option ℕ
rank_in begun Anywhere = None
rank_in true LastTwo = Some (rank_of section.Functions)
rank_in false LastTwo = Some (rank_of section.Declarations)
rank_in begun (In section) = Some (rank_of section)

-- whether the function section has begun behind these instructions
abbrev pub has_begun : List RawInst → Bool
has_begun before = list_any begins_functions before

-- the rank of an instruction's section, behind others
abbrev pub rank_behind : List RawInst → RawInst → Option ℕ
rank_behind before inst = rank_in (has_begun before) (standing_of inst)

-- the ranks of the sections that instructions belong to, where the function section has begun before them or not
abbrev pub ranks : Bool → List RawInst → List (Option ℕ)
ranks begun [] = []
ranks begun (inst ∷ insts) = rank_in begun (standing_of inst) ∷ ranks (begun || begins_functions inst) insts

-- whether a section is one that comes before that of another instruction
abbrev pub is_behind : ℕ → Option ℕ → Bool
is_behind other None = false
is_behind other (Some rank) = nat_lt rank other

abbrev pub is_later : Option ℕ → Option ℕ → Bool
is_later rank None = false
is_later rank (Some other) = is_behind other rank

-- whether an instruction stands behind one of a later section
abbrev pub is_misplaced : List RawInst → RawInst → Bool
is_misplaced before inst = list_any (is_later (rank_behind before inst)) (ranks false before)

-- the higher of two ranks
abbrev pub risen : ℕ → Option ℕ → ℕ
risen highest None = highest
risen highest (Some rank) = max highest rank

abbrev pub is_model : RawInst → Bool
is_model inst = inst.op == number_of op.MemoryModel

-- whether an instruction gives the memory model a second time
abbrev pub gives_again : List RawInst → RawInst → Bool
gives_again before inst = list_any is_model before && is_model inst

-- the places at which the order of the sections is broken, in a module of so many words. A memory model that is missing is missed at
-- its end.
abbrev pub section_places : List RawInst → ℕ → List ℕ
section_places insts words =
    places_where is_misplaced insts ++ (places_where gives_again insts ++ place_if (not (list_any is_model insts)) words)
