-- Places where a rule is broken, and the least of them.
use Rattle.std.specs.Prelude.{ℕ, Bool, true, false, List, [], ◌∷◌, ◌++◌, Option, Some, None, min}
use Rattle.spv_codec.specs.declared.module.RawInst.{RawInst}

-- a place, where the rule is broken there
abbrev pub place_if : Bool → ℕ → List ℕ
place_if true place = place ∷ []
place_if false place = []

-- the places of the instructions that break a rule, as a test of those before an instruction and of the instruction itself says, behind
-- some others
abbrev pub places_behind : (List RawInst → RawInst → Bool) → List RawInst → List RawInst → List ℕ
places_behind is_broken before [] = []
places_behind is_broken before (inst ∷ insts) =
    place_if (is_broken before inst) inst.place ++ places_behind is_broken (before ++ inst ∷ []) insts

abbrev pub places_where : (List RawInst → RawInst → Bool) → List RawInst → List ℕ
places_where is_broken insts = places_behind is_broken [] insts

-- the lesser of two places, where both are there
abbrev pub lesser : Option ℕ → Option ℕ → Option ℕ
lesser None second = second
lesser (Some first) None = Some first
lesser (Some first) (Some second) = Some (min first second)

-- the least place so far, with one more where the rule is broken there
abbrev pub told : Option ℕ → Bool → ℕ → Option ℕ
told least true place = lesser least (Some place)
told least false place = least
