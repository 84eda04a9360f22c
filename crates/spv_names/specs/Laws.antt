-- What holds of every list of instructions.
use Rattle.std.specs.Prelude.{◌≡◌, ◌↔◌, ℕ, List, [], ◌∷◌, ◌++◌}
use Rattle.spv_codec.specs.declared.module.RawInst.{RawInst}
use Rattle.spv_names.specs.Functions.{Shape, Begins, function_list, function_places, function_section, parts_of}

-- the function section breaks no rule of its form exactly where its parts are those of a list of functions
abbrev pub FunctionsAreListed : Type 0
FunctionsAreListed =
    (insts : List RawInst) (words : ℕ)
    → (function_places insts words ≡ []) ↔ ((shapes : List Shape) × (parts_of (function_section insts) ≡ function_list shapes))

-- the place that is told of it is that of the first instruction with which it no longer begins a list of functions
abbrev pub MisfitIsFirst : Type 0
MisfitIsFirst =
    (insts before after : List RawInst) (inst : RawInst) (words : ℕ) → function_section insts ≡ before ++ inst ∷ after
    → Begins (parts_of before) → (Begins (parts_of (before ++ inst ∷ [])) → ⊥)
    → function_places insts words ≡ inst.place ∷ []

-- and where it begins one but is none, the number of words
abbrev pub UnfinishedIsAtTheEnd : Type 0
UnfinishedIsAtTheEnd =
    (insts : List RawInst) (words : ℕ) → Begins (parts_of (function_section insts))
    → (((shapes : List Shape) × (parts_of (function_section insts) ≡ function_list shapes)) → ⊥)
    → function_places insts words ≡ words ∷ []
