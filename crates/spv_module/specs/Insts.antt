-- What the walks see of an instruction, and the instruction with its names replaced.
use Rattle.std.specs.Prelude.{ℕ, Bool, true, false, List, [], ◌∷◌, ◌++◌, Option, Some, None, map, take, drop, slice_get}
use Rattle.inst_walk.specs.Outline.{Outline, Uses, Plain, Phi}
use Rattle.spv_module.specs.declared.inst.SpvInst.{SpvInst}
use Rattle.spv_module.specs.declared.roles.IdRoles.{IdRoles}
use Rattle.spv_module.specs.declared.roles.IdRoles.TheVariants.{Values, Call, Choices, Targets, Labels}
use Rattle.spv_module.specs.Roles.{has_result, has_result_type, roles_of}

-- what stands where a form has it
abbrev pub where_so : Bool → ℕ → Option ℕ
where_so true id = Some id
where_so false id = None

abbrev pub list_where : Bool → ℕ → List ℕ
list_where true id = id ∷ []
list_where false id = []

-- each value of a phi with its predecessor block
abbrev pub pairs_of : List ℕ → List (ℕ × ℕ)
pairs_of (value ∷ parent ∷ ids) = (value, parent) ∷ pairs_of ids
pairs_of (id ∷ []) = []
pairs_of [] = []

-- what is left behind the last pair
abbrev pub unpaired : List ℕ → List ℕ
unpaired (value ∷ parent ∷ ids) = unpaired ids
unpaired (id ∷ []) = id ∷ []
unpaired [] = []

-- the values that are taken
abbrev pub taken_by : IdRoles → List ℕ → Uses ℕ
taken_by Values ids = Plain ids
taken_by Call ids = Plain (drop 1 ids)
taken_by Choices ids = Phi (pairs_of ids)
taken_by (Targets count) ids = Plain (take count ids)
taken_by Labels ids = Plain []

-- the function that is called
abbrev pub called_by : IdRoles → List ℕ → Option ℕ
called_by Call ids = slice_get ids 0
called_by roles ids = None

-- the labels of a terminator
abbrev pub targets_by : IdRoles → List ℕ → List ℕ
targets_by (Targets count) ids = drop count ids
targets_by roles ids = []

-- the labels that are no targets
abbrev pub labels_by : IdRoles → List ℕ → List ℕ
labels_by Choices ids = unpaired ids
labels_by Labels ids = ids
labels_by roles ids = []

abbrev pub outline_by : Bool → Bool → IdRoles → SpvInst → Outline ℕ
outline_by typed defining roles inst = record {
  defines = where_so defining inst.result;
  uses = taken_by roles inst.operands.ids;
  calls = called_by roles inst.operands.ids;
  leads_to = targets_by roles inst.operands.ids;
  others = list_where typed inst.ty ++ labels_by roles inst.operands.ids;
}

-- the names that the instruction holds, each in its role
abbrev pub inst_outline : SpvInst → Outline ℕ
inst_outline inst = outline_by (has_result_type inst.op) (has_result inst.op) (roles_of inst.op) inst

-- an id is replaced where the form has it
abbrev pub replaced : Bool → (ℕ → ℕ) → ℕ → ℕ
replaced true f id = f id
replaced false f id = id

abbrev pub renamed_by : Bool → Bool → (ℕ → ℕ) → SpvInst → SpvInst
renamed_by typed defining f inst = record {
  op = inst.op;
  ty = replaced typed f inst.ty;
  result = replaced defining f inst.result;
  operands = record { ids = map f inst.operands.ids; words = inst.operands.words };
  place = inst.place;
}

-- the instruction with each id replaced, and its literal words as they are
abbrev pub inst_renamed : (ℕ → ℕ) → SpvInst → SpvInst
inst_renamed f inst = renamed_by (has_result_type inst.op) (has_result inst.op) f inst
