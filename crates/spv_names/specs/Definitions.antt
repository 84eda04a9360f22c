-- Which instruction defines an id first, and in which function (SPIR-V 1.2, 2.4 "Logical Layout of a Module").
use Rattle.std.specs.Prelude.{ℕ, ◌+◌, ◌==◌, Bool, if◌then◌else◌, List, [], ◌∷◌, find, Option, Some, None}
use Rattle.spv_codec.specs.declared.module.RawInst.{RawInst}
use Rattle.spv_codec.specs.Ids.{result_id, kinds_of, is_id}
use Rattle.spv_layout.specs.declared.opcode.Opcode.TheVariants as op
use Rattle.spv_layout.specs.Forms.{number_of}
use Rattle.spv_names.specs.declared.definitions.Definition.{Definition}

-- the id of an instruction's result, where its form has one
unfoldable pub result_of : RawInst → Option ℕ
result_of inst = result_id (kinds_of inst.op) inst.operands

abbrev pub defines : ℕ → RawInst → Bool
defines id inst = is_id id (result_of inst)

-- the first instruction that defines an id
abbrev pub definition_of : List RawInst → ℕ → Option RawInst
definition_of insts id = find (defines id) insts

-- the function that the next instruction belongs to, by the number of instructions before its OpFunction: it goes on up to an
-- OpFunctionEnd or the next OpFunction
abbrev pub function_behind : ℕ → Option ℕ → RawInst → Option ℕ
function_behind index function inst =
    if inst.op == number_of op.Function then Some index else (if inst.op == number_of op.FunctionEnd then None else function)

-- the function that the instruction behind these belongs to, where so many stand before them
abbrev pub function_after : ℕ → Option ℕ → List RawInst → Option ℕ
function_after index function [] = function
function_after index function (inst ∷ insts) = function_after (index + 1) (function_behind index function inst) insts

-- the function that a result belongs to: a function itself belongs to none
abbrev pub home_of : Option ℕ → RawInst → Option ℕ
home_of function inst = if inst.op == number_of op.Function then None else function

abbrev pub entry_from : ℕ → Option ℕ → List RawInst → ℕ → Option Definition
entry_from index function [] id = None
entry_from index function (inst ∷ insts) id =
    if defines id inst
    then Some (record { index = index; function = home_of function inst })
    else entry_from (index + 1) (function_behind index function inst) insts id

-- where an id is defined first
abbrev pub entry_of : List RawInst → ℕ → Option Definition
entry_of insts id = entry_from 0 None insts id
