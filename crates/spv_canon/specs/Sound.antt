-- Modules whose ids and types are as the standard has them (SPIR-V 1.2, 2.4 "Logical Layout of a Module" and 2.16.1 "Universal Validation
-- Rules").
use Rattle.std.specs.Prelude.{◌≡◌, ℕ, List, ◌++◌, Some, slice_get, length}
use Rattle.std.specs.List.{AllZip}
use Rattle.inst_walk.specs.declared.body.Body.{Body}
use Rattle.kern_types.specs.Parts.{HasPartsIn}
use Rattle.kern_types.specs.declared.ty.Ty.{Ty}
use Rattle.spv_module.specs.declared.inst.SpvInst.{SpvInst}
use Rattle.spv_module.specs.declared.module.Function.{Function}
use Rattle.spv_module.specs.declared.module.SpvModule.{SpvModule}
use Rattle.spv_canon.specs.Canonical.{ids_in_functions}
use Rattle.spv_canon.specs.Trees.{type_ids}

-- each member stands in the list once
abbrev pub EachOnce : List ℕ → Type 0
EachOnce ids = (i j id : ℕ) → slice_get ids i ≡ Some id → slice_get ids j ≡ Some id → i ≡ j

-- as many labels have a place as there are blocks
abbrev pub HasLabels : Function → Body SpvInst ℕ → Type 0
HasLabels function body = length function.labels ≡ length body.blocks

pub record HasSoundIds (m : SpvModule) : Type 0 where
  -- no id is defined twice
  pub once : EachOnce (type_ids m.types ++ ids_in_functions m)
  -- each type of the table has a name, and refers to types before it
  pub named : length m.types.names ≡ length m.types.table.types
  pub parts : (place : ℕ) (entry : Ty) → slice_get m.types.table.types place ≡ Some entry → HasPartsIn place entry
  pub labels : AllZip HasLabels m.functions m.bodies
