-- The functions that the instructions of the function section say, each with its body (SPIR-V 1.2, 2.4 "Logical Layout of a Module").
use Rattle.std.specs.Prelude.{ℕ, Bool, List, [], ◌∷◌, ◌++◌, map, slice_get, unwrap_or}
use Rattle.std.specs.Option.{option_to_list}
use Rattle.inst_walk.specs.declared.body.Block.{Block}
use Rattle.inst_walk.specs.declared.body.Body.{Body}
use Rattle.spv_codec.specs.declared.module.RawInst.{RawInst}
use Rattle.spv_module.specs.declared.inst.SpvInst.{SpvInst}
use Rattle.spv_module.specs.declared.module.Function.{Function}
use Rattle.spv_module.specs.declared.module.Param.{Param}
use Rattle.spv_names.specs.declared.functions.Part.{Part}
use Rattle.spv_names.specs.declared.functions.Part.TheVariants as part
use Rattle.spv_names.specs.Functions.{part_of}
use Rattle.spv_build.specs.declared.functions.FunctionsSoFar.{FunctionsSoFar}
use Rattle.spv_build.specs.declared.functions.Head.{Head}
use Rattle.spv_build.specs.Insts.{inst_of}
use Rattle.spv_build.specs.Items.{param_of}

-- a word of an instruction, 0 where it has none there
abbrev pub operand_at : RawInst → ℕ → ℕ
operand_at inst index = unwrap_or (slice_get inst.operands index) 0

-- what an OpFunction says: the type of the result, the id, and behind hints for inlining the type
abbrev pub head_of : RawInst → Head
head_of inst = record { result = operand_at inst 0; id = operand_at inst 1; ty = operand_at inst 3; place = inst.place }

abbrev pub param_id : Param → ℕ
param_id param = param.id

abbrev pub function_of : FunctionsSoFar → Function
function_of s = record {
  id = s.head.id;
  result = s.head.result;
  ty = s.head.ty;
  params = s.params;
  labels = s.labels;
  place = s.head.place;
}

abbrev pub body_of : FunctionsSoFar → Body SpvInst ℕ
body_of s = record { params = map param_id s.params; blocks = s.blocks }

abbrev pub block_of : FunctionsSoFar → SpvInst → Block SpvInst ℕ
block_of s last = record { name = s.label; insts = s.insts ++ last ∷ [] }

-- one instruction more, by what it is in a function, where literal numbers take two words or one: an OpFunction begins a function, a label
-- a block, a terminator ends the block, and an OpFunctionEnd the function
abbrev pub behind_part : Part → Bool → FunctionsSoFar → RawInst → FunctionsSoFar
behind_part part.Start wide s inst = record s { head = head_of inst; params = []; labels = []; blocks = [] }
behind_part part.Parameter wide s inst = record s { params = s.params ++ option_to_list (param_of inst) }
behind_part part.Label wide s inst = record s { labels = s.labels ++ inst.place ∷ []; label = operand_at inst 0; insts = [] }
behind_part part.Inner wide s inst = record s { insts = s.insts ++ inst_of wide inst ∷ [] }
behind_part part.Terminator wide s inst = record s { blocks = s.blocks ++ block_of s (inst_of wide inst) ∷ []; insts = [] }
behind_part part.End wide s inst = record s { functions = s.functions ++ function_of s ∷ []; bodies = s.bodies ++ body_of s ∷ []; params = []; labels = []; blocks = [] }
behind_part part wide s inst = s

module _ (is_wide : RawInst → Bool) where
  abbrev pub behind_inst : FunctionsSoFar → RawInst → FunctionsSoFar
  behind_inst s inst = behind_part (part_of inst) (is_wide inst) s inst

  abbrev pub behind_insts : FunctionsSoFar → List RawInst → FunctionsSoFar
  behind_insts s [] = s
  behind_insts s (inst ∷ insts) = behind_insts (behind_inst s inst) insts

abbrev pub no_head : Head
no_head = record { result = 0; id = 0; ty = 0; place = 0 }

abbrev pub no_functions : FunctionsSoFar
no_functions = record { functions = []; bodies = []; head = no_head; params = []; labels = []; blocks = []; label = 0; insts = [] }

-- what the instructions of a function section say, in a module that tells which of them have literal numbers of two words
unfoldable pub read_functions : (RawInst → Bool) → List RawInst → FunctionsSoFar
read_functions is_wide insts = behind_insts is_wide no_functions insts
