-- The canonical form of a module, as a chain of forms of the whole module (SPIR-V 1.2, 2.4 "Logical Layout of a Module").
use Rattle.std.specs.Prelude.{ℕ, ◌+◌, List, [], ◌∷◌, ◌++◌, map, flat_map, length, nat_eq, unwrap_or, if◌then◌else◌}
use Rattle.std.specs.List.{zip}
use Rattle.inst_walk.specs.Body.{body_renamed}
use Rattle.inst_walk.specs.Places.{place_of, is_among}
use Rattle.inst_walk.specs.declared.body.Block.{Block}
use Rattle.inst_walk.specs.declared.body.Body.{Body}
use Rattle.spv_module.specs.declared.inst.SpvInst.{SpvInst}
use Rattle.spv_module.specs.declared.module.Entry.{Entry}
use Rattle.spv_module.specs.declared.module.Function.{Function}
use Rattle.spv_module.specs.declared.module.Param.{Param}
use Rattle.spv_module.specs.declared.module.SpvModule.{SpvModule}
use Rattle.spv_module.specs.Insts.{inst_renamed, list_where}
use Rattle.spv_module.specs.Modules.{without_places}
use Rattle.spv_module.specs.Roles.{has_result, has_result_type}
use Rattle.to_spirv.specs.Partner.{named_types, type_id}
use Rattle.to_spirv.specs.TypeTrees.{TypeTree, needing_all}
use Rattle.spv_canon.specs.Trees.{tree_with_id, type_ids}

-- a function with its body
abbrev pub Defined : Type 0
Defined = Function × Body SpvInst ℕ

abbrev pub functions_defined : SpvModule → List Defined
functions_defined m = zip m.functions m.bodies

-- the ids of the types that a function needs: its own, and that of each result
abbrev pub result_types : SpvInst → List ℕ
result_types inst = list_where (has_result_type inst.op) inst.ty

abbrev pub block_types : Block SpvInst ℕ → List ℕ
block_types block = flat_map result_types block.insts

abbrev pub types_asked : Defined → List ℕ
types_asked e = e.0.ty ∷ flat_map block_types e.1.blocks

-- the types that the functions need, one function after another
abbrev pub trees_needed : SpvModule → List TypeTree
trees_needed m = map (tree_with_id m.types) (flat_map types_asked (functions_defined m))

-- the types of the canonical form: each is listed where it is needed first, behind those that it refers to
abbrev pub types_listed : SpvModule → List TypeTree
types_listed m = needing_all (trees_needed m) []

-- the ids that functions define, in the order of their instructions
abbrev pub results : SpvInst → List ℕ
results inst = list_where (has_result inst.op) inst.result

abbrev pub block_ids : Block SpvInst ℕ → List ℕ
block_ids block = block.name ∷ flat_map results block.insts

abbrev pub param_id : Param → ℕ
param_id param = param.id

abbrev pub function_ids : Defined → List ℕ
function_ids e = e.0.id ∷ (map param_id e.0.params ++ flat_map block_ids e.1.blocks)

abbrev pub ids_in_functions : SpvModule → List ℕ
ids_in_functions m = flat_map function_ids (functions_defined m)

-- the id of a type by its place among those that are listed, and behind them the other ids in the order of their definitions
abbrev pub new_id : List TypeTree → SpvModule → ℕ → ℕ
new_id listed m id =
    if is_among nat_eq (type_ids m.types) id
    then type_id listed (tree_with_id m.types id)
    else length listed + 1 + unwrap_or (place_of nat_eq (ids_in_functions m) id) 0

module _ (f : ℕ → ℕ) where
  abbrev pub entry_renamed : Entry → Entry
  entry_renamed entry = record { function = f entry.function; name = entry.name; interface = map f entry.interface; modes = entry.modes; place = entry.place }

  abbrev pub param_renamed : Param → Param
  param_renamed param = record { id = f param.id; ty = f param.ty; place = param.place }

  abbrev pub function_renamed : Function → Function
  function_renamed function = record {
    id = f function.id;
    result = f function.result;
    ty = f function.ty;
    params = map param_renamed function.params;
    labels = function.labels;
    place = function.place;
  }

-- The module with these types, and its ids counted from 1 in the order of the instructions that define them: in version 1.2, with a bound of
-- one more than the last id. Lists that the covered subset leaves empty stay as they are
abbrev pub numbered_over : List TypeTree → SpvModule → SpvModule
numbered_over listed m = record m {
  version = 0x10200;
  bound = length listed + length (ids_in_functions m) + 1;
  entries = map (entry_renamed (new_id listed m)) m.entries;
  types = named_types listed;
  functions = map (function_renamed (new_id listed m)) m.functions;
  bodies = map (body_renamed inst_renamed (new_id listed m)) m.bodies;
}

-- with the types that it needs, in the order in which they are needed
abbrev pub numbered : SpvModule → SpvModule
numbered m = numbered_over (types_listed m) m

-- numbered, and in no place and little order
abbrev pub canonical_spirv : SpvModule → SpvModule
canonical_spirv m = without_places (numbered m)
