use Rattle.std.proofs.Common.{◌≡◌, map, take}
use Rattle.to_spirv.specs.ClosedTypes.{value_place}
use Rattle.to_spirv.proofs.type_list.function_entry.Given as goal

abbrev pub invariant-loop-param : goal.invariant-loop-param
invariant-loop-param l = l.places.items ≡ map (value_place l.ids) (take l.param-index l.params)
