use Rattle.std.proofs.Common.{◌≡◌, map, take}
use Rattle.spv_module.specs.Spelled.{id_at}
use Rattle.spv_module.proofs.declared.ids_at.Given as goal

abbrev pub invariant-loop-place : goal.invariant-loop-place
invariant-loop-place l = l.ids.items ≡ map (id_at l.names) (take l.place-index l.places)
