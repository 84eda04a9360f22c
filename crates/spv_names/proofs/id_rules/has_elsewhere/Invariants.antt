use Rattle.std.proofs.Common.{◌≡◌, take, false}
use Rattle.std.specs.List.{list_any}
use Rattle.spv_names.specs.Definitions.{entry_of}
use Rattle.spv_names.specs.IdRules.{is_elsewhere}
use Rattle.spv_names.proofs.id_rules.has_elsewhere.Given as goal

abbrev pub invariant-loop-id : goal.invariant-loop-id
invariant-loop-id l = list_any (λ id. is_elsewhere l.function (entry_of l.insts id)) (take l.id-index l.ids) ≡ false
