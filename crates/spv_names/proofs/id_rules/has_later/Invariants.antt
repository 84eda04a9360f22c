use Rattle.std.proofs.Common.{◌≡◌, take, false}
use Rattle.std.specs.List.{list_any}
use Rattle.spv_names.specs.IdRules.{is_defined_later}
use Rattle.spv_names.proofs.id_rules.has_later.Given as goal

abbrev pub invariant-loop-id : goal.invariant-loop-id
invariant-loop-id l = list_any (is_defined_later l.insts (take l.before l.insts)) (take l.id-index l.ids) ≡ false
