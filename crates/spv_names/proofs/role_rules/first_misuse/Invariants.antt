use Rattle.std.proofs.Common.{◌≡◌, take}
use Rattle.rule_order.specs.Breaks.{least}
use Rattle.spv_sections.specs.Places.{places_where}
use Rattle.spv_names.specs.RoleRules.{misuses}
use Rattle.spv_names.proofs.role_rules.first_misuse.Given as goal

abbrev pub invariant-loop-index : goal.invariant-loop-index
invariant-loop-index l = l.least ≡ least (places_where (misuses l.insts) (take l.index l.insts))
