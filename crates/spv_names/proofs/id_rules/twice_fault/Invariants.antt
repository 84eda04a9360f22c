use Rattle.std.proofs.Common.{◌≡◌, take}
use Rattle.rule_order.specs.Breaks.{least}
use Rattle.spv_sections.specs.Places.{places_where}
use Rattle.spv_names.specs.IdRules.{defines_again}
use Rattle.spv_names.proofs.id_rules.twice_fault.Given as goal

abbrev pub invariant-loop-index : goal.invariant-loop-index
invariant-loop-index l = l.least ≡ least (places_where defines_again (take l.index l.insts))
