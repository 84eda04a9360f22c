use Rattle.std.proofs.Common.{◌≡◌, take}
use Rattle.rule_order.specs.Breaks.{least}
use Rattle.spv_sections.specs.Places.{places_where}
use Rattle.spv_names.specs.IdRules.{uses_later}
use Rattle.spv_sections.specs.SectionOrder.{has_begun}
use Rattle.spv_names.proofs.id_rules.later_fault.Given as goal

abbrev pub invariant-loop-index : goal.invariant-loop-index
invariant-loop-index l = record {
  told : l.least ≡ least (places_where (uses_later l.insts) (take l.index l.insts));
  begun : l.begun ≡ has_begun (take l.index l.insts);
}
