use Rattle.std.proofs.Common.{◌≡◌, take, false}
use Rattle.rule_order.specs.Breaks.{least}
use Rattle.spv_sections.specs.Places.{places_where}
use Rattle.spv_sections.specs.SectionOrder.{is_misplaced, has_begun, ranks}
use Rattle.spv_sections.proofs.Ranks.{highest_of}
use Rattle.spv_sections.proofs.section_order.first_misplaced.Given as goal

abbrev pub invariant-loop-inst : goal.invariant-loop-inst
invariant-loop-inst l = record {
  told : l.least ≡ least (places_where is_misplaced (take l.inst-index l.insts));
  begun : l.begun ≡ has_begun (take l.inst-index l.insts);
  highest : l.highest ≡ highest_of 0 (ranks false (take l.inst-index l.insts));
}
