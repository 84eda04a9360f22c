use Rattle.std.proofs.Common.{◌≡◌, take}
use Rattle.std.specs.List.{list_any}
use Rattle.rule_order.specs.Breaks.{least}
use Rattle.spv_sections.specs.Places.{places_where}
use Rattle.spv_sections.specs.SectionOrder.{gives_again, is_model}
use Rattle.spv_sections.proofs.section_order.model_fault.Given as goal

abbrev pub invariant-loop-inst : goal.invariant-loop-inst
invariant-loop-inst l = record {
  told : l.least ≡ least (places_where gives_again (take l.inst-index l.insts));
  given : l.given ≡ list_any is_model (take l.inst-index l.insts);
}
