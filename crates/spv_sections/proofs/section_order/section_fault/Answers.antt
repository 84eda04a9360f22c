use Rattle.std.proofs.Common.{ap₂, sym, ◌∙◌, ◌++◌}
use Rattle.std.specs.Prelude.{not}
use Rattle.std.specs.List.{list_any}
use Rattle.spv_sections.specs.Places.{places_where, place_if, lesser}
use Rattle.spv_sections.specs.SectionOrder.{is_misplaced, gives_again, is_model}
use Rattle.spv_sections.proofs.Scans.{least-append}
use Rattle.spv_sections.proofs.section_order.section_fault.Goals as goal

pub returns : goal.returns
returns c =
    let insts = c.args.insts.now in
    c.lesser.ensures
    ∙ (ap₂ lesser c.first_misplaced.ensures c.model_fault.ensures
    ∙ sym (least-append (places_where is_misplaced insts) (places_where gives_again insts ++ place_if (not (list_any is_model insts)) c.args.words)))
