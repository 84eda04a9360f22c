use Rattle.std.proofs.Common.{◌≡◌, length, take, ap, ap₂, ◌∙◌, arith}
use Rattle.std.specs.List.{list_any}
use Rattle.spv_sections.specs.Standing.{begins_functions}
use Rattle.spv_sections.specs.SectionOrder.{rank_in, rank_behind}
use Rattle.spv_names.specs.Uses.{uses_of}
use Rattle.spv_names.specs.IdRules.{uses_later, is_defined_later, ordered_ids}
use Rattle.spv_sections.proofs.Scans.{scan-more, any-more}
use Rattle.spv_names.proofs.UseLists.{used-at, all-length}
use Rattle.spv_names.proofs.id_rules.later_fault.Goals as goal

pub bounds-uses-index : goal.bounds-uses-index
bounds-uses-index c = omega (arith, ap length c.requires.used, all-length c.args.insts.now)

pub loop-index-preserved : goal.loop-index-preserved
loop-index-preserved c =
    let i = c.loop-index.index in
    let insts = c.args.insts.now in
    let inst = c.index-insts-index.result in
    let used : c.index-uses-index.result ≡ uses_of insts (take i insts) inst =
    used-at insts i inst c.args.uses.now c.index-uses-index.result c.loop-index-test.true c.index-insts-index.is c.requires.used c.index-uses-index.is in
    let section : c.rank_in-section.result ≡ rank_behind (take i insts) inst =
    c.rank_in-section.ensures ∙ ap₂ rank_in c.loop-index.invariant.begun c.standing_of.ensures in
    let test : c.has_later.result ≡ uses_later insts (take i insts) inst =
    c.has_later.ensures
    ∙ ap (list_any (is_defined_later insts (take i insts))) (c.ordered_ids-ordered.ensures ∙ ap₂ (λ s us. ordered_ids s inst.op us) section (c.as_slice.ensures ∙ used)) in
    record {
      told = c.told-least.ensures
          ∙ scan-more (uses_later insts) insts i inst c.loop-index-test.true c.index-insts-index.is c.loop-index.least c.has_later.result test c.loop-index.invariant.told;
      begun = any-more begins_functions insts i inst c.loop-index-test.true c.index-insts-index.is c.loop-index.begun c.begins_functions-begun.result c.loop-index.invariant.begun c.begins_functions-begun.ensures;
    }
