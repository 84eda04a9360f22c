use Rattle.std.proofs.Common.{◌≡◌, false, take, ap, ap₂, sym, ◌∙◌}
use Rattle.spv_sections.specs.Standing.{begins_functions}
use Rattle.spv_sections.specs.SectionOrder.{is_misplaced, rank_in, rank_behind, ranks, is_behind, risen}
use Rattle.spv_sections.proofs.Scans.{scan-more, any-more, front-more}
use Rattle.spv_sections.proofs.Ranks.{highest_of, highest-more, ranks-more, is-behind}
use Rattle.spv_sections.proofs.section_order.first_misplaced.Goals as goal

pub loop-inst-preserved : goal.loop-inst-preserved
loop-inst-preserved c =
    let i = c.loop-inst.inst-index in
    let insts = c.args.insts.now in
    let inst = c.inst-item.result in
    let rank : c.rank_in-rank.result ≡ rank_behind (take i insts) inst =
    c.rank_in-rank.ensures ∙ ap₂ rank_in c.loop-inst.invariant.begun c.standing_of.ensures in
    let test : c.is_behind.result ≡ is_misplaced (take i insts) inst =
    c.is_behind.ensures ∙ (ap₂ is_behind c.loop-inst.invariant.highest rank ∙ is-behind (rank_behind (take i insts) inst) (ranks false (take i insts))) in
    record {
      told = c.told-least.ensures ∙ scan-more is_misplaced insts i inst c.loop-inst-test.true c.inst-item.is c.loop-inst.least c.is_behind.result test c.loop-inst.invariant.told;
      begun = any-more begins_functions insts i inst c.loop-inst-test.true c.inst-item.is c.loop-inst.begun c.begins_functions-begun.result c.loop-inst.invariant.begun c.begins_functions-begun.ensures;
      highest =
          c.risen-highest.ensures
          ∙ (ap₂ risen c.loop-inst.invariant.highest rank
          ∙ (sym (highest-more 0 (ranks false (take i insts)) (rank_behind (take i insts) inst))
          ∙ (ap (highest_of 0) (sym (ranks-more false (take i insts) inst))
          ∙ ap (λ xs. highest_of 0 (ranks false xs)) (sym (front-more insts i inst c.loop-inst-test.true c.inst-item.is)))));
    }
