use Rattle.std.proofs.Common.{take, ap, ◌∙◌}
use Rattle.spv_names.specs.IdRules.{defines_again, is_defined, is_result}
use Rattle.spv_sections.proofs.Scans.{scan-more}
use Rattle.spv_names.proofs.id_rules.twice_fault.Goals as goal

pub loop-index-preserved : goal.loop-index-preserved
loop-index-preserved c =
    let i = c.loop-index.index in
    let insts = c.args.insts.now in
    let inst = c.index-insts-index.result in
    c.told-least.ensures
    ∙ scan-more defines_again insts i inst c.loop-index-test.true c.index-insts-index.is c.loop-index.least c.is_defined_result-again.result
    (c.is_defined_result-again.ensures ∙ ap (is_result (is_defined (take i insts))) c.result_of.ensures) c.loop-index.invariant
