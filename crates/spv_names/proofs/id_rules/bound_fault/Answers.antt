use Rattle.std.proofs.Common.{◌≡◌, length, take, ap, ap₂, ◌∙◌, arith}
use Rattle.std.specs.Prelude.{◌||◌}
use Rattle.std.specs.List.{list_any}
use Rattle.spv_names.specs.Uses.{uses_of}
use Rattle.spv_names.specs.IdRules.{has_outside, is_outside, is_result}
use Rattle.spv_sections.proofs.Scans.{scan-more}
use Rattle.spv_names.proofs.UseLists.{used-at, all-length}
use Rattle.spv_names.proofs.id_rules.bound_fault.Goals as goal

pub bounds-uses-index : goal.bounds-uses-index
bounds-uses-index c = omega (arith, ap length c.requires, all-length c.args.insts.now)

pub loop-index-preserved : goal.loop-index-preserved
loop-index-preserved c =
    let i = c.loop-index.index in
    let insts = c.args.insts.now in
    let inst = c.index-insts-index.result in
    let used : c.index-uses-index.result ≡ uses_of insts (take i insts) inst =
    used-at insts i inst c.args.uses.now c.index-uses-index.result c.loop-index-test.true c.index-insts-index.is c.requires c.index-uses-index.is in
    let test = ap₂ (λ a b. a || b)
    (c.is_outside_result.ensures ∙ ap (is_result (is_outside c.args.bound)) c.result_of.ensures)
    (c.has_outside.ensures ∙ ap (list_any (is_outside c.args.bound)) (c.as_slice.ensures ∙ used)) in
    c.told-least.ensures
    ∙ scan-more (has_outside insts c.args.bound) insts i inst c.loop-index-test.true c.index-insts-index.is c.loop-index.least (c.is_outside_result.result || c.has_outside.result) test c.loop-index.invariant
