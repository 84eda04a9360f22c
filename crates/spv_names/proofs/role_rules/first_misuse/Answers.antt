use Rattle.std.proofs.Common.{◌≡◌, length, take, ap, ap₂, ◌∙◌, arith}
use Rattle.spv_names.specs.Uses.{uses_of}
use Rattle.spv_names.specs.RoleRules.{misuses, have_other_role}
use Rattle.spv_sections.proofs.Scans.{scan-more}
use Rattle.spv_names.proofs.UseLists.{used-at, all-length}
use Rattle.spv_names.proofs.role_rules.first_misuse.Goals as goal

pub bounds-uses-index : goal.bounds-uses-index
bounds-uses-index c = omega (arith, ap length c.requires.used, all-length c.args.insts.now)

pub loop-index-preserved : goal.loop-index-preserved
loop-index-preserved c =
    let i = c.loop-index.index in
    let insts = c.args.insts.now in
    let inst = c.index-insts-index.result in
    let used : c.index-uses-index.result ≡ uses_of insts (take i insts) inst =
    used-at insts i inst c.args.uses.now c.index-uses-index.result c.loop-index-test.true c.index-insts-index.is c.requires.used c.index-uses-index.is in
    let test : c.have_other_role-misused.result ≡ misuses insts (take i insts) inst =
    c.have_other_role-misused.ensures ∙ ap₂ (λ a ids. have_other_role insts a 0 ids) c.asks_of.ensures (c.as_slice-used.ensures ∙ used) in
    c.told-least.ensures
    ∙ scan-more (misuses insts) insts i inst c.loop-index-test.true c.index-insts-index.is c.loop-index.least c.have_other_role-misused.result test c.loop-index.invariant
