use Rattle.std.proofs.Common.{◌≡◌, length, take, ap, ap₂, ◌∙◌, arith}
use Rattle.std.specs.List.{list_any}
use Rattle.spv_names.specs.Definitions.{entry_of}
use Rattle.spv_names.specs.Uses.{uses_of}
use Rattle.spv_names.specs.IdRules.{uses_unknown, is_elsewhere}
use Rattle.spv_names.proofs.Defined.{function-next}
use Rattle.spv_sections.proofs.Scans.{scan-more}
use Rattle.spv_names.proofs.UseLists.{used-at, all-length}
use Rattle.spv_names.proofs.id_rules.unknown_fault.Goals as goal

pub bounds-uses-index : goal.bounds-uses-index
bounds-uses-index c = omega (arith, ap length c.requires.used, all-length c.args.insts.now)

pub loop-index-preserved : goal.loop-index-preserved
loop-index-preserved c =
    let i = c.loop-index.index in
    let insts = c.args.insts.now in
    let inst = c.index-insts-index.result in
    let used : c.index-uses-index.result ≡ uses_of insts (take i insts) inst =
    used-at insts i inst c.args.uses.now c.index-uses-index.result c.loop-index-test.true c.index-insts-index.is c.requires.used c.index-uses-index.is in
    let test : c.has_elsewhere-unknown.result ≡ uses_unknown insts (take i insts) inst =
    c.has_elsewhere-unknown.ensures ∙ ap₂ (λ f ids. list_any (λ id. is_elsewhere f (entry_of insts id)) ids) c.loop-index.invariant.function (c.as_slice.ensures ∙ used) in
    record {
      told = c.told-least.ensures
          ∙ scan-more (uses_unknown insts) insts i inst c.loop-index-test.true c.index-insts-index.is c.loop-index.least c.has_elsewhere-unknown.result test c.loop-index.invariant.told;
      function = c.function_behind-function.ensures ∙ function-next insts i inst c.loop-index-test.true c.index-insts-index.is c.loop-index.function c.loop-index.invariant.function;
    }
