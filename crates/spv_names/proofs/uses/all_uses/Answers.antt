use Rattle.std.proofs.Common.{◌≡◌, [], ◌∷◌, ◌++◌, take, ap, ap₂, sym, ◌∙◌}
use Rattle.std.specs.Prelude.{if◌then◌else◌}
use Rattle.spv_layout.specs.Forms.{opcode_of}
use Rattle.spv_names.specs.Uses.{uses_of, uses_behind, is_versioned, is_dropped, dropped_by, imports_input, form_ids}
use Rattle.spv_sections.proofs.Scans.{any-more, front-more}
use Rattle.spv_names.proofs.UseLists.{uses-more}
use Rattle.spv_names.proofs.uses.all_uses.Goals as goal

pub loop-index-preserved : goal.loop-index-preserved
unfolding is_dropped
loop-index-preserved c =
    let i = c.loop-index.index in
    let insts = c.args.insts.now in
    let inst = c.index-insts-index.result in
    let xs = take i insts in
    let dropped : c.is_dropped-dropped.result ≡ is_dropped insts xs inst =
    c.is_dropped-dropped.ensures ∙ ap (λ b. dropped_by b (imports_input insts inst.operands) (opcode_of inst.op) inst) c.loop-index.invariant.sourced in
    let ids : c.in_ok-kept_ids.field-0 ≡ uses_of insts xs inst =
    c.in_ok-kept_ids.ensures ∙ ap₂ (λ d w. if d then [] else form_ids w inst) dropped c.has_wide-wide.ensures in
    record {
      uses =
          c.in_ok-push.ensures.items
          ∙ (ap₂ (λ us u. us ++ u ∷ []) c.loop-index.invariant.uses ids
          ∙ (sym (uses-more insts [] xs inst) ∙ ap (uses_behind insts []) (sym (front-more insts i inst c.loop-index-test.true c.index-insts-index.is))));
      sourced = any-more is_versioned insts i inst c.loop-index-test.true c.index-insts-index.is c.loop-index.sourced c.is_versioned.result c.loop-index.invariant.sourced c.is_versioned.ensures;
    }
