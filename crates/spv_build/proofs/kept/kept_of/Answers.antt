use Rattle.std.proofs.Common.{◌≡◌, [], ◌++◌, take, ap, ap₂, sym, ◌∙◌}
use Rattle.std.specs.Prelude.{◌||◌}
use Rattle.std.proofs.lemmas.List.{take_all}
use Rattle.spv_layout.specs.Forms.{opcode_of}
use Rattle.spv_names.specs.Uses.{is_versioned, is_dropped, dropped_by, imports_input}
use Rattle.spv_sections.proofs.Scans.{any-more, front-more}
use Rattle.spv_build.specs.Kept.{is_silent, kept_if, kept_behind, kept_of}
use Rattle.spv_build.proofs.KeptLists.{kept-more}
use Rattle.spv_build.proofs.kept.kept_of.Goals as goal

pub loop-inst-preserved : goal.loop-inst-preserved
unfolding is_dropped
loop-inst-preserved c =
    let i = c.loop-inst.inst-index in
    let insts = c.args.insts.now in
    let inst = c.inst-item.result in
    let xs = take i insts in
    let dropped : c.is_dropped-dropped.result ≡ is_dropped insts xs inst =
    c.is_dropped-dropped.ensures ∙ ap (λ b. dropped_by b (imports_input insts inst.operands) (opcode_of inst.op) inst) c.loop-inst.invariant.sourced in
    let left_out = ap₂ (λ a b. a || b) (c.is_silent-silent.ensures ∙ ap is_silent c.from_number.ensures) dropped in
    record {
      kept =
          c.in_ok-push_kept.ensures
          ∙ (ap₂ (λ ks b. ks ++ kept_if b inst) c.loop-inst.invariant.kept left_out
          ∙ (sym (kept-more insts [] xs inst) ∙ ap (kept_behind insts []) (sym (front-more insts i inst c.loop-inst-test.true c.inst-item.is))));
      sourced = any-more is_versioned insts i inst c.loop-inst-test.true c.inst-item.is c.loop-inst.sourced c.is_versioned-sourced.result c.loop-inst.invariant.sourced c.is_versioned-sourced.ensures;
    }

pub returns : goal.returns
unfolding kept_of
returns c = c.loop-inst.invariant.kept ∙ ap (kept_behind c.args.insts.now []) (take_all c.loop-inst.inst-index c.args.insts.now c.loop-inst-test.false)
