use Rattle.std.proofs.Common.{refl}
use Rattle.std.proofs.lemmas.Result.{err_from_is_err_and}
use Rattle.ll_insts.proofs.InstsRead.{fewer_insts, insts_read, insts_refused, last_refused, more_insts}
use Rattle.ll_insts.proofs.insts.read_insts.Goals as goal

pub returns-in_err-inst : goal.returns-in_err-inst
returns-in_err-inst c =
    let p = err_from_is_err_and c.from_residual.result c.from_residual.ensures.1 in
    rw p.1 (insts_refused _ _ _ _ _ _ _ _ _ _ _ p.2 c.loop-names.invariant c.last.ensures c.last-in-loop-names.ensures (c.loop-names-test.ensures.absent refl) c.in_err-inst.ensures)

pub loop-names-smaller : goal.loop-names-smaller
loop-names-smaller c =
    fewer_insts _ _ _ _ _ _ _ _ _ _ _ _ _ c.loop-names.invariant c.last.ensures c.last-in-loop-names.ensures (c.loop-names-test.ensures.absent refl) c.in_ok-inst.ensures

pub loop-names-preserved : goal.loop-names-preserved
loop-names-preserved c =
    more_insts _ _ _ _ _ _ _ _ _ _ _ _ _ _ _ c.loop-names.invariant c.last.ensures c.last-in-loop-names.ensures (c.loop-names-test.ensures.absent refl) c.in_ok-inst.ensures c.in_ok-push_inst.ensures refl

pub returns-in_err-terminator : goal.returns-in_err-terminator
returns-in_err-terminator c =
    let p = err_from_is_err_and c.from_residual-in_err-terminator.result c.from_residual-in_err-terminator.ensures.1 in
    rw p.1 (last_refused _ _ _ _ _ _ _ _ _ _ _ p.2 c.loop-names.invariant c.last.ensures c.last-2.ensures (c.loop-names-test.ensures.there refl) c.in_err-terminator.ensures)

pub returns : goal.returns
returns c = insts_read _ _ _ _ _ _ _ _ _ _ _ _ _ _ c.loop-names.invariant c.last.ensures c.last-2.ensures (c.loop-names-test.ensures.there refl) c.in_ok-terminator.ensures c.in_ok-push_inst-2.ensures
