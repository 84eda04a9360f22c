use Rattle.std.proofs.lemmas.Result.{err_from_is_err_and}
use Rattle.std.proofs.Common.{refl}
use Rattle.kernel_text.specs.Parts.{AtReturn, inst_here}
use Rattle.kernel_text.proofs.InstFacts.{inst_here_rest, inst_goes_on, inst_shorter}
use Rattle.kernel_text.proofs.ManyFacts.{read_shorter, read_more, read_end, read_fails}
use Rattle.kernel_text.proofs.insts.insts.Goals as goal

pub returns-in_err-inst : goal.returns-in_err-inst
returns-in_err-inst c =
    let p = err_from_is_err_and c.from_residual.result c.from_residual.ensures.1 in
    rw p.1 (read_fails inst_here AtReturn inst_here_rest inst_goes_on _ _ _ _ _ _ _ _ p.2 c.loop-insts.invariant c.last.ensures c.in_err-inst.ensures)

pub loop-insts-smaller : goal.loop-insts-smaller
loop-insts-smaller c =
    let one = rw c.in-Some.is at c.in_ok-inst.ensures in read_shorter inst_here inst_shorter _ _ _ _ _ _ _ _ _ c.loop-insts.invariant c.last.ensures one

pub loop-insts-preserved : goal.loop-insts-preserved
loop-insts-preserved c =
    let one = rw c.in-Some.is at c.in_ok-inst.ensures in read_more inst_here inst_shorter _ _ _ _ _ _ _ _ _ _ _ c.loop-insts.invariant c.last.ensures one c.in_ok-push.ensures.ok refl

pub returns : goal.returns
returns c =
    let end = rw c.in_default.is at c.in_ok-inst.ensures in read_end inst_here AtReturn _ _ _ _ _ _ _ _ c.loop-insts.invariant c.last.ensures c.last-2.ensures end.0 end.1
