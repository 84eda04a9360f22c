use Rattle.std.proofs.Common.{refl}
use Rattle.std.proofs.lemmas.Result.{err_from_is_err_and}
use Rattle.ll_parser.proofs.EndFacts.{read_shorter, read_more, read_fails}
use Rattle.ll_parser.proofs.suffixes.pointers.Goals as goal

pub returns-in_err-value : goal.returns-in_err-value
returns-in_err-value c =
    let p = err_from_is_err_and c.from_residual.result c.from_residual.ensures.1 in
    rw p.1 (read_fails _ _ _ _ _ _ c.loop-spaces.invariant c.last.ensures c.in_err-value.ensures p.2)

pub loop-spaces-smaller : goal.loop-spaces-smaller
loop-spaces-smaller c =
    let one = rw c.in-Some.is at c.in_ok-value.ensures in
    read_shorter _ _ _ _ _ _ c.loop-spaces.invariant c.last.ensures one

pub loop-spaces-preserved : goal.loop-spaces-preserved
loop-spaces-preserved c =
    let one = rw c.in-Some.is at c.in_ok-value.ensures in
    read_more _ _ _ _ _ _ _ _ c.loop-spaces.invariant c.last.ensures one c.in_ok-push.ensures.ok refl
