use Rattle.std.proofs.lemmas.Result.{err_from_is_err_and}
use Rattle.std.proofs.Common.{refl}
use Rattle.kernel_text.specs.Parts.{NoComma, next_param}
use Rattle.kernel_text.proofs.ParamFacts.{next_param_rest, next_param_goes_on, next_param_shorter}
use Rattle.kernel_text.proofs.ManyFacts.{read_shorter, read_more, read_end, read_fails}
use Rattle.kernel_text.proofs.params.more_params.Goals as goal

pub returns-in_err-param : goal.returns-in_err-param
returns-in_err-param c =
    let p = err_from_is_err_and c.from_residual.result c.from_residual.ensures.1 in
    rw p.1 (read_fails next_param NoComma next_param_rest next_param_goes_on _ _ _ _ _ _ _ _ p.2 c.loop-params.invariant c.last.ensures c.in_err-param.ensures)

pub loop-params-smaller : goal.loop-params-smaller
loop-params-smaller c =
    let one = rw c.in-Some.is at c.in_ok-param.ensures in read_shorter next_param next_param_shorter _ _ _ _ _ _ _ _ _ c.loop-params.invariant c.last.ensures one

pub loop-params-preserved : goal.loop-params-preserved
loop-params-preserved c =
    let one = rw c.in-Some.is at c.in_ok-param.ensures in read_more next_param next_param_shorter _ _ _ _ _ _ _ _ _ _ _ c.loop-params.invariant c.last.ensures one c.in_ok-push.ensures.ok refl

pub returns : goal.returns
returns c =
    let end = rw c.in_default.is at c.in_ok-param.ensures in read_end next_param NoComma _ _ _ _ _ _ _ _ c.loop-params.invariant c.last.ensures c.last-2.ensures end.0 end.1
