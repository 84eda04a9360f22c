use Rattle.std.proofs.Common.{refl}
use Rattle.std.proofs.lemmas.Result.{err_from_is_err_and}
use Rattle.ll_heads.proofs.ParamsRead.{fewer_params, first_param, more_params, params_end, params_stop}
use Rattle.ll_heads.proofs.params.read_some_params.Goals as goal

pub loop-params-init : goal.loop-params-init
loop-params-init c = first_param _ _ _ _ _ _ _ _ _ _ c.in_ok-first.ensures c.new-params.ensures c.in_ok-push.ensures.ok refl

pub returns-in_err-param : goal.returns-in_err-param
returns-in_err-param c =
    let p = err_from_is_err_and c.from_residual-in_err-param.result c.from_residual-in_err-param.ensures.1 in
    rw p.1 (params_stop _ _ _ _ _ _ _ _ _ _ p.2 c.loop-params.invariant c.last.ensures c.in_err-param.ensures)

pub loop-params-smaller : goal.loop-params-smaller
loop-params-smaller c =
    let one = rw c.in-Some.is at c.in_ok-param.ensures in
    fewer_params _ _ _ _ _ _ _ _ _ _ _ _ c.loop-params.invariant c.last.ensures one

pub loop-params-preserved : goal.loop-params-preserved
loop-params-preserved c =
    let one = rw c.in-Some.is at c.in_ok-param.ensures in
    more_params _ _ _ _ _ _ _ _ _ _ _ _ _ _ c.loop-params.invariant c.last.ensures one c.in_ok-push-2.ensures.ok refl

pub returns : goal.returns
returns c =
    let none = rw c.in_default.is at c.in_ok-param.ensures in
    params_end _ _ _ _ _ _ _ _ _ _ _ c.loop-params.invariant c.last.ensures c.last-2.ensures none
