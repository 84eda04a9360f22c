use Rattle.std.proofs.Common.{refl}
use Rattle.std.proofs.lemmas.Result.{err_from_is_err_and}
use Rattle.ll_attributes.proofs.SkipsRead.{function_stops, fewer_of_function, more_of_function, function_read}
use Rattle.ll_attributes.proofs.function_attributes.skip_function_attributes.Goals as goal

pub returns-in_err-behind : goal.returns-in_err-behind
returns-in_err-behind c =
    let p = err_from_is_err_and c.from_residual.result c.from_residual.ensures.1 in
    rw p.1 (function_stops _ _ _ _ _ p.2 c.loop-behind.invariant c.last.ensures c.in_err-behind.ensures)

pub loop-behind-smaller : goal.loop-behind-smaller
loop-behind-smaller c =
    let one = rw c.in-Some.is at c.in_ok-behind.ensures in
    fewer_of_function _ _ _ _ c.loop-behind.invariant c.last.ensures one

pub loop-behind-preserved : goal.loop-behind-preserved
loop-behind-preserved c =
    let one = rw c.in-Some.is at c.in_ok-behind.ensures in
    more_of_function _ _ _ _ _ c.loop-behind.invariant c.last.ensures one refl

pub returns : goal.returns
returns c =
    let none = rw c.in_default.is at c.in_ok-behind.ensures in
    function_read _ _ _ _ c.loop-behind.invariant c.last.ensures c.last-2.ensures none
