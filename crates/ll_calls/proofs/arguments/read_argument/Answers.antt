use Rattle.std.proofs.lemmas.Result.{err_from_is_err_and}
use Rattle.ll_operands.proofs.Readings.{told_as, type_refused, type_refused_first}
use Rattle.ll_calls.specs.CallParts.{argument_of, argument_part}
use Rattle.ll_calls.proofs.ArgumentsRead.{argument_read, attributes_told, value_told}
use Rattle.ll_calls.proofs.arguments.read_argument.Goals as goal

pub returns-in_err-ty : goal.returns-in_err-ty
returns-in_err-ty c =
    let p = err_from_is_err_and c.from_residual.result c.from_residual.ensures.1 in
    rw p.1 (told_as argument_part _ _ _ p.2 (type_refused_first argument_of _ _ (type_refused _ _ c.in_err-ty.ensures)))

pub returns-in_err-_dropped : goal.returns-in_err-_dropped
returns-in_err-_dropped c =
    let p = err_from_is_err_and c.from_residual-in_err-_dropped.result c.from_residual-in_err-_dropped.ensures.1 in
    rw p.1 (attributes_told _ _ _ _ _ _ _ p.2 c.in_ok-ty.ensures c.in_err-_dropped.ensures)

pub returns-in_err-value : goal.returns-in_err-value
returns-in_err-value c =
    let p = err_from_is_err_and c.from_residual-in_err-value.result c.from_residual-in_err-value.ensures.1 in
    rw p.1 (value_told _ _ _ _ _ _ _ _ _ _ p.2 c.in_ok-ty.ensures c.in_ok-_dropped.ensures c.in_err-value.ensures)

pub returns : goal.returns
returns c = argument_read _ _ _ _ _ _ _ _ _ _ _ c.in_ok-ty.ensures c.in_ok-_dropped.ensures c.in_ok-value.ensures
