use Rattle.std.proofs.lemmas.Result.{err_from_is_err_and}
use Rattle.ll_calls.proofs.ArgumentsRead.{first_told, more_told, some_read}
use Rattle.ll_calls.proofs.arguments.read_some_arguments.Goals as goal

pub returns-in_err-first : goal.returns-in_err-first
returns-in_err-first c =
    let p = err_from_is_err_and c.from_residual.result c.from_residual.ensures.1 in
    rw p.1 (first_told _ _ _ p.2 c.in_err-first.ensures)

pub returns-in_err-arguments : goal.returns-in_err-arguments
returns-in_err-arguments c =
    let p = err_from_is_err_and c.from_residual-in_err-arguments.result c.from_residual-in_err-arguments.ensures.1 in
    rw p.1 (more_told _ _ _ _ _ _ _ p.2 c.in_ok-first.ensures c.in_err-arguments.ensures)

pub returns : goal.returns
returns c = some_read _ _ _ _ _ _ _ _ _ _ c.in_ok-first.ensures c.new-arguments.ensures c.in_ok-push_argument.ensures c.in_ok-arguments.ensures
