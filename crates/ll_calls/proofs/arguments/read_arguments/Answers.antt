use Rattle.std.proofs.Common.{inr}
use Rattle.std.proofs.lemmas.Result.{err_from_is_err_and}
use Rattle.ll_operands.specs.Parts.{mark_part}
use Rattle.ll_operands.proofs.Readings.{first_refused, mark_refused, told_as, told_refusal}
use Rattle.ll_calls.specs.CallParts.{arguments_part, some_part}
use Rattle.ll_calls.proofs.ArgumentsRead.{all_read, none_read, others_refused, some_begin}
use Rattle.ll_calls.proofs.arguments.read_arguments.Goals as goal

pub returns-in-Ok : goal.returns-in-Ok
returns-in-Ok c = none_read _ _ _ _ c.new.ensures c.in-Ok.ensures.read

pub returns-in_err-arguments-in-Err : goal.returns-in_err-arguments-in-Err
returns-in_err-arguments-in-Err c =
    let p = err_from_is_err_and c.from_residual.result c.from_residual.ensures.1 in
    rw p.1 (told_as arguments_part _ _ _ p.2 (others_refused _ _ c.in-Err.ensures.read (first_refused some_part (mark_part 41) _ _ c.in_err-arguments-in-Err.ensures)))

pub returns-in_err-rest-in-Err : goal.returns-in_err-rest-in-Err
returns-in_err-rest-in-Err c =
    let p = err_from_is_err_and c.from_residual-in_err-rest-in-Err.result c.from_residual-in_err-rest-in-Err.ensures.1 in
    rw p.1 (told_refusal arguments_part _ _ _ p.2 (inr (
      c.in-Err.ensures.read,
      inr (_, some_begin _ _ _ _ _ c.in_ok-arguments-in-Err.ensures, mark_refused 41 _ _ c.in_err-rest-in-Err.ensures.read c.in_err-rest-in-Err.ensures.place),
    )))

pub returns-in_ok-rest-in-Err : goal.returns-in_ok-rest-in-Err
returns-in_ok-rest-in-Err c = all_read _ _ _ _ _ _ c.in_ok-arguments-in-Err.ensures c.in_ok-rest-in-Err.ensures.read
