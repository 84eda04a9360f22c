use Rattle.std.proofs.Common.{inr}
use Rattle.std.proofs.lemmas.Result.{err_from_is_err_and}
use Rattle.ll_operands.specs.Parts.{mark_part}
use Rattle.ll_operands.proofs.Readings.{first_refused, mark_refused, told_as, told_refusal}
use Rattle.ll_heads.specs.HeadParts.{params_part, some_part}
use Rattle.ll_heads.proofs.ParamsRead.{all_begins, others_refused, params_read}
use Rattle.ll_heads.proofs.params.read_params.Goals as goal

pub returns-in_err-params-in-Err : goal.returns-in_err-params-in-Err
returns-in_err-params-in-Err c =
    let p = err_from_is_err_and c.from_residual.result c.from_residual.ensures.1 in
    rw p.1 (told_as params_part _ _ _ p.2 (others_refused _ _ c.in-Err.ensures.read (first_refused some_part (mark_part 41) _ _ c.in_err-params-in-Err.ensures)))

pub returns-in_err-rest-in-Err : goal.returns-in_err-rest-in-Err
returns-in_err-rest-in-Err c =
    let p = err_from_is_err_and c.from_residual-in_err-rest-in-Err.result c.from_residual-in_err-rest-in-Err.ensures.1 in
    rw p.1 (told_refusal params_part _ _ _ p.2 (inr (
      c.in-Err.ensures.read,
      inr (_, all_begins _ _ _ _ _ _ _ c.in_ok-params-in-Err.ensures, mark_refused 41 _ _ c.in_err-rest-in-Err.ensures.read c.in_err-rest-in-Err.ensures.place),
    )))

pub returns-in_ok-rest-in-Err : goal.returns-in_ok-rest-in-Err
returns-in_ok-rest-in-Err c = params_read _ _ _ _ _ _ _ _ c.in-Err.ensures.read c.in_ok-params-in-Err.ensures c.in_ok-rest-in-Err.ensures.read
