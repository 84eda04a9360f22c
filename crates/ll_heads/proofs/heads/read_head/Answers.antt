use Rattle.std.proofs.Common.{inl, inr}
use Rattle.std.proofs.lemmas.Result.{err_from_is_err_and}
use Rattle.ll_operands.specs.Parts.{mark_part, ◌then◌}
use Rattle.ll_operands.proofs.Readings.{first_refused, mark_refused, second_refused, told_as, told_refusal}
use Rattle.ll_heads.specs.HeadParts.{back_part, front_part, head_part, params_part}
use Rattle.ll_heads.proofs.HeadsRead.{front_begins, head_read}
use Rattle.ll_heads.proofs.ParamsRead.{params_begin}
use Rattle.ll_heads.proofs.heads.read_head.Goals as goal

pub returns-in_err-front : goal.returns-in_err-front
returns-in_err-front c =
    let p = err_from_is_err_and c.from_residual.result c.from_residual.ensures.1 in
    rw p.1 (told_as head_part _ _ _ p.2 (first_refused front_part (mark_part 40 then params_part then back_part) _ _ c.in_err-front.ensures))

pub returns-in_err-inside : goal.returns-in_err-inside
returns-in_err-inside c =
    let p = err_from_is_err_and c.from_residual-in_err-inside.result c.from_residual-in_err-inside.ensures.1 in
    rw p.1 (told_refusal head_part _ _ _ p.2 (inr (_, front_begins _ _ _ _ _ c.in_ok-front.ensures, inl (mark_refused 40 _ _ c.in_err-inside.ensures.read c.in_err-inside.ensures.place))))

pub returns-in_err-params : goal.returns-in_err-params
returns-in_err-params c =
    let p = err_from_is_err_and c.from_residual-in_err-params.result c.from_residual-in_err-params.ensures.1 in
    rw p.1 (told_as head_part _ _ _ p.2 (second_refused front_part (mark_part 40 then params_part then back_part) _ _ _ (front_begins _ _ _ _ _ c.in_ok-front.ensures)
    (second_refused (mark_part 40) (params_part then back_part) _ _ _ c.in_ok-inside.ensures.read (first_refused params_part back_part _ _ c.in_err-params.ensures))))

pub returns-in_err-rest : goal.returns-in_err-rest
returns-in_err-rest c =
    let p = err_from_is_err_and c.from_residual-in_err-rest.result c.from_residual-in_err-rest.ensures.1 in
    rw p.1 (told_refusal head_part _ _ _ p.2 (inr (
      _,
      front_begins _ _ _ _ _ c.in_ok-front.ensures,
      inr (_, c.in_ok-inside.ensures.read, inr (_, params_begin _ _ _ _ _ _ _ c.in_ok-params.ensures, c.in_err-rest.ensures)),
    )))

pub returns : goal.returns
returns c = head_read _ _ _ _ _ _ _ _ _ _ _ _ _ c.in_ok-front.ensures c.in_ok-inside.ensures.read c.in_ok-params.ensures c.in_ok-rest.ensures
