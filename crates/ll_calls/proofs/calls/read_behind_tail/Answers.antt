use Rattle.std.proofs.Common.{codes, inl}
use Rattle.std.proofs.lemmas.Result.{err_from_is_err_and}
use Rattle.ll_operands.specs.Parts.{◌then◌, word_part}
use Rattle.ll_operands.proofs.Readings.{second_refused, told_as, told_refusal, word_refused}
use Rattle.ll_calls.specs.CallParts.{called_part}
use Rattle.ll_calls.proofs.CallsRead.{tail_read}
use Rattle.ll_calls.proofs.calls.read_behind_tail.Goals as goal

pub returns-in_err-inside : goal.returns-in_err-inside
returns-in_err-inside c =
    let p = err_from_is_err_and c.from_residual.result c.from_residual.ensures.1 in
    rw p.1 (told_refusal (word_part (codes "call") then called_part) _ _ _ p.2 (inl (word_refused (codes "call") _ _ c.in_err-inside.ensures.read c.in_err-inside.ensures.place)))

pub returns-in_err-called : goal.returns-in_err-called
returns-in_err-called c =
    let p = err_from_is_err_and c.from_residual-in_err-called.result c.from_residual-in_err-called.ensures.1 in
    rw p.1 (told_as (word_part (codes "call") then called_part) _ _ _ p.2 (second_refused (word_part (codes "call")) called_part _ _ _ c.in_ok-inside.ensures.read c.in_err-called.ensures))

pub returns : goal.returns
returns c = tail_read _ _ _ _ _ _ c.in_ok-inside.ensures.read c.in_ok-called.ensures
