use Rattle.std.proofs.Common.{inl, inr}
use Rattle.std.proofs.lemmas.Result.{err_from_is_err_and}
use Rattle.ll_parser.specs.GrammarValues.{typed}
use Rattle.ll_operands.specs.Operands.{two_part}
use Rattle.ll_operands.specs.Parts.{mark_part, ◌then◌, typed_part}
use Rattle.ll_operands.proofs.OperandFacts.{two_read}
use Rattle.ll_operands.proofs.Readings.{any_read, first_refused, mark_refused, second_refused, told_as, told_refusal, typed_refused}
use Rattle.ll_operands.proofs.operands.read_two.Goals as goal

pub returns-in_err-first : goal.returns-in_err-first
returns-in_err-first c =
    let p = err_from_is_err_and c.from_residual.result c.from_residual.ensures.1 in
    rw p.1 (told_as two_part _ _ _ p.2 (first_refused typed_part (mark_part 44 then typed_part) _ _ (typed_refused _ _ c.in_err-first.ensures)))

pub returns-in_err-after : goal.returns-in_err-after
returns-in_err-after c =
    let p = err_from_is_err_and c.from_residual-in_err-after.result c.from_residual-in_err-after.ensures.1 in
    rw p.1 (told_refusal two_part _ _ _ p.2 (inr (_, any_read typed _ _ _ _ _ c.in_ok-first.ensures, inl (mark_refused 44 _ _ c.in_err-after.ensures.read c.in_err-after.ensures.place))))

pub returns-in_err-second : goal.returns-in_err-second
returns-in_err-second c =
    let p = err_from_is_err_and c.from_residual-in_err-second.result c.from_residual-in_err-second.ensures.1 in
    rw p.1 (told_as two_part _ _ _ p.2 (second_refused typed_part (mark_part 44 then typed_part) _ _ _ (any_read typed _ _ _ _ _ c.in_ok-first.ensures)
    (second_refused (mark_part 44) typed_part _ _ _ c.in_ok-after.ensures.read (typed_refused _ _ c.in_err-second.ensures))))

pub returns : goal.returns
returns c = two_read _ _ _ _ _ _ _ _ _ c.in_ok-first.ensures c.in_ok-after.ensures.read c.in_ok-second.ensures
