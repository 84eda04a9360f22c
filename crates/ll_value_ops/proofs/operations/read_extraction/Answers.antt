use Rattle.std.proofs.Common.{inl, inr}
use Rattle.std.proofs.lemmas.Result.{err_from_is_err_and}
use Rattle.ll_parser.specs.GrammarValues.{typed}
use Rattle.ll_operands.specs.Parts.{mark_part, number_part, ◌then◌, typed_part}
use Rattle.ll_operands.proofs.Readings.{any_read, first_refused, mark_refused, told_as, told_refusal, typed_refused}
use Rattle.ll_value_ops.specs.ValueOperations.{extraction_part}
use Rattle.ll_value_ops.proofs.OperationsRead.{extraction_read, number_refused}
use Rattle.ll_value_ops.proofs.operations.read_extraction.Goals as goal

pub returns-in_err-aggregate : goal.returns-in_err-aggregate
returns-in_err-aggregate c =
    let p = err_from_is_err_and c.from_residual.result c.from_residual.ensures.1 in
    rw p.1 (told_as extraction_part _ _ _ p.2 (first_refused typed_part (mark_part 44 then number_part) _ _ (typed_refused _ _ c.in_err-aggregate.ensures)))

pub returns-in_err-after : goal.returns-in_err-after
returns-in_err-after c =
    let p = err_from_is_err_and c.from_residual-in_err-after.result c.from_residual-in_err-after.ensures.1 in
    rw p.1 (told_refusal extraction_part _ _ _ p.2
    (inr (_, any_read typed _ _ _ _ _ c.in_ok-aggregate.ensures, inl (mark_refused 44 _ _ c.in_err-after.ensures.read c.in_err-after.ensures.place))))

pub returns-in_err-index : goal.returns-in_err-index
returns-in_err-index c =
    let p = err_from_is_err_and c.from_residual-in_err-index.result c.from_residual-in_err-index.ensures.1 in
    rw p.1 (told_refusal extraction_part _ _ _ p.2
    (inr (_, any_read typed _ _ _ _ _ c.in_ok-aggregate.ensures, inr (_, c.in_ok-after.ensures.read, number_refused _ _ c.in_err-index.ensures.read c.in_err-index.ensures.place))))

pub returns : goal.returns
returns c = extraction_read _ _ _ _ _ _ _ _ c.in_ok-aggregate.ensures c.in_ok-after.ensures.read c.in_ok-index.ensures.read
