use Rattle.std.proofs.Common.{codes, inl, inr}
use Rattle.std.proofs.lemmas.Result.{err_from_is_err_and}
use Rattle.ll_parser.specs.GrammarValues.{typed}
use Rattle.ll_operands.specs.Parts.{◌then◌, type_part, typed_part, word_part}
use Rattle.ll_operands.proofs.Readings.{any_read, first_refused, second_refused, told_as, told_refusal, type_refused, typed_refused, word_refused}
use Rattle.ll_value_ops.specs.ValueOperations.{conversion_part}
use Rattle.ll_value_ops.proofs.OperationsRead.{conversion_read}
use Rattle.ll_value_ops.proofs.operations.read_conversion.Goals as goal

pub returns-in_err-operand : goal.returns-in_err-operand
returns-in_err-operand c =
    let p = err_from_is_err_and c.from_residual.result c.from_residual.ensures.1 in
    rw p.1 (told_as conversion_part _ _ _ p.2 (first_refused typed_part (word_part (codes "to") then type_part) _ _ (typed_refused _ _ c.in_err-operand.ensures)))

pub returns-in_err-target : goal.returns-in_err-target
returns-in_err-target c =
    let p = err_from_is_err_and c.from_residual-in_err-target.result c.from_residual-in_err-target.ensures.1 in
    rw p.1 (told_refusal conversion_part _ _ _ p.2
    (inr (_, any_read typed _ _ _ _ _ c.in_ok-operand.ensures, inl (word_refused (codes "to") _ _ c.in_err-target.ensures.read c.in_err-target.ensures.place))))

pub returns-in_err-to : goal.returns-in_err-to
returns-in_err-to c =
    let p = err_from_is_err_and c.from_residual-in_err-to.result c.from_residual-in_err-to.ensures.1 in
    rw p.1 (told_as conversion_part _ _ _ p.2
    (second_refused typed_part (word_part (codes "to") then type_part) _ _ _ (any_read typed _ _ _ _ _ c.in_ok-operand.ensures)
    (second_refused (word_part (codes "to")) type_part _ _ _ c.in_ok-target.ensures.read (type_refused _ _ c.in_err-to.ensures))))

pub returns : goal.returns
returns c = conversion_read _ _ _ _ _ _ _ _ _ _ c.in_ok-operand.ensures c.in_ok-target.ensures.read c.in_ok-to.ensures
