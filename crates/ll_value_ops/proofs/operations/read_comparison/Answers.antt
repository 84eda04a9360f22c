use Rattle.std.proofs.Common.{inl}
use Rattle.std.proofs.lemmas.Result.{err_from_is_err_and}
use Rattle.ll_operands.specs.Operands.{one_type_part}
use Rattle.ll_operands.specs.Parts.{◌then◌}
use Rattle.ll_operands.proofs.Readings.{second_refused, told_as, told_refusal}
use Rattle.ll_value_ops.specs.ValueOpcodes.{predicate_part}
use Rattle.ll_value_ops.proofs.OperationsRead.{comparison_read, predicate_refused}
use Rattle.ll_value_ops.proofs.operations.read_comparison.Goals as goal

pub returns-in_err-pred : goal.returns-in_err-pred
returns-in_err-pred c =
    let p = err_from_is_err_and c.from_residual.result c.from_residual.ensures.1 in
    rw p.1 (told_refusal (predicate_part then one_type_part) _ _ _ p.2 (inl (predicate_refused _ _ c.in_err-pred.ensures.read c.in_err-pred.ensures.place)))

pub returns-in_err-operands : goal.returns-in_err-operands
returns-in_err-operands c =
    let p = err_from_is_err_and c.from_residual-in_err-operands.result c.from_residual-in_err-operands.ensures.1 in
    rw p.1 (told_as (predicate_part then one_type_part) _ _ _ p.2 (second_refused predicate_part one_type_part _ _ _ (_, c.in_ok-pred.ensures.read) c.in_err-operands.ensures))

pub returns : goal.returns
returns c = comparison_read _ _ _ _ _ _ _ c.in_ok-pred.ensures.read c.in_ok-operands.ensures
