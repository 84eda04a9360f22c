use Rattle.std.proofs.Common.{codes}
use Rattle.std.proofs.lemmas.Result.{err_from_is_err_and}
use Rattle.ll_parser.specs.Productions.{word}
use Rattle.ll_operands.specs.Parts.{typed_part, word_part}
use Rattle.ll_operands.proofs.Readings.{told_as, typed_refused}
use Rattle.ll_flow_ops.specs.FlowParts.{return_part}
use Rattle.ll_flow_ops.proofs.OperationsRead.{other_refused, return_read, void_read}
use Rattle.ll_flow_ops.proofs.operations.read_return.Goals as goal

pub returns-in-Ok : goal.returns-in-Ok
returns-in-Ok c = void_read _ _ _ c.in-Ok.ensures.read

pub returns-in_err-value-in-Err : goal.returns-in_err-value-in-Err
returns-in_err-value-in-Err c =
    let p = err_from_is_err_and c.from_residual.result c.from_residual.ensures.1 in
    rw p.1 (told_as return_part _ _ _ p.2 (other_refused (word (codes "void")) (word_part (codes "void")) typed_part _ _ c.in-Err.ensures.read (typed_refused _ _ c.in_err-value-in-Err.ensures)))

pub returns-in_ok-value-in-Err : goal.returns-in_ok-value-in-Err
returns-in_ok-value-in-Err c = return_read _ _ _ _ _ c.in-Err.ensures.read c.in_ok-value-in-Err.ensures
