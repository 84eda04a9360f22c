use Rattle.std.proofs.lemmas.Result.{err_from_is_err_and}
use Rattle.ll_operands.specs.Operands.{one_type_part}
use Rattle.ll_operands.specs.Parts.{◌then◌}
use Rattle.ll_operands.proofs.Readings.{second_refused, told_as}
use Rattle.ll_value_ops.specs.ValueOpcodes.{flags_part}
use Rattle.ll_value_ops.proofs.FlagsRead.{flags_begin}
use Rattle.ll_value_ops.proofs.OperationsRead.{binary_read}
use Rattle.ll_value_ops.proofs.operations.read_binary.Goals as goal

pub returns-in_err-operands : goal.returns-in_err-operands
returns-in_err-operands c =
    let p = err_from_is_err_and c.from_residual-in_err-operands.result c.from_residual-in_err-operands.ensures.1 in
    rw p.1 (told_as (flags_part then one_type_part) _ _ _ p.2 (second_refused flags_part one_type_part _ _ _ (flags_begin _ _ _ c.in_ok-flags.ensures) c.in_err-operands.ensures))

pub returns : goal.returns
returns c = binary_read _ _ _ _ _ _ _ _ _ c.binary_of.ensures c.in_ok-flags.ensures c.in_ok-operands.ensures
