use Rattle.std.proofs.lemmas.Result.{err_from_is_err_and}
use Rattle.ll_types.proofs.MembersRead.{derived}
use Rattle.ll_operands.specs.Operands.{two, two_part}
use Rattle.ll_operands.specs.Parts.{◌then◌}
use Rattle.ll_operands.proofs.OperandFacts.{two_is_part}
use Rattle.ll_memory_ops.specs.AccessParts.{alignment_part}
use Rattle.ll_memory_ops.specs.OrderParts.{scoped_order_part}
use Rattle.ll_memory_ops.proofs.AccessesRead.{atomic_store_read}
use Rattle.ll_memory_ops.proofs.OperationsRead.{told_first, told_middle, told_third}
use Rattle.ll_memory_ops.proofs.OrdersRead.{scoped_is_part}
use Rattle.ll_memory_ops.proofs.accesses.read_atomic_store.Goals as goal

pub returns-in_err-operands : goal.returns-in_err-operands
returns-in_err-operands c =
    let p = err_from_is_err_and c.from_residual.result c.from_residual.ensures.1 in
    rw p.1 (told_first two_part (scoped_order_part then alignment_part) _ _ _ p.2 c.in_err-operands.ensures)

pub returns-in_err-ordered : goal.returns-in_err-ordered
returns-in_err-ordered c =
    let p = err_from_is_err_and c.from_residual-in_err-ordered.result c.from_residual-in_err-ordered.ensures.1 in
    rw p.1 (told_middle two_part scoped_order_part alignment_part _ _ _ _ p.2 (two_is_part _ _ _ _ (derived two _ _ _ _ _ c.in_ok-operands.ensures)) c.in_err-ordered.ensures)

pub returns-in_err-align : goal.returns-in_err-align
returns-in_err-align c =
    let p = err_from_is_err_and c.from_residual-in_err-align.result c.from_residual-in_err-align.ensures.1 in
    rw p.1 (told_third two_part scoped_order_part alignment_part _ _ _ _ p.2 (two_is_part _ _ _ _ (derived two _ _ _ _ _ c.in_ok-operands.ensures)) _ (scoped_is_part _ _ _ c.in_ok-ordered.ensures) c.in_err-align.ensures)

pub returns : goal.returns
returns c = atomic_store_read _ _ _ _ _ _ _ _ _ _ c.atomic_store_of.ensures c.in_ok-operands.ensures c.in_ok-ordered.ensures c.in_ok-align.ensures
