use Rattle.std.proofs.Common.{inl}
use Rattle.std.proofs.lemmas.Result.{err_from_is_err_and}
use Rattle.ll_parser.specs.GrammarInsts.{rmw_word}
use Rattle.ll_types.proofs.MembersRead.{derived}
use Rattle.ll_operands.specs.Operands.{two, two_part}
use Rattle.ll_operands.specs.Parts.{one_word, ◌then◌}
use Rattle.ll_operands.proofs.OperandFacts.{two_is_part}
use Rattle.ll_operands.proofs.Readings.{first_refused, second_refused, told_refusal}
use Rattle.ll_memory_ops.specs.AccessParts.{align_part}
use Rattle.ll_memory_ops.specs.AtomicParts.{update_part}
use Rattle.ll_memory_ops.specs.OrderParts.{scoped_order_part}
use Rattle.ll_memory_ops.proofs.AtomicsRead.{update_read}
use Rattle.ll_memory_ops.proofs.OperationsRead.{told_middle, told_third}
use Rattle.ll_memory_ops.proofs.OrdersRead.{one_word_refused, scoped_is_part}
use Rattle.ll_memory_ops.proofs.atomics.read_update.Goals as goal

pub returns-in_err-kind : goal.returns-in_err-kind
returns-in_err-kind c =
    let p = err_from_is_err_and c.from_residual.result c.from_residual.ensures.1 in
    rw p.1 (told_refusal update_part _ _ _ p.2 (inl (one_word_refused rmw_word _ _ c.in_err-kind.ensures.read c.in_err-kind.ensures.place)))

pub returns-in_err-operands : goal.returns-in_err-operands
returns-in_err-operands c =
    let p = err_from_is_err_and c.from_residual-in_err-operands.result c.from_residual-in_err-operands.ensures.1 in
    rw p.1 (told_middle (one_word rmw_word) two_part (scoped_order_part then align_part) _ _ _ _ p.2 (_, c.in_ok-kind.ensures.read) c.in_err-operands.ensures)

pub returns-in_err-ordered : goal.returns-in_err-ordered
returns-in_err-ordered c =
    let p = err_from_is_err_and c.from_residual-in_err-ordered.result c.from_residual-in_err-ordered.ensures.1 in
    rw p.1 (told_third (one_word rmw_word) two_part (scoped_order_part then align_part) _ _ _ _ p.2 (_, c.in_ok-kind.ensures.read) _ (two_is_part _ _ _ _ (derived two _ _ _ _ _ c.in_ok-operands.ensures)) (first_refused scoped_order_part align_part _ _ c.in_err-ordered.ensures))

pub returns-in_err-align : goal.returns-in_err-align
returns-in_err-align c =
    let p = err_from_is_err_and c.from_residual-in_err-align.result c.from_residual-in_err-align.ensures.1 in
    rw p.1 (told_third (one_word rmw_word) two_part (scoped_order_part then align_part) _ _ _ _ p.2 (_, c.in_ok-kind.ensures.read) _ (two_is_part _ _ _ _ (derived two _ _ _ _ _ c.in_ok-operands.ensures)) (second_refused scoped_order_part align_part _ _ _ (scoped_is_part _ _ _ c.in_ok-ordered.ensures) c.in_err-align.ensures))

pub returns : goal.returns
returns c = update_read _ _ _ _ _ _ _ _ _ _ _ _ c.update_of.ensures c.in_ok-kind.ensures.read c.in_ok-operands.ensures c.in_ok-ordered.ensures c.in_ok-align.ensures
