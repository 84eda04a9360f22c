use Rattle.std.proofs.Common.{codes}
use Rattle.std.proofs.lemmas.Result.{err_from_is_err_and}
use Rattle.ll_types.proofs.MembersRead.{derived}
use Rattle.ll_operands.specs.Operands.{two, two_part}
use Rattle.ll_operands.proofs.OperandFacts.{two_is_part}
use Rattle.ll_memory_ops.specs.AccessParts.{align_part, if_word_part}
use Rattle.ll_memory_ops.proofs.AccessesRead.{store_read}
use Rattle.ll_memory_ops.proofs.OperationsRead.{if_word_is_part, told_middle, told_third}
use Rattle.ll_memory_ops.proofs.accesses.read_plain_store.Goals as goal

pub returns-in_err-operands : goal.returns-in_err-operands
returns-in_err-operands c =
    let p = err_from_is_err_and c.from_residual.result c.from_residual.ensures.1 in
    rw p.1 (told_middle (if_word_part (codes "volatile")) two_part align_part _ _ _ _ p.2 (if_word_is_part (codes "volatile") _ _ _ c.take_if_word-volatile.ensures.word c.take_if_word-volatile.ensures.absent) c.in_err-operands.ensures)

pub returns-in_err-align : goal.returns-in_err-align
returns-in_err-align c =
    let p = err_from_is_err_and c.from_residual-in_err-align.result c.from_residual-in_err-align.ensures.1 in
    rw p.1 (told_third (if_word_part (codes "volatile")) two_part align_part _ _ _ _ p.2 (if_word_is_part (codes "volatile") _ _ _ c.take_if_word-volatile.ensures.word c.take_if_word-volatile.ensures.absent) _ (two_is_part _ _ _ _ (derived two _ _ _ _ _ c.in_ok-operands.ensures)) c.in_err-align.ensures)

pub returns : goal.returns
returns c = store_read _ _ _ _ _ _ _ _ _ _ c.store_of.ensures c.take_if_word-volatile.ensures.word c.in_ok-operands.ensures c.in_ok-align.ensures
