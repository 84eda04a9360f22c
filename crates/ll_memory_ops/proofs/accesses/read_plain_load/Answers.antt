use Rattle.std.proofs.Common.{codes}
use Rattle.std.proofs.lemmas.Result.{err_from_is_err_and}
use Rattle.ll_types.proofs.MembersRead.{derived}
use Rattle.ll_memory_ops.specs.AccessParts.{align_part, if_word_part, pointee, pointee_part}
use Rattle.ll_memory_ops.proofs.AccessesRead.{load_read, pointee_is_part}
use Rattle.ll_memory_ops.proofs.OperationsRead.{if_word_is_part, told_middle, told_third}
use Rattle.ll_memory_ops.proofs.accesses.read_plain_load.Goals as goal

pub returns-in_err-source : goal.returns-in_err-source
returns-in_err-source c =
    let p = err_from_is_err_and c.from_residual.result c.from_residual.ensures.1 in
    rw p.1 (told_middle (if_word_part (codes "volatile")) pointee_part align_part _ _ _ _ p.2 (if_word_is_part (codes "volatile") _ _ _ c.take_if_word-volatile.ensures.word c.take_if_word-volatile.ensures.absent) c.in_err-source.ensures)

pub returns-in_err-align : goal.returns-in_err-align
returns-in_err-align c =
    let p = err_from_is_err_and c.from_residual-in_err-align.result c.from_residual-in_err-align.ensures.1 in
    rw p.1 (told_third (if_word_part (codes "volatile")) pointee_part align_part _ _ _ _ p.2 (if_word_is_part (codes "volatile") _ _ _ c.take_if_word-volatile.ensures.word c.take_if_word-volatile.ensures.absent) _ (pointee_is_part _ _ _ _ (derived pointee _ _ _ _ _ c.in_ok-source.ensures)) c.in_err-align.ensures)

pub returns : goal.returns
returns c = load_read _ _ _ _ _ _ _ _ _ _ c.load_of.ensures c.take_if_word-volatile.ensures.word c.in_ok-source.ensures c.in_ok-align.ensures
