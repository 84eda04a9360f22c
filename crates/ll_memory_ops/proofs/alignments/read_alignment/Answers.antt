use Rattle.std.proofs.Common.{codes, inl, inr}
use Rattle.std.proofs.lemmas.Result.{err_from_is_err_and}
use Rattle.ll_operands.proofs.Readings.{mark_refused, told_refusal, word_refused}
use Rattle.ll_memory_ops.specs.AccessParts.{alignment_part}
use Rattle.ll_memory_ops.proofs.AccessesRead.{alignment_read}
use Rattle.ll_memory_ops.proofs.OperationsRead.{number_refused}
use Rattle.ll_memory_ops.proofs.alignments.read_alignment.Goals as goal

pub returns-in_err-behind : goal.returns-in_err-behind
returns-in_err-behind c =
    let p = err_from_is_err_and c.from_residual.result c.from_residual.ensures.1 in
    rw p.1 (told_refusal alignment_part _ _ _ p.2 (inl (mark_refused 44 _ _ c.in_err-behind.ensures.read c.in_err-behind.ensures.place)))

pub returns-in_err-inside : goal.returns-in_err-inside
returns-in_err-inside c =
    let p = err_from_is_err_and c.from_residual-in_err-inside.result c.from_residual-in_err-inside.ensures.1 in
    rw p.1 (told_refusal alignment_part _ _ _ p.2 (inr (_, c.in_ok-behind.ensures.read, inl (word_refused (codes "align") _ _ c.in_err-inside.ensures.read c.in_err-inside.ensures.place))))

pub returns-in_err-bytes : goal.returns-in_err-bytes
returns-in_err-bytes c =
    let p = err_from_is_err_and c.from_residual-in_err-bytes.result c.from_residual-in_err-bytes.ensures.1 in
    rw p.1 (told_refusal alignment_part _ _ _ p.2 (inr (_, c.in_ok-behind.ensures.read, inr (_, c.in_ok-inside.ensures.read, number_refused _ _ c.in_err-bytes.ensures.read c.in_err-bytes.ensures.place))))

pub returns : goal.returns
returns c = alignment_read _ _ _ _ _ c.in_ok-behind.ensures.read c.in_ok-inside.ensures.read c.in_ok-bytes.ensures.read
