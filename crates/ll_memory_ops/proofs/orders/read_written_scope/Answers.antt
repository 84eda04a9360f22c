use Rattle.std.proofs.Common.{codes, inl, inr}
use Rattle.std.proofs.lemmas.Result.{err_from_is_err_and}
use Rattle.ll_operands.specs.Parts.{mark_part, word_part, ◌then◌}
use Rattle.ll_operands.proofs.Readings.{first_refused, mark_refused, told_refusal, word_refused}
use Rattle.ll_memory_ops.specs.OrderParts.{text_part, written_scope_part}
use Rattle.ll_memory_ops.proofs.OperationsRead.{told_third}
use Rattle.ll_memory_ops.proofs.OrdersRead.{any_text_read, written_read}
use Rattle.ll_memory_ops.proofs.orders.read_written_scope.Goals as goal

pub returns-in_err-behind : goal.returns-in_err-behind
returns-in_err-behind c =
    let p = err_from_is_err_and c.from_residual.result c.from_residual.ensures.1 in
    rw p.1 (told_refusal written_scope_part _ _ _ p.2 (inl (word_refused (codes "syncscope") _ _ c.in_err-behind.ensures.read c.in_err-behind.ensures.place)))

pub returns-in_err-inside : goal.returns-in_err-inside
returns-in_err-inside c =
    let p = err_from_is_err_and c.from_residual-in_err-inside.result c.from_residual-in_err-inside.ensures.1 in
    rw p.1 (told_refusal written_scope_part _ _ _ p.2 (inr (_, c.in_ok-behind.ensures.read, inl (mark_refused 40 _ _ c.in_err-inside.ensures.read c.in_err-inside.ensures.place))))

pub returns-in_err-text : goal.returns-in_err-text
returns-in_err-text c =
    let p = err_from_is_err_and c.from_residual-in_err-text.result c.from_residual-in_err-text.ensures.1 in
    rw p.1 (told_third (word_part (codes "syncscope")) (mark_part 40) (text_part then mark_part 41) _ _ _ _ p.2 c.in_ok-behind.ensures.read _ c.in_ok-inside.ensures.read (first_refused text_part (mark_part 41) _ _ c.in_err-text.ensures))

pub returns-in_err-rest : goal.returns-in_err-rest
returns-in_err-rest c =
    let p = err_from_is_err_and c.from_residual-in_err-rest.result c.from_residual-in_err-rest.ensures.1 in
    rw p.1 (told_refusal written_scope_part _ _ _ p.2 (inr (_, c.in_ok-behind.ensures.read, inr (_, c.in_ok-inside.ensures.read, inr (_, any_text_read _ _ _ c.in_ok-text.ensures, mark_refused 41 _ _ c.in_err-rest.ensures.read c.in_err-rest.ensures.place)))))

pub returns : goal.returns
returns c = written_read _ _ _ _ _ _ c.in_ok-behind.ensures.read c.in_ok-inside.ensures.read c.in_ok-text.ensures c.in_ok-rest.ensures.read
