use Rattle.std.proofs.Common.{codes, inl, inr}
use Rattle.std.proofs.lemmas.Result.{err_from_is_err_and}
use Rattle.ll_operands.specs.Parts.{mark_part, ◌then◌, word_part}
use Rattle.ll_operands.proofs.Readings.{first_refused, mark_refused, second_refused, told_as, told_refusal, word_refused}
use Rattle.ll_heads.specs.HeadParts.{attachments_part, definition_part, head_part}
use Rattle.ll_heads.proofs.DefinitionsRead.{attachments_refused, definition_read, head_begins}
use Rattle.ll_heads.proofs.definitions.read_definition_start.Goals as goal

pub returns-in_err-behind : goal.returns-in_err-behind
returns-in_err-behind c =
    let p = err_from_is_err_and c.from_residual.result c.from_residual.ensures.1 in
    rw p.1 (told_refusal definition_part _ _ _ p.2 (inl (word_refused (codes "define") _ _ c.in_err-behind.ensures.read c.in_err-behind.ensures.place)))

pub returns-in_err-head : goal.returns-in_err-head
returns-in_err-head c =
    let p = err_from_is_err_and c.from_residual-in_err-head.result c.from_residual-in_err-head.ensures.1 in
    rw p.1 (told_as definition_part _ _ _ p.2 (second_refused (word_part (codes "define")) (head_part then attachments_part then mark_part 123) _ _ _ c.in_ok-behind.ensures.read
    (first_refused head_part (attachments_part then mark_part 123) _ _ c.in_err-head.ensures)))

pub returns-in_err-attachments : goal.returns-in_err-attachments
returns-in_err-attachments c =
    let p = err_from_is_err_and c.from_residual-in_err-attachments.result c.from_residual-in_err-attachments.ensures.1 in
    rw p.1 (told_as definition_part _ _ _ p.2 (second_refused (word_part (codes "define")) (head_part then attachments_part then mark_part 123) _ _ _ c.in_ok-behind.ensures.read
    (second_refused head_part (attachments_part then mark_part 123) _ _ _ (head_begins _ _ _ _ _ _ _ _ c.in_ok-head.ensures)
    (first_refused attachments_part (mark_part 123) _ _ (attachments_refused _ _ c.in_err-attachments.ensures)))))

pub returns-in_err-rest : goal.returns-in_err-rest
returns-in_err-rest c =
    let p = err_from_is_err_and c.from_residual-in_err-rest.result c.from_residual-in_err-rest.ensures.1 in
    rw p.1 (told_refusal definition_part _ _ _ p.2 (inr (
      _,
      c.in_ok-behind.ensures.read,
      inr (
        _,
        head_begins _ _ _ _ _ _ _ _ c.in_ok-head.ensures,
        inr (_, (_, c.in_ok-attachments.ensures), mark_refused 123 _ _ c.in_err-rest.ensures.read c.in_err-rest.ensures.place),
      ),
    )))

pub returns : goal.returns
returns c =
    definition_read _ _ _ _ _ _ _ _ _ _ _ _ _ _ _ _ c.first_place-byte.ensures c.in_ok-behind.ensures.read c.in_ok-head.ensures c.in_ok-attachments.ensures c.in_ok-rest.ensures.read
    c.unwrap_or-next.ensures c.as_slice-given.ensures c.first_named-kernel_arg_type.ensures c.first_named-reqd_work_group_size.ensures c.first_named-work_group_size_hint.ensures
