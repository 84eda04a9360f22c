use Rattle.std.proofs.Common.{codes, inl}
use Rattle.std.proofs.lemmas.Result.{err_from_is_err_and}
use Rattle.ll_operands.specs.Operands.{label_part}
use Rattle.ll_operands.specs.Parts.{local_part, word_part}
use Rattle.ll_operands.proofs.OperandFacts.{label_read}
use Rattle.ll_operands.proofs.Readings.{local_refused, second_refused, told_as, told_refusal, word_refused}
use Rattle.ll_operands.proofs.operands.read_label.Goals as goal

pub returns-in_err-behind : goal.returns-in_err-behind
returns-in_err-behind c =
    let p = err_from_is_err_and c.from_residual.result c.from_residual.ensures.1 in
    rw p.1 (told_refusal label_part _ _ _ p.2 (inl (word_refused (codes "label") _ _ c.in_err-behind.ensures.read c.in_err-behind.ensures.place)))

pub returns-in_err-name : goal.returns-in_err-name
returns-in_err-name c =
    let p = err_from_is_err_and c.from_residual-in_err-name.result c.from_residual-in_err-name.ensures.1 in
    rw p.1 (told_as label_part _ _ _ p.2 (second_refused (word_part (codes "label")) local_part _ _ _ c.in_ok-behind.ensures.read (local_refused _ _ c.in_err-name.ensures.read)))

pub returns : goal.returns
returns c = label_read _ _ _ _ _ _ c.in_ok-behind.ensures.read c.in_ok-name.ensures.read
