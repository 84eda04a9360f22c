use Rattle.std.proofs.Common.{codes, inl}
use Rattle.std.proofs.lemmas.Result.{err_from_is_err_and}
use Rattle.ll_operands.specs.Parts.{word_part}
use Rattle.ll_operands.proofs.Readings.{second_refused, told_as, told_refusal, word_refused}
use Rattle.ll_heads.specs.HeadParts.{declaration_part, head_part}
use Rattle.ll_heads.proofs.HeadsRead.{declaration_read}
use Rattle.ll_heads.proofs.heads.read_declaration.Goals as goal

pub returns-in_err-behind : goal.returns-in_err-behind
returns-in_err-behind c =
    let p = err_from_is_err_and c.from_residual.result c.from_residual.ensures.1 in
    rw p.1 (told_refusal declaration_part _ _ _ p.2 (inl (word_refused (codes "declare") _ _ c.in_err-behind.ensures.read c.in_err-behind.ensures.place)))

pub returns-in_err-head : goal.returns-in_err-head
returns-in_err-head c =
    let p = err_from_is_err_and c.from_residual-in_err-head.result c.from_residual-in_err-head.ensures.1 in
    rw p.1 (told_as declaration_part _ _ _ p.2 (second_refused (word_part (codes "declare")) head_part _ _ _ c.in_ok-behind.ensures.read c.in_err-head.ensures))

pub returns : goal.returns
returns c = declaration_read _ _ _ _ _ _ _ _ c.first_place-byte.ensures c.in_ok-behind.ensures.read c.in_ok-head.ensures
