use Rattle.std.proofs.lemmas.Result.{err_from_is_err_and}
use Rattle.ll_modules.proofs.ItemsRead.{others_told}
use Rattle.ll_modules.proofs.items.read_item.Goals as goal

pub returns-in_err-item : goal.returns-in_err-item
returns-in_err-item c =
    let p = err_from_is_err_and c.from_residual-in_err-item.result c.from_residual-in_err-item.ensures.1 in
    rw p.1 (others_told _ _ _ p.2 (c.begins_with_word.ensures.absent c.if-begins_with_word.false) (c.begins_with_word-2.ensures.absent c.if-begins_with_word-2.false) c.in_err-item.ensures)
