use Rattle.std.proofs.lemmas.Result.{err_from_is_err_and}
use Rattle.ll_tokens.specs.Tokens.{lexemes_of}
use Rattle.ll_modules.proofs.ItemsRead.{no_item, small_told}
use Rattle.ll_modules.proofs.items.read_other_item.Goals as goal

pub returns-in_err-item : goal.returns-in_err-item
returns-in_err-item c =
    let p = err_from_is_err_and c.from_residual.result c.from_residual.ensures.1 in
    rw p.1 (small_told (lexemes_of c.args.tokens.now) _ _ p.2 c.in_err-item.ensures)

pub returns-in-None : goal.returns-in-None
returns-in-None c =
    let none = rw c.in-None.is at c.in_ok-item.ensures in
    no_item _ _ none.1 c.unexpected.ensures
