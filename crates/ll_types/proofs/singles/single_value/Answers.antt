use Rattle.std.proofs.lemmas.Result.{err_from_is_err_and}
use Rattle.ll_types.proofs.SingleFacts.{global_refused, local_refused, number_refused, word_refused}
use Rattle.ll_types.proofs.singles.single_value.Goals as goal

pub returns-in_err-name-in-Some-Local : goal.returns-in_err-name-in-Some-Local
returns-in_err-name-in-Some-Local c =
    let p = err_from_is_err_and c.from_residual.result c.from_residual.ensures.1 in
    let first = rw c.in-Some-Local.field-0-is at c.in-Some-Local.ensures in
    rw p.1 (local_refused _ _ _ _ p.2 first c.in_err-name-in-Some-Local.ensures.read)

pub returns-in_err-name-in-Some-Global : goal.returns-in_err-name-in-Some-Global
returns-in_err-name-in-Some-Global c =
    let p = err_from_is_err_and c.from_residual-in_err-name-in-Some-Global.result c.from_residual-in_err-name-in-Some-Global.ensures.1 in
    let first = rw c.in-Some-Global.field-0-is at c.in-Some-Global.ensures in
    rw p.1 (global_refused _ _ _ _ p.2 first c.in_err-name-in-Some-Global.ensures.read)

pub returns-in_err-number-in-Some-Int : goal.returns-in_err-number-in-Some-Int
returns-in_err-number-in-Some-Int c =
    let p = err_from_is_err_and c.from_residual-in_err-number-in-Some-Int.result c.from_residual-in_err-number-in-Some-Int.ensures.1 in
    let first = rw c.in-Some-Int.field-0-is at c.in-Some-Int.ensures in
    rw p.1 (number_refused _ _ _ _ p.2 first c.in_err-number-in-Some-Int.ensures.read c.in_err-number-in-Some-Int.ensures.place)

pub returns-in_err-value-in-Some-Word : goal.returns-in_err-value-in-Some-Word
returns-in_err-value-in-Some-Word c =
    let p = err_from_is_err_and c.from_residual-in_err-value-in-Some-Word.result c.from_residual-in_err-value-in-Some-Word.ensures.1 in
    let first = rw c.in-Some-Word.field-0-is at c.in-Some-Word.ensures in
    rw p.1 (word_refused _ _ _ _ p.2 first c.in_err-value-in-Some-Word.ensures.read c.in_err-value-in-Some-Word.ensures.place)
