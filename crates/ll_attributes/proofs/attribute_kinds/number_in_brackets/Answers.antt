use Rattle.std.proofs.lemmas.Result.{err_from_is_err_and}
use Rattle.ll_parser.proofs.SpaceFacts.{bracketed_read, bracketed_none_at_open, bracketed_none_at_number, bracketed_none_at_close}
use Rattle.ll_attributes.proofs.attribute_kinds.number_in_brackets.Goals as goal

pub returns-in_err-inside-clause-read : goal.returns-in_err-inside-clause-read
returns-in_err-inside-clause-read c =
    let p = err_from_is_err_and c.from_residual.result c.from_residual.ensures.1 in rw p.1 (bracketed_none_at_open _ c.in_err-inside.ensures.read)

pub returns-in_err-value-clause-read : goal.returns-in_err-value-clause-read
returns-in_err-value-clause-read c =
    let p = err_from_is_err_and c.from_residual-in_err-value.result c.from_residual-in_err-value.ensures.1 in rw p.1 (bracketed_none_at_number _ _ c.in_ok-inside.ensures.read c.in_err-value.ensures.read)

pub returns-in_err-rest-clause-read : goal.returns-in_err-rest-clause-read
returns-in_err-rest-clause-read c =
    let p = err_from_is_err_and c.from_residual-in_err-rest.result c.from_residual-in_err-rest.ensures.1 in rw p.1 (bracketed_none_at_close _ _ _ _ c.in_ok-inside.ensures.read c.in_ok-value.ensures.read c.in_err-rest.ensures.read)

pub returns-clause-read : goal.returns-clause-read
returns-clause-read c = bracketed_read _ _ _ _ _ c.in_ok-inside.ensures.read c.in_ok-value.ensures.read c.in_ok-rest.ensures.read
