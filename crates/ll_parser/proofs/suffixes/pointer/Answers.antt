use Rattle.std.proofs.lemmas.List.{length-map}
use Rattle.ll_tokens.specs.Tokens.{lexeme_of}
use Rattle.std.proofs.lemmas.Result.{err_from_is_err_and}
use Rattle.ll_parser.proofs.PointerFacts.{pointer_read, fails_at_space, fails_at_star}
use Rattle.ll_parser.proofs.suffixes.pointer.Goals as goal

pub returns-in_err-value : goal.returns-in_err-value
returns-in_err-value c =
    let p = err_from_is_err_and c.from_residual.result c.from_residual.ensures.1 in
    rw p.1 (fails_at_space _ _ _ _ p.2 c.if-begins_no_pointer.false c.begins_no_pointer.ensures c.in_err-value.ensures.read c.in_err-value.ensures.place)

pub returns-in_err-rest : goal.returns-in_err-rest
returns-in_err-rest c =
    let p = err_from_is_err_and c.from_residual-in_err-rest.result c.from_residual-in_err-rest.ensures.1 in
    rw p.1 (fails_at_star _ _ _ _ _ _ p.2 c.if-begins_no_pointer.false c.begins_no_pointer.ensures c.in_ok-value.ensures.read c.in_err-rest.ensures.read _ (length-map c.in_ok-value.behind.now lexeme_of) c.in_err-rest.ensures.place)

pub returns : goal.returns
returns c = pointer_read _ _ _ _ c.in_ok-value.ensures.read c.in_ok-rest.ensures.read
