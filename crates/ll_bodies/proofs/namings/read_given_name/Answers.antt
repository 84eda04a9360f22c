use Rattle.std.proofs.Common.{inr, refl}
use Rattle.std.proofs.lemmas.Result.{err_from_is_err_and}
use Rattle.ll_operands.specs.Parts.{local_part, mark_part}
use Rattle.ll_operands.proofs.Readings.{any_read, first_refused, local_refused, mark_refused, told_refusal}
use Rattle.ll_parser.specs.GrammarValues.{local}
use Rattle.ll_bodies.specs.Namings.{given_part}
use Rattle.ll_bodies.proofs.NamingsRead.{given_read, given_refused, is_true}
use Rattle.ll_bodies.proofs.namings.read_given_name.Goals as goal

pub returns-in_err-name-in-Some : goal.returns-in_err-name-in-Some
returns-in_err-name-in-Some c =
    let p = err_from_is_err_and c.from_residual.result c.from_residual.ensures.1 in
    rw p.1 (given_refused _ _ _ _ _ p.2 (rw c.in-Some.is at c.split_first.ensures) (c.is_of_kind.ensures.0 (is_true _ c.if-is_of_kind.true)) (first_refused local_part (mark_part 61) _ _ (local_refused _ _ c.in_err-name-in-Some.ensures.read)))

pub returns-in_err-rest-in-Some : goal.returns-in_err-rest-in-Some
returns-in_err-rest-in-Some c =
    let p = err_from_is_err_and c.from_residual-in_err-rest-in-Some.result c.from_residual-in_err-rest-in-Some.ensures.1 in
    rw p.1 (given_refused _ _ _ _ _ refl (rw c.in-Some.is at c.split_first.ensures) (c.is_of_kind.ensures.0 (is_true _ c.if-is_of_kind.true)) (told_refusal given_part _ _ _ p.2 (inr (_, any_read local _ _ _ _ _ c.in_ok-name-in-Some.ensures.read, mark_refused 61 _ _ c.in_err-rest-in-Some.ensures.read c.in_err-rest-in-Some.ensures.place))))

pub returns-in_ok-rest-in-Some : goal.returns-in_ok-rest-in-Some
returns-in_ok-rest-in-Some c = given_read _ _ _ _ _ _ c.in_ok-name-in-Some.ensures.read c.in_ok-rest-in-Some.ensures.read
