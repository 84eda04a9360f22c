use Rattle.std.proofs.Common.{◌∙◌, ap}
use Rattle.kernel_reading.proofs.FormsCanonical.{forms-canonical}
use Rattle.to_llvm.specs.Guesses.{guessed}
use Rattle.to_llvm.proofs.LawLemmas.{form-given, form-numbered, no-form, none-given, the-answer}
use Rattle.to_llvm.proofs.canonical_kernel.to_llvm.Goals as goal

pub confirmed-requires : goal.confirmed-requires
confirmed-requires c =
    form-numbered forms-canonical c.in_ok-guess.guess c.in-Some.form
    (form-given c.in_ok-guess.guess c.in-Some.form c.in_ok-form.field-0 c.in-Some.is c.in_ok-form.ensures)

pub returns-in-Some : goal.returns-in-Some
returns-in-Some c =
    the-answer forms-canonical c.args.raw.now c.in_ok-guess.guess c.in-Some.form c.confirmed.result
    (c.in_ok-guess.ensures ∙ ap guessed c.as_slice.ensures)
    (form-given c.in_ok-guess.guess c.in-Some.form c.in_ok-form.field-0 c.in-Some.is c.in_ok-form.ensures) c.confirmed.ensures

pub returns : goal.returns
returns c =
    no-form c.args.raw.now c.in_ok-guess.guess (c.in_ok-guess.ensures ∙ ap guessed c.as_slice.ensures)
    (none-given c.in_ok-guess.guess c.in_ok-form.field-0 c.in-None.is c.in_ok-form.ensures)
