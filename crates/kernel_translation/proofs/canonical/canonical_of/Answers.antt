use Rattle.std.proofs.lemmas.Result.{err_from_is_err_and}
use Rattle.kernel_translation.proofs.Sources.{no-form, unread-uncovered}
use Rattle.kernel_translation.proofs.canonical.canonical_of.Goals as goal

pub returns-in_err-kernel : goal.returns-in_err-kernel
returns-in_err-kernel c =
    let p = err_from_is_err_and c.from_residual.result c.from_residual.ensures.1 in
    rw p.1 (unread-uncovered c.args.input.now _ _ p.2 c.in_err-kernel.ensures)

pub returns-in-Err-Outside : goal.returns-in-Err-Outside
returns-in-Err-Outside c =
    let told = rw c.in-Err-Outside.field-0-is at c.in-Err-Outside.ensures in
    no-form c.args.input.now c.in_ok-kernel.kernel c.in_ok-kernel.ensures told.0 told.1
