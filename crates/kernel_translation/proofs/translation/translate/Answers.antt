use Rattle.std.proofs.lemmas.Result.{err_from_is_err_and}
use Rattle.kernel_translation.proofs.Back.{and-back}
use Rattle.kernel_translation.proofs.Binaries.{form-numbered, is-translation}
use Rattle.kernel_translation.proofs.Sources.{outside-limits, uncovered-untranslated}
use Rattle.kernel_translation.proofs.translation.translate.Goals as goal

pub returns-in_err-kernel : goal.returns-in_err-kernel
returns-in_err-kernel c =
    let p = err_from_is_err_and c.from_residual.result c.from_residual.ensures.1 in
    rw p.1 (uncovered-untranslated c.args.order c.args.text.now _ _ p.2 c.in_err-kernel.ensures)

pub binary_within_limits-requires : goal.binary_within_limits-requires
binary_within_limits-requires c = form-numbered c.args.text.now c.in_ok-kernel.kernel c.in_ok-kernel.ensures

pub returns-in-Some : goal.returns-in-Some
returns-in-Some c =
    let found = rw c.in-Some.is at c.in_ok-bytes.ensures in
    and-back c.args.order c.args.text.now c.in-Some.bytes.items
    (is-translation c.args.order c.args.text.now c.in-Some.bytes.items c.in_ok-kernel.kernel c.in_ok-kernel.ensures found.0 found.1)

pub returns : goal.returns
returns c =
    let breaks = rw c.in-None.is at c.in_ok-bytes.ensures in
    outside-limits c.args.order c.args.text.now c.in_ok-kernel.kernel c.in_ok-kernel.ensures breaks
