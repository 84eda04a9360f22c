use Rattle.std.proofs.lemmas.Result.{err_from_is_err_and}
use Rattle.std.proofs.Common.{refl, ap, ◌∙◌}
use Rattle.kernel_text.specs.Grammar.{number_behind}
use Rattle.kernel_text.proofs.KernelFacts.{kernel_read, none_at_signature, none_at_block, none_at_end, nothing_left, something_left}
use Rattle.kernel_text.proofs.kernels.read_kernel.Goals as goal

pub returns-in_err-signature : goal.returns-in_err-signature
returns-in_err-signature c =
    let p = err_from_is_err_and c.from_residual.result c.from_residual.ensures.1 in
    rw p.1 (none_at_signature _ _ _ p.2 c.in_err-signature.ensures)

pub returns-in_err-block : goal.returns-in_err-block
returns-in_err-block c =
    let p = err_from_is_err_and c.from_residual-in_err-block.result c.from_residual-in_err-block.ensures.1 in
    rw p.1 (none_at_block _ _ _ _ _ _ _ p.2 c.in_ok-signature.ensures c.in_err-block.ensures)

pub returns-then-not-is_empty : goal.returns-then-not-is_empty
returns-then-not-is_empty c =
    none_at_end _ _ _ _ _ _ _ _ _ c.in_ok-signature.ensures c.in_ok-block.ensures (something_left _ _ c.is_empty.ensures c.if-not-is_empty.true)

pub returns : goal.returns
returns c =
    kernel_read _ _ _ _ _ _ _ _ _ _ c.in_ok-signature.ensures (c.in_ok-number.ensures ∙ ap (number_behind _) c.as_slice.ensures) c.in_ok-block.ensures (nothing_left _ _ c.is_empty.ensures c.if-not-is_empty.false) refl refl c.in_ok-into_items.ensures.names c.in_ok-into_items.ensures.once
