use Rattle.std.proofs.lemmas.Result.{err_from_is_err_and}
use Rattle.kernel_text.proofs.SignatureFacts.{signature_fails_at_head, signature_fails_at_name, signature_fails_at_start, signature_fails_at_params, signature_read}
use Rattle.kernel_text.proofs.signatures.read_signature.Goals as goal

pub returns-in_err-has_targets : goal.returns-in_err-has_targets
returns-in_err-has_targets c =
    let p = err_from_is_err_and c.from_residual.result c.from_residual.ensures.1 in
    rw p.1 (signature_fails_at_head _ _ _ p.2 c.in_err-has_targets.ensures)

pub returns-in_err-name : goal.returns-in_err-name
returns-in_err-name c =
    let p = err_from_is_err_and c.from_residual-in_err-name.result c.from_residual-in_err-name.ensures.1 in
    rw p.1 (signature_fails_at_name _ _ _ _ _ p.2 c.in_ok-has_targets.ensures c.in_err-name.ensures)

pub returns-in_err-inside : goal.returns-in_err-inside
returns-in_err-inside c =
    let p = err_from_is_err_and c.from_residual-in_err-inside.result c.from_residual-in_err-inside.ensures.1 in
    rw p.1 (signature_fails_at_start _ _ _ _ _ _ _ _ _ p.2 c.in_ok-has_targets.ensures c.in_ok-name.ensures c.in_err-inside.ensures)

pub returns-in_err-params : goal.returns-in_err-params
returns-in_err-params c =
    let p = err_from_is_err_and c.from_residual-in_err-params.result c.from_residual-in_err-params.ensures.1 in
    rw p.1 (signature_fails_at_params _ _ _ _ _ _ _ _ _ _ p.2 c.in_ok-has_targets.ensures c.in_ok-name.ensures c.in_ok-inside.ensures c.in_err-params.ensures)

pub returns : goal.returns
returns c =
    signature_read _ _ _ _ _ _ _ _ _ _ _ c.in_ok-has_targets.ensures c.in_ok-name.ensures c.in_ok-inside.ensures c.in_ok-params.ensures
