use Rattle.std.proofs.lemmas.Result.{err_from_is_err_and}
use Rattle.ll_operands.proofs.Readings.{told_as, type_refused, type_refused_first}
use Rattle.ll_flow_ops.specs.FlowParts.{entries_part, phi_part}
use Rattle.ll_flow_ops.proofs.PhisRead.{entries_told, phi_read}
use Rattle.ll_flow_ops.proofs.phis.read_phi.Goals as goal

pub returns-in_err-ty : goal.returns-in_err-ty
returns-in_err-ty c =
    let p = err_from_is_err_and c.from_residual.result c.from_residual.ensures.1 in
    rw p.1 (told_as phi_part _ _ _ p.2 (type_refused_first entries_part _ _ (type_refused _ _ c.in_err-ty.ensures)))

pub returns-in_err-entries : goal.returns-in_err-entries
returns-in_err-entries c =
    let p = err_from_is_err_and c.from_residual-in_err-entries.result c.from_residual-in_err-entries.ensures.1 in
    rw p.1 (entries_told _ _ _ _ _ _ _ p.2 c.in_ok-ty.ensures c.in_err-entries.ensures)

pub returns : goal.returns
returns c = phi_read _ _ _ _ _ _ _ _ c.in_ok-ty.ensures c.in_ok-entries.ensures
