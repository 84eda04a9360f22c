use Rattle.std.proofs.lemmas.Result.{err_from_is_err_and}
use Rattle.ll_operands.specs.Parts.{operand_comma}
use Rattle.ll_memory_ops.specs.AddressParts.{index_part}
use Rattle.ll_memory_ops.proofs.OperationsRead.{optional_told}
use Rattle.ll_memory_ops.proofs.addresses.read_next_index.Goals as goal

pub returns-in_err-index-in-Some : goal.returns-in_err-index-in-Some
returns-in_err-index-in-Some c =
    let p = err_from_is_err_and c.from_residual.result c.from_residual.ensures.1 in
    rw p.1 (optional_told operand_comma index_part _ _ _ p.2 (_, c.in-Some.ensures) c.in_err-index-in-Some.ensures)
