use Rattle.std.proofs.lemmas.Result.{err_from_is_err_and}
use Rattle.ll_types.proofs.MembersRead.{derived}
use Rattle.ll_operands.specs.Parts.{operand_comma, repeated}
use Rattle.ll_memory_ops.specs.AddressParts.{index, index_part}
use Rattle.ll_memory_ops.proofs.AddressesRead.{index_is_part, indexes_read}
use Rattle.ll_memory_ops.proofs.OperationsRead.{told_first, told_second}
use Rattle.ll_memory_ops.proofs.addresses.read_indexes.Goals as goal

pub returns-in_err-first : goal.returns-in_err-first
returns-in_err-first c =
    let p = err_from_is_err_and c.from_residual.result c.from_residual.ensures.1 in
    rw p.1 (told_first index_part (repeated operand_comma index_part) _ _ _ p.2 c.in_err-first.ensures)

pub returns-in_err-indexes : goal.returns-in_err-indexes
returns-in_err-indexes c =
    let p = err_from_is_err_and c.from_residual-in_err-indexes.result c.from_residual-in_err-indexes.ensures.1 in
    rw p.1 (told_second index_part (repeated operand_comma index_part) _ _ _ p.2 _ (index_is_part _ _ _ _ (derived index _ _ _ _ _ c.in_ok-first.ensures)) c.in_err-indexes.ensures)

pub returns : goal.returns
returns c = indexes_read _ _ _ _ _ _ _ _ _ _ c.in_ok-first.ensures c.new-indexes.ensures c.in_ok-push_index.ensures c.in_ok-indexes.ensures
