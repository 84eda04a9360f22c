use Rattle.std.proofs.Common.{inl}
use Rattle.std.proofs.lemmas.Result.{err_from_is_err_and}
use Rattle.ll_operands.specs.Parts.{mark_part, typed_part}
use Rattle.ll_operands.proofs.Readings.{mark_refused, told_refusal, typed_refused}
use Rattle.ll_memory_ops.specs.AddressParts.{index_part}
use Rattle.ll_memory_ops.proofs.AddressesRead.{index_read}
use Rattle.ll_memory_ops.proofs.OperationsRead.{told_second}
use Rattle.ll_memory_ops.proofs.addresses.read_index.Goals as goal

pub returns-in_err-inside : goal.returns-in_err-inside
returns-in_err-inside c =
    let p = err_from_is_err_and c.from_residual.result c.from_residual.ensures.1 in
    rw p.1 (told_refusal index_part _ _ _ p.2 (inl (mark_refused 44 _ _ c.in_err-inside.ensures.read c.in_err-inside.ensures.place)))

pub returns-in_err-index : goal.returns-in_err-index
returns-in_err-index c =
    let p = err_from_is_err_and c.from_residual-in_err-index.result c.from_residual-in_err-index.ensures.1 in
    rw p.1 (told_second (mark_part 44) typed_part _ _ _ p.2 _ c.in_ok-inside.ensures.read (typed_refused _ _ c.in_err-index.ensures))

pub returns : goal.returns
returns c = index_read _ _ _ _ _ _ c.in_ok-inside.ensures.read c.in_ok-index.ensures
