use Rattle.std.proofs.Common.{codes}
use Rattle.std.proofs.lemmas.Result.{err_from_is_err_and}
use Rattle.ll_types.proofs.MembersRead.{derived}
use Rattle.ll_memory_ops.specs.AccessParts.{if_word_part, pointee, pointee_part}
use Rattle.ll_memory_ops.specs.AddressParts.{indexes_part}
use Rattle.ll_memory_ops.proofs.AccessesRead.{pointee_is_part}
use Rattle.ll_memory_ops.proofs.AddressesRead.{address_read}
use Rattle.ll_memory_ops.proofs.OperationsRead.{if_word_is_part, told_middle, told_third}
use Rattle.ll_memory_ops.proofs.addresses.read_address.Goals as goal

pub returns-in_err-base : goal.returns-in_err-base
returns-in_err-base c =
    let p = err_from_is_err_and c.from_residual.result c.from_residual.ensures.1 in
    rw p.1 (told_middle (if_word_part (codes "inbounds")) pointee_part indexes_part _ _ _ _ p.2 (if_word_is_part (codes "inbounds") _ _ _ c.take_if_word-inbounds.ensures.word c.take_if_word-inbounds.ensures.absent) c.in_err-base.ensures)

pub returns-in_err-indexes : goal.returns-in_err-indexes
returns-in_err-indexes c =
    let p = err_from_is_err_and c.from_residual-in_err-indexes.result c.from_residual-in_err-indexes.ensures.1 in
    rw p.1 (told_third (if_word_part (codes "inbounds")) pointee_part indexes_part _ _ _ _ p.2 (if_word_is_part (codes "inbounds") _ _ _ c.take_if_word-inbounds.ensures.word c.take_if_word-inbounds.ensures.absent) _ (pointee_is_part _ _ _ _ (derived pointee _ _ _ _ _ c.in_ok-base.ensures)) c.in_err-indexes.ensures)

pub returns : goal.returns
returns c = address_read _ _ _ _ _ _ _ _ _ _ _ c.address_of.ensures c.take_if_word-inbounds.ensures.word c.in_ok-base.ensures c.in_ok-indexes.ensures
