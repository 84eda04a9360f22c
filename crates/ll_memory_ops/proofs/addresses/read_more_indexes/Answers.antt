use Rattle.std.proofs.Common.{refl}
use Rattle.std.proofs.lemmas.Result.{err_from_is_err_and}
use Rattle.ll_operands.specs.Parts.{operand_comma, repeated}
use Rattle.ll_operands.proofs.ItemsRead.{item_fewer, none_yet, one_more, repeated_refused, so_far_times}
use Rattle.ll_operands.proofs.Readings.{told_as}
use Rattle.ll_memory_ops.specs.AddressParts.{index, index_part}
use Rattle.ll_memory_ops.proofs.AddressesRead.{index_is_part, index_shortens, more_read}
use Rattle.ll_memory_ops.proofs.addresses.read_more_indexes.Goals as goal

pub loop-indexes-init : goal.loop-indexes-init
loop-indexes-init c = none_yet index index_shortens _ _ _ _ refl

pub returns-in_err-index : goal.returns-in_err-index
returns-in_err-index c =
    let p = err_from_is_err_and c.from_residual.result c.from_residual.ensures.1 in
    rw p.1 (told_as (repeated operand_comma index_part) _ _ _ p.2 (repeated_refused operand_comma index_part _ _ _ (so_far_times index index_shortens index_part index_is_part _ _ _ _ _ _ _ c.loop-indexes.invariant c.last.ensures) c.in_err-index.ensures))

pub loop-indexes-smaller : goal.loop-indexes-smaller
loop-indexes-smaller c = let one = rw c.in-Some.is at c.in_ok-index.ensures in item_fewer index index_shortens _ _ _ _ _ _ _ _ _ _ c.loop-indexes.invariant c.last.ensures one

pub loop-indexes-preserved : goal.loop-indexes-preserved
loop-indexes-preserved c = let one = rw c.in-Some.is at c.in_ok-index.ensures in one_more index index_shortens _ _ _ _ _ _ _ _ _ _ _ _ c.loop-indexes.invariant c.last.ensures one c.in_ok-push_index.ensures refl

pub returns : goal.returns
returns c = let none = rw c.in_default.is at c.in_ok-index.ensures in more_read _ _ _ _ _ _ _ _ _ none.0 c.loop-indexes.invariant c.last.ensures c.last-2.ensures none.1
