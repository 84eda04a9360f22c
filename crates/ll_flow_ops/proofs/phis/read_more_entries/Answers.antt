use Rattle.std.proofs.Common.{refl}
use Rattle.std.proofs.lemmas.Result.{err_from_is_err_and}
use Rattle.ll_tree.specs.Types.{int_width}
use Rattle.ll_operands.specs.Parts.{repeated}
use Rattle.ll_operands.specs.Whole.{entry_comma}
use Rattle.ll_operands.proofs.Readings.{told_as}
use Rattle.ll_flow_ops.specs.FlowParts.{next_entry, next_entry_part}
use Rattle.ll_operands.proofs.ItemsRead.{item_fewer, none_yet, one_more, repeated_refused, so_far_times}
use Rattle.ll_flow_ops.proofs.PhisRead.{more_read, next_is_part, next_shortens}
use Rattle.ll_flow_ops.proofs.phis.read_more_entries.Goals as goal

pub loop-entries-init : goal.loop-entries-init
loop-entries-init c = none_yet (next_entry c.args.ty.now) (next_shortens c.args.ty.now) _ _ _ _ refl

pub returns-in_err-entry : goal.returns-in_err-entry
returns-in_err-entry c =
    let p = err_from_is_err_and c.from_residual.result c.from_residual.ensures.1 in
    rw p.1 (told_as (repeated entry_comma (next_entry_part (int_width c.args.ty.now))) _ _ _ p.2
    (repeated_refused entry_comma (next_entry_part (int_width c.args.ty.now)) _ _ _ (so_far_times (next_entry c.args.ty.now) (next_shortens c.args.ty.now) (next_entry_part (int_width c.args.ty.now)) (next_is_part c.args.ty.now) _ _ _ _ _ _ _ c.loop-entries.invariant c.last.ensures) c.in_err-entry.ensures))

pub loop-entries-smaller : goal.loop-entries-smaller
loop-entries-smaller c =
    let one = rw c.in-Some.is at c.in_ok-entry.ensures in item_fewer (next_entry c.args.ty.now) (next_shortens c.args.ty.now) _ _ _ _ _ _ _ _ _ _ c.loop-entries.invariant c.last.ensures one

pub loop-entries-preserved : goal.loop-entries-preserved
loop-entries-preserved c =
    let one = rw c.in-Some.is at c.in_ok-entry.ensures in one_more (next_entry c.args.ty.now) (next_shortens c.args.ty.now) _ _ _ _ _ _ _ _ _ _ _ _ c.loop-entries.invariant c.last.ensures one c.in_ok-push_entry.ensures refl

pub returns : goal.returns
returns c =
    let none = rw c.in_default.is at c.in_ok-entry.ensures in
    more_read c.args.ty.now _ _ _ _ _ _ _ _ _ none.0 c.loop-entries.invariant c.last.ensures c.last-2.ensures none.1
