use Rattle.std.proofs.Common.{refl}
use Rattle.std.proofs.lemmas.Result.{err_from_is_err_and}
use Rattle.ll_modules.proofs.CollectedRead.{fewer_items, items_told, more_items, none_kept}
use Rattle.ll_modules.proofs.parsing.read_items.Goals as goal

pub loop-left-init : goal.loop-left-init
loop-left-init c = none_kept _ _ _ _ c.none_collected-kept.ensures refl

pub loop-left-smaller : goal.loop-left-smaller
loop-left-smaller c = fewer_items _ _ _ _ _ _ _ _ _ c.loop-left.invariant c.last.ensures c.in_ok-item.ensures

pub loop-left-preserved : goal.loop-left-preserved
loop-left-preserved c = more_items _ _ _ _ _ _ _ _ _ _ _ c.loop-left.invariant c.last.ensures c.in_ok-item.ensures c.in_ok-add_item.ensures refl

pub returns-in_err-item : goal.returns-in_err-item
returns-in_err-item c =
    let p = err_from_is_err_and c.from_residual.result c.from_residual.ensures.1 in
    rw p.1 (items_told _ _ _ _ _ _ _ _ p.2 c.loop-left.invariant c.last.ensures c.loop-left-test.true c.in_err-item.ensures)
