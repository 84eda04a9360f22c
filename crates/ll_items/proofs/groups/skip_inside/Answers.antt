use Rattle.std.proofs.Common.{refl}
use Rattle.ll_items.proofs.ItemsRead.{fewer_inside, inside_read, more_inside, none_inside}
use Rattle.ll_items.proofs.groups.skip_inside.Goals as goal

pub loop-behind-preserved : goal.loop-behind-preserved
loop-behind-preserved c = more_inside _ _ _ _ _ c.loop-behind.invariant c.last.ensures c.in-Some.ensures refl
