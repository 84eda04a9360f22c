use Rattle.std.proofs.Common.{sym, ◌∙◌}
use Rattle.spv_module.proofs.MergeLemmas.{right_popped, left_popped, right_less, left_less}
use Rattle.spv_module.proofs.declared.pop_lower.Goals as goal

pub returns-then-takes_right-clause-next : goal.returns-then-takes_right-clause-next
returns-then-takes_right-clause-next c =
    let test = rw (c.deref.ensures.value, c.deref-2.ensures.value) at (sym c.takes_right.ensures ∙ c.if-takes_right.true) in
    right_popped c.args.left.now.items c.args.right.now.items _ _ test c.pop_last.ensures

pub returns-then-takes_right-clause-smaller : goal.returns-then-takes_right-clause-smaller
returns-then-takes_right-clause-smaller c = right_less c.args.left.now.items c.args.right.now.items _ _ c.pop_last.ensures

pub returns-else-takes_right-clause-next : goal.returns-else-takes_right-clause-next
returns-else-takes_right-clause-next c =
    let test = rw (c.deref.ensures.value, c.deref-2.ensures.value) at (sym c.takes_right.ensures ∙ c.if-takes_right.false) in
    left_popped c.args.left.now.items _ c.args.right.now.items _ test c.pop_last-else-takes_right.ensures

pub returns-else-takes_right-clause-smaller : goal.returns-else-takes_right-clause-smaller
returns-else-takes_right-clause-smaller c = left_less c.args.left.now.items _ c.args.right.now.items _ c.pop_last-else-takes_right.ensures
