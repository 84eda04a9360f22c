use Rattle.std.proofs.Common.{◌≡◌, ◌+◌, ◌++◌, length, reverse}
use Rattle.spv_module.specs.Sections.{merged}
use Rattle.spv_module.proofs.declared.merge.Given as goal

abbrev pub invariant-loop-next : goal.invariant-loop-next
invariant-loop-next l = l.all.items ++ merged (reverse l.left.items) (reverse l.right.items) ≡ merged l.fn.left.items l.fn.right.items

abbrev pub decreases-loop-next : goal.decreases-loop-next
decreases-loop-next l = length l.left.items + length l.right.items
