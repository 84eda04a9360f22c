use Rattle.std.proofs.Common.{◌≡◌, ◌<◌, ℕ, length, get_or}
use Rattle.kern_events.proofs.item.Item.new.Given as goal

abbrev pub invariant-loop-i : goal.invariant-loop-i
invariant-loop-i l = (length l.kept ≡ 27) × ((k : ℕ) → k < l.i → get_or l.kept k 0 ≡ get_or l.numbers k 0)
