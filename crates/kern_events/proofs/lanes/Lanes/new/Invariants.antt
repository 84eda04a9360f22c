use Rattle.std.proofs.Common.{◌≡◌, length, take}
use Rattle.kern_events.proofs.lanes.Lanes.new.Given as goal

abbrev pub invariant-loop-i : goal.invariant-loop-i
invariant-loop-i l = record {
  size : length l.kept ≡ 16;
  written : take l.i l.kept ≡ take l.i l.numbers;
}
