use Rattle.std.proofs.Common.{◌≡◌, Some, take}
use Rattle.kern_events.specs.NumberLists.{reading_of}
use Rattle.kern_events.proofs.listing.read_numbers.Given as goal

abbrev pub invariant-loop-place : goal.invariant-loop-place
invariant-loop-place l = reading_of (take l.place l.bytes) ≡ Some (record { done = l.numbers.items; begun = l.begun })
