use Rattle.std.proofs.Common.{length, ◌-◌, ◌≡◌, ◌≤◌, take}
use Rattle.ports.specs.Streams.{Takes}
use Rattle.ports.proofs.transfer.write_all.Given as goal

-- the sink has taken what stands before this place, and no call failed
abbrev pub invariant-loop-at : goal.invariant-loop-at
invariant-loop-at g l =
    (l.at ≤ length l.bytes)
    × Takes (g.K.Sink.held l.initial.sink) (g.K.Sink.held l.sink) (take l.at l.bytes)
    × (g.K.Sink.faults l.sink ≡ g.K.Sink.faults l.initial.sink)

abbrev pub decreases-loop-at : goal.decreases-loop-at
decreases-loop-at g l = length l.bytes - l.at
