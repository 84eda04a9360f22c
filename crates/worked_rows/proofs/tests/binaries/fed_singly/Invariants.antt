use Rattle.std.proofs.Common.{◌≡◌, take}
use Rattle.worked_rows.proofs.tests.binaries.fed_singly.Given as goal

abbrev pub invariant-loop-byte : goal.invariant-loop-byte
invariant-loop-byte l = l.decoder.fed ≡ take l.byte-index l.bytes
