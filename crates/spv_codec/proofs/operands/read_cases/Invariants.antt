use Rattle.std.proofs.Common.{◌≡◌, length}
use Rattle.spv_codec.specs.Operands.{read_cases}
use Rattle.spv_codec.proofs.operands.read_cases.Given as goal

abbrev pub invariant-loop-width : goal.invariant-loop-width
invariant-loop-width l = read_cases l.width l.words ≡ read_cases l.width l.rest

abbrev pub decreases-loop-width : goal.decreases-loop-width
decreases-loop-width l = length l.rest
