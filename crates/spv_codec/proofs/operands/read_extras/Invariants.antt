use Rattle.std.proofs.Common.{◌≡◌, drop}
use Rattle.spv_codec.specs.Operands.{read_extras}
use Rattle.spv_codec.proofs.operands.read_extras.Given as goal

abbrev pub invariant-loop-extra : goal.invariant-loop-extra
invariant-loop-extra l = read_extras l.extras l.words ≡ read_extras (drop l.extra-index l.extras) l.rest
