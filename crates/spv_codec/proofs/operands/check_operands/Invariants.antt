use Rattle.std.proofs.Common.{◌≡◌, drop}
use Rattle.spv_codec.specs.Operands.{read_operands}
use Rattle.spv_codec.proofs.operands.check_operands.Given as goal

abbrev pub invariant-loop-kind : goal.invariant-loop-kind
invariant-loop-kind l = read_operands l.width l.kinds l.words ≡ read_operands l.width (drop l.kind-index l.kinds) l.rest
