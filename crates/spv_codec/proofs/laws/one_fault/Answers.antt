use Rattle.spv_codec.proofs.FramingLaws.{one-fault}
use Rattle.spv_codec.proofs.laws.one_fault.Goals as goal

pub returns : goal.returns
returns c = one-fault
