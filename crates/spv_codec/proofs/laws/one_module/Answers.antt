use Rattle.spv_codec.proofs.FramingLaws.{one-module}
use Rattle.spv_codec.proofs.laws.one_module.Goals as goal

pub returns : goal.returns
returns c = one-module
