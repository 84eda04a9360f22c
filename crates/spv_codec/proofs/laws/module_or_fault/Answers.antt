use Rattle.spv_codec.proofs.FramingLaws.{module-or_fault}
use Rattle.spv_codec.proofs.laws.module_or_fault.Goals as goal

pub returns : goal.returns
returns c = module-or_fault
