use Rattle.spv_codec.proofs.FramingLaws.{module-or_fault}
use Rattle.kt_driver.proofs.laws.binary_listing_or_fault.Goals as goal

pub returns : goal.returns
returns c = λ input lines fault listing refused. module-or_fault input listing.raw fault listing.spirv refused
