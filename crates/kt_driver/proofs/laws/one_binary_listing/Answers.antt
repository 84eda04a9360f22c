use Rattle.std.proofs.Common.{ap, sym, ◌∙◌}
use Rattle.spv_codec.proofs.FramingLaws.{one-module}
use Rattle.kt_driver.specs.BinaryListings.{binary_lines}
use Rattle.kt_driver.proofs.laws.one_binary_listing.Goals as goal

pub returns : goal.returns
returns c = λ input first second a b.
    a.lines ∙ ap binary_lines (one-module input a.raw b.raw a.spirv b.spirv) ∙ sym b.lines
