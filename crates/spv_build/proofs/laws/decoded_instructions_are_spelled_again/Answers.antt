use Rattle.spv_codec.specs.Ids.{ids_of}
use Rattle.spv_layout.specs.Forms.{form_at}
use Rattle.spv_names.specs.Uses.{has_wide}
use Rattle.spv_build.proofs.FitsForm.{form-read}
use Rattle.spv_build.proofs.SpelledAgain.{spelled-again}
use Rattle.spv_build.proofs.laws.decoded_instructions_are_spelled_again.Goals as goal

pub returns : goal.returns
unfolding has_wide
returns c =
    λ before raw fits plain.
    spelled-again (has_wide before raw) raw (form-read (ids_of before) raw.op raw.operands (form_at raw.op) plain fits.right)
