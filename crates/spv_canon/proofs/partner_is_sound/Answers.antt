use Rattle.spv_canon.proofs.SoundPartner.{partner-sound}
use Rattle.spv_canon.proofs.partner_is_sound.Goals as goal

pub returns : goal.returns
returns c = partner-sound
