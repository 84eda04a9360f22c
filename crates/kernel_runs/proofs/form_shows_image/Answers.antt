use Rattle.kernel_runs.proofs.Forms.{form-shows-image}
use Rattle.kernel_runs.proofs.form_shows_image.Goals as goal

pub returns : goal.returns
returns c = form-shows-image
