use Rattle.kernel_runs.proofs.Forms.{image-size}
use Rattle.kernel_runs.proofs.image_sizes_are_same.Goals as goal

pub returns : goal.returns
returns c = image-size
