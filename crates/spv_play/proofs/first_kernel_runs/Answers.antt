use Rattle.std.proofs.Common.{refl}
use Rattle.spv_play.specs.Meaning.{spirv_run, spirv_start}
use Rattle.spv_play.proofs.first_kernel_runs.Goals as goal

pub returns : goal.returns
unfolding spirv_run spirv_start
returns c = record {
  whole = refl;
  beyond = refl;
  before_the_end = refl;
  two_steps = refl;
  no_step = refl;
  no_answer = refl;
  no_answer_nor_step = refl;
  wraps = refl;
  reduces = refl;
  missing_arguments = refl;
  further_numbers = refl;
  no_kernel = refl;
}
