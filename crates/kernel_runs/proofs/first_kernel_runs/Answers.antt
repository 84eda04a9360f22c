use Rattle.std.proofs.Common.{refl}
use Rattle.kernel_runs.specs.FirstKernel.{first_written, first_numbered}
use Rattle.kernel_runs.specs.FirstRuns.{Runs}
use Rattle.ll_play.specs.Meaning.{llvm_run, llvm_start}
use Rattle.kernel_runs.proofs.first_kernel_runs.Goals as goal

written : Runs first_written
unfolding llvm_run llvm_start
written = record {
  whole = refl;
  beyond = refl;
  before_the_end = refl;
  two_steps = refl;
  no_step = refl;
  no_answer = refl;
  no_answer_nor_step = refl;
  wraps = refl;
  reduces = refl;
  missing_arguments = refl;
  further_numbers = refl;
  no_kernel = refl;
}

numbered : Runs first_numbered
unfolding llvm_run llvm_start
numbered = record {
  whole = refl;
  beyond = refl;
  before_the_end = refl;
  two_steps = refl;
  no_step = refl;
  no_answer = refl;
  no_answer_nor_step = refl;
  wraps = refl;
  reduces = refl;
  missing_arguments = refl;
  further_numbers = refl;
  no_kernel = refl;
}

pub returns : goal.returns
unfolding llvm_run llvm_start
returns c = record {
  written = written;
  numbered = numbered;
  unset = refl;
  unset_later = refl;
  copies = refl;
  reads_twice = refl;
  reads_once = refl;
  stores_argument = refl;
  starts = refl;
  rests = refl;
}
