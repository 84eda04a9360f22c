-- Runs of small kernels as modules of text: what they show, line by line.
use Rattle.std.specs.Prelude.{◌≡◌, ℕ, ◌+◌, ◌-◌, ◌^◌, false, List, [], ◌∷◌, Option, Some, None}
use Rattle.kern_lanes.specs.declared.width.Width.TheVariants.{W32}
use Rattle.kern_types.specs.declared.class.Class.TheVariants.{Global}
use Rattle.kern_events.specs.declared.event.Event.{Event}
use Rattle.kern_events.specs.declared.event.Event.TheVariants.{Load, Store}
use Rattle.kern_events.specs.declared.item.Inputs.{Inputs}
use Rattle.kern_events.specs.declared.outcome.FaultKind.TheVariants.{Unset}
use Rattle.kern_events.specs.declared.outcome.Outcome.{Outcome}
use Rattle.kern_events.specs.declared.outcome.Outcome.TheVariants.{Ended, Fault, Asks, Running}
use Rattle.kern_runs.specs.Runs.{Run}
use Rattle.ll_play.specs.Meaning.{llvm_run}
use Rattle.kernel_tree.specs.declared.kernel.Kernel.{Kernel}
use Rattle.kernel_tree.specs.Modules.{text_module}
use Rattle.kernel_runs.specs.FirstKernel.{first_written, first_numbered, without_definition, copying, reading_twice, storing, resting}

abbrev loads : ℕ → ℕ → Event
loads address number = Load Global address W32 4 false (number ∷ [])

abbrev stores : ℕ → ℕ → Event
stores address number = Store Global address W32 4 false (number ∷ [])

abbrev given : List ℕ → List ℕ → Inputs
given args answers = record { item = []; args = args; answers = answers }

abbrev shows : List Event → Outcome → Option Run
shows events outcome = Some (record { events = events; outcome = outcome })

-- the kernel by its name, on these numbers
abbrev run_of : Kernel → List ℕ → List ℕ → ℕ → Option Run
run_of kernel args answers steps = llvm_run (text_module kernel) (97 ∷ []) (given args answers) steps

pub record Runs (kernel : Kernel) : Type 0 where
  pub whole : run_of kernel (4096 ∷ 5 ∷ []) (7 ∷ []) 4 ≡ shows (loads 4096 7 ∷ stores 4096 12 ∷ []) Ended
  pub beyond : run_of kernel (4096 ∷ 5 ∷ []) (7 ∷ []) 1000 ≡ shows (loads 4096 7 ∷ stores 4096 12 ∷ []) Ended
  pub before_the_end : run_of kernel (4096 ∷ 5 ∷ []) (7 ∷ []) 3 ≡ shows (loads 4096 7 ∷ stores 4096 12 ∷ []) Running
  pub two_steps : run_of kernel (4096 ∷ 5 ∷ []) (7 ∷ []) 2 ≡ shows (loads 4096 7 ∷ []) Running
  pub no_step : run_of kernel (4096 ∷ 5 ∷ []) (7 ∷ []) 0 ≡ shows [] Running
  pub no_answer : run_of kernel (4096 ∷ 5 ∷ []) [] 1 ≡ shows [] Asks
  pub no_answer_nor_step : run_of kernel (4096 ∷ 5 ∷ []) [] 0 ≡ shows [] Running
  pub wraps : run_of kernel (4096 ∷ 5 ∷ []) ((2 ^ 32 - 2) ∷ []) 4 ≡ shows (loads 4096 (2 ^ 32 - 2) ∷ stores 4096 3 ∷ []) Ended
  -- arguments and answers are reduced to their widths
  pub reduces : run_of kernel ((2 ^ 64 + 8) ∷ (2 ^ 32 + 1) ∷ []) ((2 ^ 40 + 2) ∷ []) 4 ≡ shows (loads 8 2 ∷ stores 8 3 ∷ []) Ended
  -- missing arguments are 0, and further arguments and answers stay unread
  pub missing_arguments : run_of kernel [] (9 ∷ []) 4 ≡ shows (loads 0 9 ∷ stores 0 9 ∷ []) Ended
  pub further_numbers : run_of kernel (64 ∷ 1 ∷ 8 ∷ []) (2 ∷ 3 ∷ []) 4 ≡ shows (loads 64 2 ∷ stores 64 3 ∷ []) Ended
  pub no_kernel : llvm_run (text_module kernel) (98 ∷ []) (given [] []) 4 ≡ None

pub record FirstRuns : Type 0 where
  pub written : Runs first_written
  pub numbered : Runs first_numbered
  -- a name that isn't set yet
  pub unset : run_of without_definition (4096 ∷ 5 ∷ []) (7 ∷ []) 2 ≡ shows (loads 4096 7 ∷ []) (Fault Unset)
  pub unset_later : run_of without_definition (4096 ∷ 5 ∷ []) (7 ∷ []) 1000 ≡ shows (loads 4096 7 ∷ []) (Fault Unset)
  -- what is read and what is given is reduced to its width, also where nothing is computed
  pub copies : run_of copying (64 ∷ []) ((2 ^ 40 + 2) ∷ []) 3 ≡ shows (loads 64 2 ∷ stores 64 2 ∷ []) Ended
  -- each load takes the next answer
  pub reads_twice : run_of reading_twice (64 ∷ []) (7 ∷ 9 ∷ []) 4 ≡ shows (loads 64 7 ∷ loads 64 9 ∷ stores 64 9 ∷ []) Ended
  pub reads_once : run_of reading_twice (64 ∷ []) (7 ∷ []) 4 ≡ shows (loads 64 7 ∷ []) Asks
  pub stores_argument : run_of storing (64 ∷ (2 ^ 32 + 9) ∷ []) [] 2 ≡ shows (stores 64 9 ∷ []) Ended
  pub starts : run_of resting [] [] 0 ≡ shows [] Running
  pub rests : run_of resting [] [] 1 ≡ shows [] Ended
