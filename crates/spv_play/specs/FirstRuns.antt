-- Runs of a small kernel, which adds its second argument to the number that its first argument points to: what they show, line by line.
use Rattle.std.specs.Prelude.{◌≡◌, ℕ, ◌+◌, ◌-◌, ◌^◌, false, List, [], ◌∷◌, Option, Some, None}
use Rattle.kern_lanes.specs.declared.width.Width.TheVariants.{W32}
use Rattle.kern_types.specs.declared.class.Class.TheVariants.{Global}
use Rattle.kern_events.specs.declared.event.Event.{Event}
use Rattle.kern_events.specs.declared.event.Event.TheVariants.{Load, Store}
use Rattle.kern_events.specs.declared.item.Inputs.{Inputs}
use Rattle.kern_events.specs.declared.outcome.Outcome.{Outcome}
use Rattle.kern_events.specs.declared.outcome.Outcome.TheVariants.{Ended, Asks, Running}
use Rattle.kern_runs.specs.Runs.{Run}
use Rattle.spv_module.specs.FirstKernel.{first_kernel}
use Rattle.spv_play.specs.Meaning.{spirv_run}

abbrev loads : ℕ → ℕ → Event
loads address number = Load Global address W32 4 false (number ∷ [])

abbrev stores : ℕ → ℕ → Event
stores address number = Store Global address W32 4 false (number ∷ [])

abbrev given : List ℕ → List ℕ → Inputs
given args answers = record { item = []; args = args; answers = answers }

abbrev shows : List Event → Outcome → Option Run
shows events outcome = Some (record { events = events; outcome = outcome })

-- the kernel by its name, on these numbers
abbrev first_run : List ℕ → List ℕ → ℕ → Option Run
first_run args answers steps = spirv_run first_kernel (97 ∷ []) (given args answers) steps

pub record FirstRuns : Type 0 where
  pub whole : first_run (4096 ∷ 5 ∷ []) (7 ∷ []) 4 ≡ shows (loads 4096 7 ∷ stores 4096 12 ∷ []) Ended
  pub beyond : first_run (4096 ∷ 5 ∷ []) (7 ∷ []) 1000 ≡ shows (loads 4096 7 ∷ stores 4096 12 ∷ []) Ended
  pub before_the_end : first_run (4096 ∷ 5 ∷ []) (7 ∷ []) 3 ≡ shows (loads 4096 7 ∷ stores 4096 12 ∷ []) Running
  pub two_steps : first_run (4096 ∷ 5 ∷ []) (7 ∷ []) 2 ≡ shows (loads 4096 7 ∷ []) Running
  pub no_step : first_run (4096 ∷ 5 ∷ []) (7 ∷ []) 0 ≡ shows [] Running
  pub no_answer : first_run (4096 ∷ 5 ∷ []) [] 1 ≡ shows [] Asks
  pub no_answer_nor_step : first_run (4096 ∷ 5 ∷ []) [] 0 ≡ shows [] Running
  pub wraps : first_run (4096 ∷ 5 ∷ []) ((2 ^ 32 - 2) ∷ []) 4 ≡ shows (loads 4096 (2 ^ 32 - 2) ∷ stores 4096 3 ∷ []) Ended
  -- arguments and answers are reduced to their widths
  pub reduces : first_run ((2 ^ 64 + 8) ∷ (2 ^ 32 + 1) ∷ []) ((2 ^ 40 + 2) ∷ []) 4 ≡ shows (loads 8 2 ∷ stores 8 3 ∷ []) Ended
  -- missing arguments are 0, and further arguments and answers stay unread
  pub missing_arguments : first_run [] (9 ∷ []) 4 ≡ shows (loads 0 9 ∷ stores 0 9 ∷ []) Ended
  pub further_numbers : first_run (64 ∷ 1 ∷ 8 ∷ []) (2 ∷ 3 ∷ []) 4 ≡ shows (loads 64 2 ∷ stores 64 3 ∷ []) Ended
  pub no_kernel : spirv_run first_kernel (98 ∷ []) (given [] []) 4 ≡ None
