-- Steps and runs of a work-item, over any program: what stands at a place of a module, read as an act.
use Rattle.std.specs.Prelude.{◌≡◌, ℕ, suc, ◌≤◌, ◌<◌, Bool, true, List, [], ◌∷◌, Option, Some, None, option_map, option_and_then, if◌then◌else◌}
use Rattle.std.specs.Option.{option_map_or}
use Rattle.kern_events.specs.declared.event.Event.{Event}
use Rattle.kern_runs.specs.Machines.{Machine}
use Rattle.kern_acts.specs.Acts.{Act, is_jump}
use Rattle.kern_acts.specs.Effects.{Effect, Done, Leaves, Stops, Ends, Setting, effect}
use Rattle.kern_acts.specs.States.{Frame, Stage, Within, Over, State, Values, set_to, outcome_of}

-- a module as steps see it
pub record Program : Type 0 where
  -- whether a variable of the module isn't placed yet
  pub is_placing : State → Bool
  -- what the instruction does at which the frame stands, none where there is none or it isn't covered
  pub act : State → Frame → Option Act
  -- how many instructions of the frame's block aren't done
  pub left : Frame → ℕ
  -- how many instructions the module has
  pub size : ℕ

-- what is seen of a step, and the state behind it
pub record Step : Type 0 where
  pub event : Option Event
  pub next : State

abbrev pub with_setting : Option Setting → Values → Values
with_setting None values = values
with_setting (Some setting) values = set_to setting values

-- the frame behind its instruction
abbrev pub behind : Option Setting → Frame → Frame
behind setting frame = record frame { position = suc frame.position; values = with_setting setting frame.values }

-- where control is when a frame has ended that gives no value: behind the call
abbrev pub left_for : List Frame → Stage
left_for [] = Over Ends
left_for (caller ∷ callers) = Within (behind None caller ∷ callers)

-- the step of an act that comes to this, in the innermost frame
abbrev pub stepped : State → Frame → List Frame → Effect → Step
stepped state frame callers (Done event answers setting) =
    record { event = event; next = record state { answers = answers; stage = Within (behind setting frame ∷ callers) } }
stepped state frame callers Leaves = record { event = None; next = record state { stage = left_for callers } }
stepped state frame callers (Stops ending) = record { event = None; next = record state { stage = Over ending } }

module _ (program : Program) where
  abbrev pub act_at : State → Stage → Option Act
  act_at state (Over ending) = None
  act_at state (Within []) = None
  act_at state (Within (frame ∷ callers)) = program.act state frame

  abbrev pub step_at : State → Stage → Option Step
  step_at state (Over ending) = None
  step_at state (Within []) = None
  step_at state (Within (frame ∷ callers)) =
      option_map (λ act. stepped state frame callers (effect state.answers act)) (program.act state frame)

  -- the step of a state: none where it is over. Where a variable waits for its place there is none yet, since variables aren't covered.
  abbrev pub step : State → Option Step
  step state = if program.is_placing state then None else step_at state state.stage

  abbrev pub left_at : Stage → ℕ
  left_at (Over ending) = 0
  left_at (Within []) = 0
  left_at (Within (frame ∷ callers)) = program.left frame

  -- whether the step is one of those that stand for exactly one step: a terminator, or no step at all
  abbrev pub is_jump_at : State → Bool
  is_jump_at state = if program.is_placing state then true else option_map_or is_jump (act_at state state.stage) true

  -- the states with their steps as a machine, in which a state without a step stays
  abbrev pub machine : Machine State
  machine = record {
    outcome = λ state. outcome_of state.stage;
    emits = λ state. option_and_then (λ (s : Step). s.event) (step state);
    next = λ state. option_map_or (λ (s : Step). s.next) (step state) state;
    jumps = is_jump_at;
    before_jump = λ state. left_at state.stage;
    size = program.size;
  }

  -- an instruction that is done is one less of its block, and no block has more than the module
  pub record IsProgram : Type 0 where
    pub falls : (state : State) (frame : Frame) (act : Act) (setting : Option Setting)
        → program.act state frame ≡ Some act → program.left (behind setting frame) < program.left frame
    pub small : (frame : Frame) → program.left frame ≤ program.size
