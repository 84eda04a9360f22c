-- Programs are machines.
use Rattle.std.proofs.Common.{◌≡◌, ℕ, ◌<◌, ◌≤◌, Bool, true, false, List, [], ◌∷◌, Some, None, ap, refl, arith}
use Rattle.std.specs.Prelude.{Option, option_map, option_and_then, Result, Ok, Err, if◌then◌else◌}
use Rattle.std.specs.Option.{option_map_or}
use Rattle.kern_events.specs.declared.event.Event.{Event}
use Rattle.kern_events.specs.declared.outcome.Outcome.{Outcome}
use Rattle.kern_events.specs.declared.outcome.Outcome.TheVariants.{Running}
use Rattle.kern_lanes.specs.declared.trap.Trap.{Trap}
use Rattle.kern_runs.specs.Machines.{IsMachine}
use Rattle.kern_acts.specs.Shapes.{Access}
use Rattle.kern_acts.specs.Acts.{Operand, Act, Binary, Load, Store, Return, is_jump}
use Rattle.kern_acts.specs.Effects.{Effect, Done, Stops, Ending, Ends, Faults, Lacks, Setting, with_lanes, computed, loaded, effect, lanewise, taken, address_of}
use Rattle.kern_acts.specs.States.{Frame, Stage, Within, Over, State, outcome_of}
use Rattle.kern_acts.specs.Steps.{Program, IsProgram, Step, stepped, step, step_at, left_at, act_at, machine}

module _ (p : Program) (is : IsProgram p) (s : State) where
  -- a state that is over has no step
  over-still : (stage : Stage) (o : Outcome) → outcome_of stage ≡ Some o → step_at p s stage ≡ None
  over-still (Over ending) o come = refl
  over-still (Within frames) o come = absurd cc

  none-either : (b : Bool) (x : Option Step) → x ≡ None → (if b then None else x) ≡ None
  none-either true x e = refl
  none-either false x e = e

  no-step : (o : Outcome) → outcome_of s.stage ≡ Some o → step p s ≡ None
  no-step o come = none-either (p.is_placing s) (step_at p s s.stage) (over-still s.stage o come)

  -- no ending is running
  not-running : (stage : Stage) (o : Outcome) → outcome_of stage ≡ Some o → o ≡ Running → ⊥
  not-running (Over Ends) o come e = cc
  not-running (Over (Faults kind)) o come e = cc
  not-running (Over Lacks) o come e = cc
  not-running (Within frames) o come e = cc

  small-at : (stage : Stage) → left_at p stage ≤ p.size
  small-at (Over ending) = omega arith
  small-at (Within []) = omega arith
  small-at (Within (frame ∷ callers)) = is.small frame

  module _ (frame : Frame) (callers : List Frame) (act : Act) (stands : p.act s frame ≡ Some act) where
    -- the step leaves fewer instructions before the next jump
    Lowers : Effect → Type 0
    Lowers e = left_at p ((stepped s frame callers e).next.stage) < p.left frame

    lowers-done : (event : Option Event) (answers : List ℕ) (setting : Option Setting) → Lowers (Done event answers setting)
    unfolding Lowers
    lowers-done event answers setting = is.falls s frame act setting stands

    lowers-stops : (ending : Ending) → Lowers (Stops ending)
    unfolding Lowers
    lowers-stops ending = let falls = is.falls s frame act None stands in omega arith

    lowers-with : (operand : Operand) (next : List ℕ → Effect) → ((lanes : List ℕ) → Lowers (next lanes)) → Lowers (with_lanes operand next)
    lowers-with None next h = lowers-stops _
    lowers-with (Some lanes) next h = h lanes

    lowers-computed : (answers : List ℕ) (name : ℕ) (r : Result (List ℕ) Trap) → Lowers (computed answers name r)
    lowers-computed answers name (Ok lanes) = lowers-done _ _ _
    lowers-computed answers name (Err trap) = lowers-stops _

    lowers-loaded : (access : Access) (name address : ℕ) (given : Option (List ℕ × List ℕ)) → Lowers (loaded access name address given)
    lowers-loaded access name address None = lowers-stops _
    lowers-loaded access name address (Some given) = lowers-done _ _ _

    lowers : (a : Act) → is_jump a ≡ false → Lowers (effect s.answers a)
    lowers (Binary op width name left right) flat =
        lowers-with left _ (λ a. lowers-with right _ (λ b. lowers-computed s.answers name (lanewise op width a b)))
    lowers (Load access name pointer) flat =
        lowers-with pointer _ (λ a. lowers-loaded access name (address_of a) (taken access.shape.count s.answers))
    lowers (Store access value pointer) flat = lowers-with value _ (λ v. lowers-with pointer _ (λ a. lowers-done _ _ _))
    lowers Return flat = absurd cc

  -- the same of the step that stands there
  falls-act : (frame : Frame) (callers : List Frame) (x : Option Act) → p.act s frame ≡ x → option_map_or is_jump x true ≡ false
      → left_at p (option_map_or (λ (t : Step). t.next) (option_map (λ a. stepped s frame callers (effect s.answers a)) x) s).stage < p.left frame
  unfolding Lowers
  falls-act frame callers None stands flat = absurd cc
  falls-act frame callers (Some a) stands flat = lowers frame callers a stands a flat

  falls-stage : (stage : Stage) → option_map_or is_jump (act_at p s stage) true ≡ false
      → left_at p (option_map_or (λ (t : Step). t.next) (step_at p s stage) s).stage < left_at p stage
  falls-stage (Over ending) flat = absurd cc
  falls-stage (Within []) flat = absurd cc
  falls-stage (Within (frame ∷ callers)) flat = falls-act frame callers (p.act s frame) refl flat

  falls-placed : (b : Bool) → (if b then true else option_map_or is_jump (act_at p s s.stage) true) ≡ false
      → left_at p (option_map_or (λ (t : Step). t.next) (if b then None else step_at p s s.stage) s).stage < left_at p s.stage
  falls-placed true flat = absurd cc
  falls-placed false flat = falls-stage s.stage flat

pub is-machine : (p : Program) → IsProgram p → IsMachine (machine p)
is-machine p is = record {
  stays = λ s o come. ap (λ x. option_map_or (λ (t : Step). t.next) x s) (no-step p is s o come);
  silent = λ s o come. ap (λ x. option_and_then (λ (t : Step). t.event) x) (no-step p is s o come);
  comes = λ s o come. not-running p is s s.stage o come;
  falls = λ s none flat. falls-placed p is s (p.is_placing s) flat;
  small = λ s. small-at p is s s.stage;
}
