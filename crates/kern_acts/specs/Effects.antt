-- What an act comes to: its event, the answers that it takes, and the lanes that it sets.
use Rattle.std.specs.Prelude.{ℕ, zero, suc, ◌%◌, ◌^◌, List, [], ◌∷◌, map, get_or, Option, Some, None, option_map, Result, Ok, Err}
use Rattle.kern_lanes.specs.declared.binary.BinOp.{BinOp}
use Rattle.kern_lanes.specs.declared.trap.Trap.{Trap}
use Rattle.kern_lanes.specs.declared.trap.Trap.TheVariants as trap
use Rattle.kern_lanes.specs.declared.width.Width.{Width}
use Rattle.kern_lanes.specs.Binary.{binary}
use Rattle.kern_lanes.specs.Widths.{bits_of}
use Rattle.kern_events.specs.declared.event.Event.{Event}
use Rattle.kern_events.specs.declared.event.Event.TheVariants as event
use Rattle.kern_events.specs.declared.outcome.FaultKind.{FaultKind}
use Rattle.kern_events.specs.declared.outcome.FaultKind.TheVariants.{DivZero, DivOverflow, ShiftRange, LaneRange, Unset}
use Rattle.kern_acts.specs.Shapes.{Access}
use Rattle.kern_acts.specs.Acts.{Operand, Act, Binary, Load, Store, Return}

-- how a work-item comes to its end
pub data Ending : Type 0 where
  Ends : Ending
  Faults : FaultKind → Ending
  -- the event takes more answers than are left
  Lacks : Ending

-- a name and the lanes that it is set to
pub record Setting : Type 0 where
  pub name : ℕ
  pub lanes : List ℕ

pub data Effect : Type 0 where
  -- control goes on behind the instruction, with its event if it has one, the answers that are left, and what is set
  Done : (event : Option Event) (answers : List ℕ) (setting : Option Setting) → Effect
  -- the frame ends
  Leaves : Effect
  -- there is no event, and the work-item doesn't go on
  Stops : Ending → Effect

abbrev pub fault_of : Trap → FaultKind
fault_of trap.DivZero = DivZero
fault_of trap.DivOverflow = DivOverflow
fault_of trap.ShiftRange = ShiftRange
fault_of trap.LaneRange = LaneRange

-- what is done with the lanes of an operand, which are read first
abbrev pub with_lanes : Operand → (List ℕ → Effect) → Effect
with_lanes None next = Stops (Faults Unset)
with_lanes (Some lanes) next = next lanes

abbrev pub lane_and : Result ℕ Trap → Result (List ℕ) Trap → Result (List ℕ) Trap
lane_and (Err trap) rest = Err trap
lane_and (Ok lane) (Err trap) = Err trap
lane_and (Ok lane) (Ok lanes) = Ok (lane ∷ lanes)

-- an operation lane by lane: the least lane that traps gives the trap
abbrev pub lanewise : BinOp → Width → List ℕ → List ℕ → Result (List ℕ) Trap
lanewise op width [] right = Ok []
lanewise op width (a ∷ left) [] = Ok []
lanewise op width (a ∷ left) (b ∷ right) = lane_and (binary op width a b) (lanewise op width left right)

abbrev pub computed : List ℕ → ℕ → Result (List ℕ) Trap → Effect
computed answers name (Ok lanes) = Done None answers (Some (record { name = name; lanes = lanes }))
computed answers name (Err trap) = Stops (Faults (fault_of trap))

-- a number as a lane of this width
abbrev pub reduced : Width → ℕ → ℕ
reduced width number = number % 2 ^ bits_of width

-- so many answers and those behind them, none where there are fewer
abbrev pub taken : ℕ → List ℕ → Option (List ℕ × List ℕ)
taken zero answers = Some ([], answers)
taken (suc count) [] = None
taken (suc count) (answer ∷ answers) = option_map (λ (rest : List ℕ × List ℕ). (answer ∷ rest.0, rest.1)) (taken count answers)

-- an address is one lane
abbrev pub address_of : List ℕ → ℕ
address_of lanes = get_or lanes 0 0

abbrev pub load_event : Access → ℕ → List ℕ → Event
load_event access address lanes = event.Load access.class address access.shape.width access.align access.volatile lanes

abbrev pub store_event : Access → ℕ → List ℕ → Event
store_event access address lanes = event.Store access.class address access.shape.width access.align access.volatile lanes

-- a load takes an answer for each lane, reduced to the lane's width
abbrev pub loaded : Access → ℕ → ℕ → Option (List ℕ × List ℕ) → Effect
loaded access name address None = Stops Lacks
loaded access name address (Some (given, left)) =
    Done (Some (load_event access address (map (reduced access.shape.width) given))) left (Some (record { name = name; lanes = map (reduced access.shape.width) given }))

-- what an act comes to where these answers are left
abbrev pub effect : List ℕ → Act → Effect
effect answers (Binary op width name left right) =
    with_lanes left (λ a. with_lanes right (λ b. computed answers name (lanewise op width a b)))
effect answers (Load access name pointer) =
    with_lanes pointer (λ p. loaded access name (address_of p) (taken access.shape.count answers))
effect answers (Store access value pointer) =
    with_lanes value (λ v. with_lanes pointer (λ p. Done (Some (store_event access (address_of p) v)) answers None))
effect answers Return = Leaves
