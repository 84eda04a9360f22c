-- The states of a work-item.
use Rattle.std.specs.Prelude.{ℕ, zero, suc, ◌==◌, List, [], ◌∷◌, drop, Option, Some, None, if◌then◌else◌}
use Rattle.kern_lanes.specs.declared.width.Width.{Width}
use Rattle.kern_events.specs.declared.item.Inputs.{Inputs}
use Rattle.kern_events.specs.declared.outcome.Outcome.{Outcome}
use Rattle.kern_events.specs.declared.outcome.Outcome.TheVariants.{Ended, Fault, Asks}
use Rattle.kern_acts.specs.Shapes.{Shape}
use Rattle.kern_acts.specs.Effects.{Ending, Ends, Faults, Lacks, Setting, reduced}

-- the lanes of each name that is set
abbrev pub Values : Type 0
Values = ℕ → Option (List ℕ)

abbrev pub none_set : Values
none_set name = None

abbrev pub set_to : Setting → Values → Values
set_to setting values name = if name == setting.name then Some setting.lanes else values name

-- a call that isn't over: the place of its function among the module's, the place of the block among the function's, the place of the
-- block from which control came, how many instructions of the block are done, and the lanes of its names
pub record Frame : Type 0 where
  pub function : ℕ
  pub block : ℕ
  pub before : Option ℕ
  pub position : ℕ
  pub values : Values

-- the frames, the innermost call first, or what it has come to
pub data Stage : Type 0 where
  Within : List Frame → Stage
  Over : Ending → Stage

-- the numbers of the work-item, which no step changes; the addresses of the module's variables, as far as these are placed, in their
-- order; the answers that are left; and the stage
pub record State : Type 0 where
  pub item : List ℕ
  pub placed : List ℕ
  pub answers : List ℕ
  pub stage : Stage

abbrev pub outcome_of_ending : Ending → Outcome
outcome_of_ending Ends = Ended
outcome_of_ending (Faults kind) = Fault kind
outcome_of_ending Lacks = Asks

abbrev pub outcome_of : Stage → Option Outcome
outcome_of (Within frames) = None
outcome_of (Over ending) = Some (outcome_of_ending ending)

-- a parameter of a kernel
pub record Parameter : Type 0 where
  pub name : ℕ
  pub shape : Shape

-- so many lanes of a width from the numbers that are given: missing ones are 0
abbrev pub lanes_given : Width → ℕ → List ℕ → List ℕ
lanes_given width zero given = []
lanes_given width (suc count) [] = 0 ∷ lanes_given width count []
lanes_given width (suc count) (number ∷ given) = reduced width number ∷ lanes_given width count given

-- the parameters set, one number for each lane, from the first on
abbrev pub set_from : List Parameter → List ℕ → Values → Values
set_from [] given values = values
set_from (parameter ∷ parameters) given values =
    set_from parameters (drop parameter.shape.count given) (set_to (record { name = parameter.name; lanes = lanes_given parameter.shape.width parameter.shape.count given }) values)

abbrev pub first_frame : ℕ → List Parameter → List ℕ → Frame
first_frame function parameters given = record {
  function = function;
  block = 0;
  before = None;
  position = 0;
  values = set_from parameters given none_set;
}

-- the state in which the kernel at that place among the functions starts
abbrev pub started : ℕ → List Parameter → Inputs → State
started function parameters inputs = record {
  item = inputs.item;
  placed = [];
  answers = inputs.answers;
  stage = Within (first_frame function parameters inputs.args ∷ []);
}
