-- The words in the text of events and outcomes
use Rattle.std.specs.Prelude.{ℕ, Bool, true, false, List, codes}
use Rattle.kern_lanes.specs.declared.atomic.RmwOp.{RmwOp}
use Rattle.kern_lanes.specs.declared.atomic.RmwOp.TheVariants.{Xchg, Add, Sub, And, Or, Xor, Max, Min, UMax, UMin}
use Rattle.kern_types.specs.declared.class.Class.{Class}
use Rattle.kern_types.specs.declared.class.Class.TheVariants.{Private, Global, Constant, Local, Generic, Input}
use Rattle.kern_events.specs.declared.outcome.FaultKind.{FaultKind}
use Rattle.kern_events.specs.declared.outcome.FaultKind.TheVariants.{DivZero, DivOverflow, ShiftRange, LaneRange, Unset, Unreachable}
use Rattle.kern_events.specs.declared.outcome.Outcome.{Outcome}
use Rattle.kern_events.specs.declared.outcome.Outcome.TheVariants.{Ended, Fault, Asks, Running}

-- an address space
abbrev pub class_word : Class → List ℕ
class_word Private = codes "private"
class_word Global = codes "global"
class_word Constant = codes "constant"
class_word Local = codes "local"
class_word Generic = codes "generic"
class_word Input = codes "input"

-- an atomic operation
abbrev pub op_word : RmwOp → List ℕ
op_word Xchg = codes "xchg"
op_word Add = codes "add"
op_word Sub = codes "sub"
op_word And = codes "and"
op_word Or = codes "or"
op_word Xor = codes "xor"
op_word Max = codes "max"
op_word Min = codes "min"
op_word UMax = codes "umax"
op_word UMin = codes "umin"

-- what stands behind the alignment of a load or a store
abbrev pub volatile_word : Bool → List ℕ
volatile_word true = codes " volatile"
volatile_word false = codes ""

-- the line of a fault
abbrev pub fault_words : FaultKind → List ℕ
fault_words DivZero = codes "fault div_zero"
fault_words DivOverflow = codes "fault div_overflow"
fault_words ShiftRange = codes "fault shift_range"
fault_words LaneRange = codes "fault lane_range"
fault_words Unset = codes "fault unset"
fault_words Unreachable = codes "fault unreachable"

-- the line of an outcome
abbrev pub outcome_words : Outcome → List ℕ
outcome_words Ended = codes "ended"
outcome_words (Fault kind) = fault_words kind
outcome_words Asks = codes "asks"
outcome_words Running = codes "running"
