-- What instructions do, whichever format they are written in. Each format has a table from its instructions to these acts.
use Rattle.std.specs.Prelude.{ℕ, List, Option, Bool, true, false}
use Rattle.kern_lanes.specs.declared.binary.BinOp.{BinOp}
use Rattle.kern_lanes.specs.declared.width.Width.{Width}
use Rattle.kern_acts.specs.Shapes.{Access}

-- an operand as it is read: its lanes, or none where its name isn't set
abbrev pub Operand : Type 0
Operand = Option (List ℕ)

-- an act, with its operands in the order in which faults on them come. The name that it sets is the number that the module has for it.
pub data Act : Type 0 where
  Binary : (op : BinOp) (width : Width) (sets : ℕ) (left right : Operand) → Act
  Load : (access : Access) (sets : ℕ) (pointer : Operand) → Act
  Store : (access : Access) (value pointer : Operand) → Act
  Return : Act

-- whether the act leaves its block
abbrev pub is_jump : Act → Bool
is_jump (Binary op width sets left right) = false
is_jump (Load access sets pointer) = false
is_jump (Store access value pointer) = false
is_jump Return = true

-- the act with the name that it sets replaced
abbrev pub act_renamed : (ℕ → ℕ) → Act → Act
act_renamed f (Binary op width sets left right) = Binary op width (f sets) left right
act_renamed f (Load access sets pointer) = Load access (f sets) pointer
act_renamed f (Store access value pointer) = Store access value pointer
act_renamed f Return = Return
