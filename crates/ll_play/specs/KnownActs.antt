-- The acts of some instructions, in a frame whose names are known.
use Rattle.std.specs.Prelude.{◌≡◌, ℕ, true, false, List, [], ◌∷◌, Option, Some, None, pos, negsuc}
use Rattle.kern_lanes.specs.declared.binary.BinOp.TheVariants.{Sub, UDiv}
use Rattle.kern_lanes.specs.declared.width.Width.TheVariants.{W1, W8, W16, W32, W64}
use Rattle.kern_types.specs.declared.class.Class.TheVariants as class
use Rattle.ll_tree.specs.declared.name.Name.{Name}
use Rattle.ll_tree.specs.declared.op.Op.{Op}
use Rattle.ll_tree.specs.declared.op.Op.TheVariants as op
use Rattle.ll_tree.specs.declared.ty.LlType.{LlType}
use Rattle.ll_tree.specs.declared.ty.TypeBase.{Int as int_base}
use Rattle.ll_tree.specs.declared.value.TypedValue.{TypedValue}
use Rattle.ll_tree.specs.declared.value.Value.{Value, Local, Int}
use Rattle.kern_acts.specs.Shapes.{scalar}
use Rattle.kern_acts.specs.Acts.{Act, Binary, Load, Store, Return}
use Rattle.kern_acts.specs.States.{Frame, Values, none_set, set_to}
use Rattle.ll_play.specs.Acts.{act_of}

abbrev name : ℕ → Name
name number = record { number = number; byte = 0 }

-- `%1` is 64, `%2` is 5, and no other name is set
abbrev values : Values
values = set_to (record { name = 1; lanes = 64 ∷ [] }) (set_to (record { name = 2; lanes = 5 ∷ [] }) none_set)

abbrev frame : Frame
frame = record { function = 0; block = 0; before = None; position = 0; values = values }

abbrev type : ℕ → List ℕ → LlType
type bits pointers = record { base = int_base bits; pointers = pointers }

abbrev local : ℕ → Value
local number = Local (name number)

abbrev typed : LlType → Value → TypedValue
typed ty value = record { ty = ty; value = value }

-- the act of an instruction that defines `%9`
abbrev act : Op → Option Act
act o = act_of frame (Some (name 9)) o

pub record ActsAreKnown : Type 0 where
  -- sub i8 %2, -1
  pub with_constant : act (op.Binary Sub [] (type 8 []) (local 2) (Int (negsuc 0))) ≡ Some (Binary Sub W8 9 (Some (5 ∷ [])) (Some (255 ∷ [])))
  -- udiv i64 70000, %3, where %3 isn't set
  pub with_unset : act (op.Binary UDiv [] (type 64 []) (Int (pos 70000)) (local 3)) ≡ Some (Binary UDiv W64 9 (Some (70000 ∷ [])) None)
  -- sub i1 %1, %2
  pub of_bits : act (op.Binary Sub [] (type 1 []) (local 1) (local 2)) ≡ Some (Binary Sub W1 9 (Some (64 ∷ [])) (Some (5 ∷ [])))
  -- sub i24 %1, %2
  pub of_odd_width : act (op.Binary Sub [] (type 24 []) (local 1) (local 2)) ≡ None
  -- load volatile i16, i16 addrspace(3)* %1
  pub loads : act (op.Load true (type 16 []) (typed (type 16 (3 ∷ [])) (local 1)) None)
      ≡ Some (Load (record { class = class.Local; shape = scalar W16; align = 2; volatile = true }) 9 (Some (64 ∷ [])))
  -- load i32, i32 addrspace(4)* %1, align 16
  pub loads_aligned : act (op.Load false (type 32 []) (typed (type 32 (4 ∷ [])) (local 1)) (Some 16))
      ≡ Some (Load (record { class = class.Generic; shape = scalar W32; align = 16; volatile = false }) 9 (Some (64 ∷ [])))
  -- load i8 addrspace(1)*, i8 addrspace(1)* addrspace(2)* %1
  pub loads_pointer : act (op.Load false (type 8 (1 ∷ [])) (typed (type 8 (1 ∷ 2 ∷ [])) (local 1)) None)
      ≡ Some (Load (record { class = class.Constant; shape = scalar W64; align = 8; volatile = false }) 9 (Some (64 ∷ [])))
  -- load i1, i1* %1
  pub loads_bit : act (op.Load false (type 1 []) (typed (type 1 (0 ∷ [])) (local 1)) None) ≡ None
  -- load i8, i8 addrspace(5)* %1
  pub loads_elsewhere : act (op.Load false (type 8 []) (typed (type 8 (5 ∷ [])) (local 1)) None) ≡ None
  -- store i8 7, i8* %1
  pub stores : act (op.Store false (typed (type 8 []) (Int (pos 7))) (typed (type 8 (0 ∷ [])) (local 1)) None)
      ≡ Some (Store (record { class = class.Private; shape = scalar W8; align = 1; volatile = false }) (Some (7 ∷ [])) (Some (64 ∷ [])))
  -- store volatile i32 %2, i32 addrspace(1)* %4, align 2
  pub stores_volatile : act (op.Store true (typed (type 32 []) (local 2)) (typed (type 32 (1 ∷ [])) (local 4)) (Some 2))
      ≡ Some (Store (record { class = class.Global; shape = scalar W32; align = 2; volatile = true }) (Some (5 ∷ [])) None)
  pub returns : act op.ReturnVoid ≡ Some Return
  pub jumps : act (op.Jump (name 7)) ≡ None
  pub unreachable : act op.Unreachable ≡ None
