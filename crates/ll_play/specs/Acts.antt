-- What the instructions do (LLVM 14, Instruction Reference): a table to the acts, and how operands are read.
use Rattle.std.specs.Prelude.{[], ◌∷◌, Option, Some, None}
use Rattle.kern_types.specs.Layouts.{◌>>=◌}
use Rattle.kern_lanes.specs.Widths.{lane}
use Rattle.ll_tree.specs.declared.name.Name.{Name}
use Rattle.ll_tree.specs.declared.op.Op.{Op}
use Rattle.ll_tree.specs.declared.op.Op.TheVariants as op
use Rattle.ll_tree.specs.declared.ty.LlType.{LlType}
use Rattle.ll_tree.specs.declared.value.TypedValue.{TypedValue}
use Rattle.ll_tree.specs.declared.value.Value.{Value, Local, Int}
use Rattle.ll_tree.specs.Types.{int_width}
use Rattle.kern_acts.specs.Shapes.{access_of}
use Rattle.kern_acts.specs.Acts.{Operand, Act, Binary, Load, Store, Return}
use Rattle.kern_acts.specs.States.{Frame}
use Rattle.ll_play.specs.Types.{width_of, shape_of, class_of}

-- an operand as it is read in a frame, none where its kind isn't covered: a name has its lanes, an integer is a lane of its type's width
abbrev pub read : Frame → LlType → Value → Option Operand
read frame ty (Local name) = Some (frame.values name.number)
read frame ty (Int number) = int_width ty >>= λ bits. width_of bits >>= λ width. Some (Some (lane width number ∷ []))
read frame ty _ = None

abbrev pub read_typed : Frame → TypedValue → Option Operand
read_typed frame typed = read frame typed.ty typed.value

-- the act of an instruction that gives its value this name, none where it isn't covered
abbrev pub act_of : Frame → Option Name → Op → Option Act
act_of frame defines (op.Binary kind flags ty left right) =
    defines >>= λ name. shape_of ty >>= λ shape. read frame ty left >>= λ a. read frame ty right >>= λ b. Some (Binary kind shape.width name.number a b)
act_of frame defines (op.Load volatile ty pointer align) =
    defines >>= λ name. class_of pointer.ty >>= λ class. shape_of ty >>= λ shape. access_of class shape align volatile >>= λ access.
    read_typed frame pointer >>= λ p. Some (Load access name.number p)
act_of frame defines (op.Store volatile value pointer align) =
    class_of pointer.ty >>= λ class. shape_of value.ty >>= λ shape. access_of class shape align volatile >>= λ access.
    read_typed frame value >>= λ v. read_typed frame pointer >>= λ p. Some (Store access v p)
act_of frame defines op.ReturnVoid = Some Return
act_of frame defines _ = None
