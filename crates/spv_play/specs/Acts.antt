-- What the instructions do (SPIR-V 1.2, 3.32 "Instructions"): a table from opcodes to the acts, and how operands are read.
use Rattle.std.specs.Prelude.{ℕ, ◌+◌, ◌*◌, ◌/◌, ◌%◌, ◌^◌, ◌==◌, nat_eq, Bool, cond, List, [], ◌∷◌, get_or, slice_get, find, Option, Some, None, option_map, unwrap_or}
use Rattle.std.specs.Map.{lookup}
use Rattle.kern_lanes.specs.declared.binary.BinOp.{BinOp}
use Rattle.kern_lanes.specs.declared.binary.BinOp.TheVariants.{Add, Sub, Mul, UDiv, SDiv, URem, SRem, Shl, LShr, AShr, And, Or, Xor}
use Rattle.kern_types.specs.Layouts.{◌>>=◌}
use Rattle.spv_layout.specs.declared.opcode.Opcode.TheVariants as opcode
use Rattle.spv_layout.specs.Forms.{number_of}
use Rattle.spv_module.specs.declared.inst.SpvInst.{SpvInst}
use Rattle.spv_module.specs.declared.module.Constant.{Constant}
use Rattle.spv_module.specs.declared.module.ConstantValue.{ConstantValue}
use Rattle.spv_module.specs.declared.module.ConstantValue.TheVariants as constant
use Rattle.spv_module.specs.declared.module.SpvModule.{SpvModule}
use Rattle.spv_module.specs.declared.module.Variable.{Variable}
use Rattle.kern_acts.specs.Shapes.{access_of}
use Rattle.kern_acts.specs.Acts.{Operand, Act, Binary, Load, Store, Return}
use Rattle.kern_acts.specs.States.{Frame}
use Rattle.spv_play.specs.Types.{type_named, type_of_value, shape_by, class_by}

-- what the instructions of an opcode do
pub data Kind : Type 0 where
  Computes : BinOp → Kind
  Loads : Kind
  Stores : Kind
  Returns : Kind

abbrev pub kinds : List (ℕ × Kind)
kinds =
    (number_of opcode.Load, Loads) ∷ (number_of opcode.Store, Stores) ∷ (number_of opcode.Return, Returns) ∷
    (number_of opcode.IAdd, Computes Add) ∷ (number_of opcode.ISub, Computes Sub) ∷ (number_of opcode.IMul, Computes Mul) ∷
    (number_of opcode.UDiv, Computes UDiv) ∷ (number_of opcode.SDiv, Computes SDiv) ∷ (number_of opcode.UMod, Computes URem) ∷
    (number_of opcode.SRem, Computes SRem) ∷ (number_of opcode.ShiftLeftLogical, Computes Shl) ∷
    (number_of opcode.ShiftRightLogical, Computes LShr) ∷ (number_of opcode.ShiftRightArithmetic, Computes AShr) ∷
    (number_of opcode.BitwiseAnd, Computes And) ∷ (number_of opcode.BitwiseOr, Computes Or) ∷ (number_of opcode.BitwiseXor, Computes Xor) ∷ []

abbrev pub kind_of : ℕ → Option Kind
kind_of op = lookup (nat_eq op) kinds

-- the lanes of a constant, where it is a number. The higher word of one of 64 bits comes second.
abbrev pub constant_lanes : ConstantValue → Option (List ℕ)
constant_lanes (constant.Number low high) = Some ((low + 2 ^ 32 * unwrap_or high 0) ∷ [])
constant_lanes _ = None

-- the constant or the variable of the module with an id
abbrev pub constant_named : SpvModule → ℕ → Option Constant
constant_named m id = find (λ (constant : Constant). constant.id == id) m.constants

abbrev pub variable_named : SpvModule → ℕ → Option Variable
variable_named m id = find (λ (variable : Variable). variable.id == id) m.variables

abbrev pub read_by : Option Constant → Option Variable → Operand → Option Operand
read_by (Some constant) variable lanes = option_map Some (constant_lanes constant.value)
read_by None (Some variable) lanes = None
read_by None None lanes = Some lanes

-- an operand as it is read in a frame, none where its kind isn't covered: a constant is its number, and another id has its lanes
abbrev pub read : SpvModule → Frame → ℕ → Option Operand
read m frame id = read_by (constant_named m id) (variable_named m id) (frame.values id)

-- bits of the words behind the pointer of a load or a store (SPIR-V 1.2, 3.26 "Memory Access")
abbrev pub volatile_bit : ℕ
volatile_bit = 1

abbrev pub aligned_bit : ℕ
aligned_bit = 2

abbrev pub has_bit : ℕ → ℕ → Bool
has_bit bit mask = (mask / bit) % 2 == 1

abbrev pub mask_of : List ℕ → ℕ
mask_of words = get_or words 0 0

abbrev pub is_volatile : List ℕ → Bool
is_volatile words = has_bit volatile_bit (mask_of words)

-- the alignment in bytes, where one is stated
abbrev pub align_in : List ℕ → Option ℕ
align_in words = cond (has_bit aligned_bit (mask_of words)) (slice_get words 1) None

abbrev pub one_id : List ℕ → Option ℕ
one_id (id ∷ []) = Some id
one_id _ = None

abbrev pub two_ids : List ℕ → Option (ℕ × ℕ)
two_ids (first ∷ second ∷ []) = Some (first, second)
two_ids _ = None

abbrev pub computing : SpvModule → Frame → SpvInst → BinOp → Option Act
computing m frame inst op =
    type_named m inst.ty >>= λ type. shape_by type >>= λ shape. two_ids inst.operands.ids >>= λ ids.
    read m frame ids.0 >>= λ a. read m frame ids.1 >>= λ b. Some (Binary op shape.width inst.result a b)

abbrev pub loading : SpvModule → Frame → SpvInst → Option Act
loading m frame inst =
    one_id inst.operands.ids >>= λ id. type_of_value m frame.function id >>= λ pointer. class_by pointer >>= λ class.
    type_named m inst.ty >>= λ type. shape_by type >>= λ shape.
    access_of class shape (align_in inst.operands.words) (is_volatile inst.operands.words) >>= λ access.
    read m frame id >>= λ p. Some (Load access inst.result p)

abbrev pub storing : SpvModule → Frame → SpvInst → Option Act
storing m frame inst =
    two_ids inst.operands.ids >>= λ ids. type_of_value m frame.function ids.0 >>= λ pointer. class_by pointer >>= λ class.
    type_of_value m frame.function ids.1 >>= λ type. shape_by type >>= λ shape.
    access_of class shape (align_in inst.operands.words) (is_volatile inst.operands.words) >>= λ access.
    read m frame ids.1 >>= λ v. read m frame ids.0 >>= λ p. Some (Store access v p)

abbrev pub act_by : SpvModule → Frame → SpvInst → Kind → Option Act
act_by m frame inst (Computes op) = computing m frame inst op
act_by m frame inst Loads = loading m frame inst
act_by m frame inst Stores = storing m frame inst
act_by m frame inst Returns = Some Return

-- the act of an instruction, none where it isn't covered
abbrev pub act_of : SpvModule → Frame → SpvInst → Option Act
act_of m frame inst = kind_of inst.op >>= act_by m frame inst
