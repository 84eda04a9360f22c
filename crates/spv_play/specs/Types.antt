-- The types of ids, and the lanes of values by their types (SPIR-V 1.2, 2.2.2 "Types"; 3.32.6 "Type-Declaration Instructions").
use Rattle.std.specs.Prelude.{ℕ, ◌==◌, nat_eq, cond, List, ◌∷◌, ◌++◌, map, flat_map, slice_get, Option, Some, None}
use Rattle.std.specs.Map.{lookup}
use Rattle.inst_walk.specs.declared.body.Block.{Block}
use Rattle.inst_walk.specs.declared.body.Body.{Body}
use Rattle.kern_lanes.specs.declared.width.Width.TheVariants.{W1, W64}
use Rattle.kern_types.specs.declared.class.Class.{Class}
use Rattle.kern_types.specs.declared.class.Class.TheVariants as class
use Rattle.kern_types.specs.declared.ty.Ty.{Ty}
use Rattle.kern_types.specs.declared.ty.Ty.TheVariants as ty
use Rattle.kern_types.specs.Layouts.{◌>>=◌}
use Rattle.spv_module.specs.declared.inst.SpvInst.{SpvInst}
use Rattle.spv_module.specs.declared.module.Constant.{Constant}
use Rattle.spv_module.specs.declared.module.Function.{Function}
use Rattle.spv_module.specs.declared.module.Param.{Param}
use Rattle.spv_module.specs.declared.module.SpvModule.{SpvModule}
use Rattle.spv_module.specs.declared.module.Variable.{Variable}
use Rattle.spv_module.specs.declared.types.TypeName.{TypeName}
use Rattle.kern_acts.specs.Shapes.{Shape, scalar}

-- the type that the table gives to a name of these
abbrev pub type_among : List TypeName → List Ty → ℕ → Option Ty
type_among (name ∷ names) (type ∷ types) id = cond (name.id == id) (Some type) (type_among names types id)
type_among names types id = None

-- the type with this id
abbrev pub type_named : SpvModule → ℕ → Option Ty
type_named m id = type_among m.types.names m.types.table.types id

-- ids of values, each with the id of its type
abbrev pub Typing : Type 0
Typing = List (ℕ × ℕ)

abbrev pub typed_params : Function → Typing
typed_params function = map (λ (param : Param). (param.id, param.ty)) function.params

abbrev pub typed_insts : List SpvInst → Typing
typed_insts insts = map (λ (inst : SpvInst). (inst.result, inst.ty)) insts

abbrev pub typed_blocks : List (Block SpvInst ℕ) → Typing
typed_blocks blocks = flat_map (λ (block : Block SpvInst ℕ). typed_insts block.insts) blocks

abbrev pub typed_constants : List Constant → Typing
typed_constants constants = map (λ (constant : Constant). (constant.id, constant.ty)) constants

abbrev pub typed_variables : List Variable → Typing
typed_variables variables = map (λ (variable : Variable). (variable.id, variable.ty)) variables

-- the values that a function can take: its parameters and the results of its instructions, and the module's constants and variables
abbrev pub typing_of : SpvModule → Function → Body SpvInst ℕ → Typing
typing_of m function body =
    typed_params function ++ (typed_blocks body.blocks ++ (typed_constants m.constants ++ typed_variables m.variables))

abbrev pub typing_at : SpvModule → ℕ → Option Typing
typing_at m place =
    slice_get m.functions place >>= λ function. slice_get m.bodies place >>= λ body. Some (typing_of m function body)

-- the type of a value in the function at a place
abbrev pub type_of_value : SpvModule → ℕ → ℕ → Option Ty
type_of_value m place id =
    typing_at m place >>= λ typing. lookup (nat_eq id) typing >>= λ type. type_named m type

-- a pointer is one lane of 64 bits, whatever it points to; the lanes of other types aren't covered
abbrev pub shape_by : Ty → Option Shape
shape_by ty.Void = None
shape_by ty.Bool = Some (scalar W1)
shape_by (ty.Int width) = Some (scalar width)
shape_by (ty.Vector part lanes) = None
shape_by (ty.Array part count) = None
shape_by (ty.Struct members packed) = None
shape_by (ty.Pointer class to) = Some (scalar W64)
shape_by (ty.Function given params) = None
shape_by ty.Other = None

-- a pointer's class, where what it points into is memory: the class Input is that of built-in variables
abbrev pub memory_class : Class → Option Class
memory_class class.Private = Some class.Private
memory_class class.Global = Some class.Global
memory_class class.Constant = Some class.Constant
memory_class class.Local = Some class.Local
memory_class class.Generic = Some class.Generic
memory_class class.Input = None

abbrev pub class_by : Ty → Option Class
class_by (ty.Pointer class to) = memory_class class
class_by _ = None
