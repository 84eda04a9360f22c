-- The lanes of values by their types, and the class of pointers (LLVM 14, Type System).
use Rattle.std.specs.Prelude.{ℕ, nat_eq, List, [], ◌∷◌, Option, Some, None, option_map}
use Rattle.std.specs.Map.{lookup}
use Rattle.kern_lanes.specs.declared.width.Width.{Width}
use Rattle.kern_lanes.specs.declared.width.Width.TheVariants.{W1, W8, W16, W32, W64}
use Rattle.kern_types.specs.declared.class.Class.{Class}
use Rattle.kern_types.specs.declared.class.Class.TheVariants.{Private, Global, Constant, Local, Generic}
use Rattle.kern_types.specs.Layouts.{◌>>=◌}
use Rattle.ll_tree.specs.declared.ty.LlType.{LlType}
use Rattle.ll_tree.specs.Types.{int_width}
use Rattle.kern_acts.specs.Shapes.{Shape, scalar}

abbrev pub widths : List (ℕ × Width)
widths = (1, W1) ∷ (8, W8) ∷ (16, W16) ∷ (32, W32) ∷ (64, W64) ∷ []

-- the width of an integer of so many bits
abbrev pub width_of : ℕ → Option Width
width_of bits = lookup (nat_eq bits) widths

-- the class of an address space
abbrev pub classes : List (ℕ × Class)
classes = (0, Private) ∷ (1, Global) ∷ (2, Constant) ∷ (3, Local) ∷ (4, Generic) ∷ []

abbrev pub class_of_space : ℕ → Option Class
class_of_space space = lookup (nat_eq space) classes

-- a pointer is one lane of 64 bits, whatever it points to
abbrev pub shape_by : List ℕ → Option ℕ → Option Shape
shape_by [] bits = bits >>= λ count. option_map scalar (width_of count)
shape_by (space ∷ spaces) bits = Some (scalar W64)

-- the lanes of a value of the type, where these are covered: integers and pointers
abbrev pub shape_of : LlType → Option Shape
shape_of ty = shape_by ty.pointers (int_width ty)

abbrev pub last_space : List ℕ → Option ℕ
last_space [] = None
last_space (space ∷ []) = Some space
last_space (space ∷ next ∷ spaces) = last_space (next ∷ spaces)

-- the class of what a pointer of the type points into: that of its last `*`
abbrev pub class_of : LlType → Option Class
class_of ty = last_space ty.pointers >>= class_of_space
