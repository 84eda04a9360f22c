-- How many lanes a value has and how wide they are, and how memory is accessed.
use Rattle.std.specs.Prelude.{ℕ, ◌==◌, Bool, Option, Some, None, unwrap_or, if◌then◌else◌}
use Rattle.kern_lanes.specs.declared.width.Width.{Width}
use Rattle.kern_types.specs.declared.class.Class.{Class}
use Rattle.kern_types.specs.Layouts.{◌>>=◌, int_bytes}

-- so many lanes of one width
pub record Shape : Type 0 where
  pub width : Width
  pub count : ℕ

-- one lane
abbrev pub scalar : Width → Shape
scalar width = record { width = width; count = 1 }

-- the alignment in bytes of a value of this shape, where one that has a place in memory is covered: that of one lane
abbrev pub natural_align : Shape → Option ℕ
natural_align shape = if shape.count == 1 then int_bytes shape.width else None

-- an access to memory: the class of the pointer's type, the lanes that are read or written, and the alignment in bytes
pub record Access : Type 0 where
  pub class : Class
  pub shape : Shape
  pub align : ℕ
  pub volatile : Bool

-- the access with the alignment that is written, or else that of the lanes' type
abbrev pub access_of : Class → Shape → Option ℕ → Bool → Option Access
access_of class shape written volatile =
    natural_align shape >>= λ natural. Some (record { class = class; shape = shape; align = unwrap_or written natural; volatile = volatile })
