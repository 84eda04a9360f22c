-- How wide pointers are
use Rattle.std.specs.Prelude.{ℕ}
use Rattle.kern_types.specs.declared.class.PointerWidth.{PointerWidth}
use Rattle.kern_types.specs.declared.class.PointerWidth.TheVariants.{P32, P64}

-- the bytes of a pointer
abbrev pub pointer_bytes : PointerWidth → ℕ
pointer_bytes P32 = 4
pointer_bytes P64 = 8
