-- A small kernel, which adds its second argument to the number that its first argument points to, with the names of a text and with numbers
-- for names.
use Rattle.std.specs.Prelude.{ℕ, true, false, List, [], ◌∷◌}
use Rattle.ll_tree.specs.declared.name.Name.{Name}
use Rattle.ll_tree.specs.declared.name.NameKind.TheVariants.{Local, Global}
use Rattle.ll_tree.specs.declared.name.NameText.{NameText}
use Rattle.ll_tree.specs.declared.name.Spelling.TheVariants.{Number, Text}
use Rattle.kernel_tree.specs.declared.kernel.Kernel.{Kernel}
use Rattle.kernel_tree.specs.declared.kernel.KernelInst.TheVariants.{Add, Load, Store}
use Rattle.kernel_tree.specs.declared.kernel.ValueType.TheVariants.{Int, Pointer}

abbrev name_at : ℕ → ℕ → Name
name_at number byte = record { number = number; byte = byte }

abbrev global_text : List ℕ → NameText
global_text bytes = record { kind = Global; spelling = Text bytes }

abbrev local_text : List ℕ → NameText
local_text bytes = record { kind = Local; spelling = Text bytes }

abbrev local_number : ℕ → NameText
local_number number = record { kind = Local; spelling = Number number }

-- with the names `@a`, `%p`, `%x`, `%v` and `%s`, and without alignments
abbrev pub first_written : Kernel
first_written = record {
  has_targets = false;
  name = name_at 3 25;
  params = record { value_type = Pointer; name = name_at 0 47 } ∷ record { value_type = Int; name = name_at 1 55 } ∷ [];
  block = name_at 5 62;
  insts =
      Load (name_at 2 62) (name_at 0 97) false ∷ Add (name_at 4 102) (name_at 2 115) (name_at 1 119) ∷ Store (name_at 4 135) (name_at 0 157) false ∷ [];
  names = local_text (112 ∷ []) ∷ local_text (120 ∷ []) ∷ local_text (118 ∷ []) ∷ global_text (97 ∷ []) ∷ local_text (115 ∷ []) ∷ local_number 0 ∷ [];
}

-- numbered in the order of definitions, and with the alignments written
abbrev pub first_numbered : Kernel
first_numbered = record {
  has_targets = true;
  name = name_at 0 0;
  params = record { value_type = Pointer; name = name_at 1 0 } ∷ record { value_type = Int; name = name_at 2 0 } ∷ [];
  block = name_at 3 0;
  insts =
      Load (name_at 4 0) (name_at 1 0) true ∷ Add (name_at 5 0) (name_at 4 0) (name_at 2 0) ∷ Store (name_at 5 0) (name_at 1 0) true ∷ [];
  names = global_text (97 ∷ []) ∷ local_number 0 ∷ local_number 1 ∷ local_number 2 ∷ local_number 3 ∷ local_number 4 ∷ [];
}

-- a kernel that takes a sum before it is made
abbrev pub without_definition : Kernel
without_definition = record first_written {
  insts =
      Load (name_at 2 0) (name_at 0 0) false ∷ Store (name_at 4 0) (name_at 0 0) false ∷ Add (name_at 4 0) (name_at 2 0) (name_at 1 0) ∷ [];
}

-- kernels that write what they read, that read twice, that write an argument, and that do nothing
abbrev pub copying : Kernel
copying = record first_written {
  insts = Load (name_at 2 0) (name_at 0 0) false ∷ Store (name_at 2 0) (name_at 0 0) true ∷ [];
}

abbrev pub reading_twice : Kernel
reading_twice = record first_written {
  insts = Load (name_at 2 0) (name_at 0 0) false ∷ Load (name_at 4 0) (name_at 0 0) false ∷ Store (name_at 4 0) (name_at 0 0) false ∷ [];
}

abbrev pub storing : Kernel
storing = record first_written {
  insts = Store (name_at 1 0) (name_at 0 0) false ∷ [];
}

abbrev pub resting : Kernel
resting = record first_written { insts = [] }
