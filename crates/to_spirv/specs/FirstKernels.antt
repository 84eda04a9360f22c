-- Two small kernels, whose modules and words are known.
use Rattle.std.specs.Prelude.{ℕ, List, [], ◌∷◌, true, false}
use Rattle.ll_tree.specs.declared.name.Name.{Name}
use Rattle.ll_tree.specs.declared.name.NameKind.TheVariants.{Global}
use Rattle.ll_tree.specs.declared.name.Spelling.TheVariants.{Text}
use Rattle.kernel_tree.specs.declared.kernel.Kernel.{Kernel}
use Rattle.kernel_tree.specs.declared.kernel.KernelInst.TheVariants.{Add, Load, Store}
use Rattle.kernel_tree.specs.declared.kernel.ValueType.TheVariants.{Int, Pointer}

abbrev local : ℕ → Name
local number = record { number = number; byte = 0 }

-- define spir_kernel void @k() { ret void }
abbrev pub empty_kernel : Kernel
empty_kernel = record {
  has_targets = false;
  name = local 0;
  params = [];
  block = local 1;
  insts = [];
  names = record { kind = Global; spelling = Text (0x6B ∷ []) } ∷ [];
}

abbrev pub empty_kernel_words : List ℕ
empty_kernel_words =
    0x07230203 ∷ 0x00010200 ∷ 0 ∷ 5 ∷ 0 ∷
    0x00020011 ∷ 4 ∷ 0x00020011 ∷ 6 ∷ 0x0003000E ∷ 2 ∷ 2 ∷ 0x0004000F ∷ 6 ∷ 3 ∷ 0x0000006B ∷
    0x00020013 ∷ 1 ∷ 0x00030021 ∷ 2 ∷ 1 ∷
    0x00050036 ∷ 1 ∷ 3 ∷ 0 ∷ 2 ∷ 0x000200F8 ∷ 4 ∷ 0x000100FD ∷ 0x00010038 ∷ []

-- define spir_kernel void @a(i32 addrspace(1)* %0, i32 %1) {
--   %3 = load i32, i32 addrspace(1)* %0, align 4
--   %4 = add i32 %3, %1
--   store i32 %4, i32 addrspace(1)* %0, align 4
--   ret void
-- }
-- where the parameters are 1 and 2, the block is 3, and the values are 4 and 5
abbrev pub adding_kernel : Kernel
adding_kernel = record {
  has_targets = false;
  name = local 0;
  params = record { value_type = Pointer; name = local 1 } ∷ record { value_type = Int; name = local 2 } ∷ [];
  block = local 3;
  insts = Load (local 4) (local 1) true ∷ Add (local 5) (local 4) (local 2) ∷ Store (local 5) (local 1) true ∷ [];
  names = record { kind = Global; spelling = Text (0x61 ∷ []) } ∷ [];
}
