-- Kernels whose names are numbers in the order of their definitions: the kernel's own name is 0 in the table, and 1 and on are the
-- parameters, the block, and the values of the instructions (LLVM 14, Identifiers).
use Rattle.std.specs.Prelude.{◌≡◌, ℕ, ◌+◌, ◌<◌, List, [], All, Option, None, Some, map, length, slice_get}
use Rattle.std.specs.List.{range_with_len}
use Rattle.ll_tree.specs.declared.name.NameText.{NameText}
use Rattle.ll_tree.specs.declared.name.Spelling.{Spelling}
use Rattle.ll_tree.specs.declared.name.Spelling.TheVariants.{Number, Text}
use Rattle.kernel_tree.specs.declared.kernel.Kernel.{Kernel}
use Rattle.kernel_tree.specs.declared.names.Definition.{Definition}
use Rattle.kernel_tree.specs.declared.names.Use.{Use}
use Rattle.kernel_tree.specs.Names.{definitions, uses}

abbrev pub bytes_of_spelling : Spelling → List ℕ
bytes_of_spelling (Number number) = []
bytes_of_spelling (Text bytes) = bytes

abbrev pub bytes_of_entry : Option NameText → List ℕ
bytes_of_entry None = []
bytes_of_entry (Some entry) = bytes_of_spelling entry.spelling

-- the bytes of the kernel's own name
abbrev pub name_bytes : Kernel → List ℕ
name_bytes kernel = bytes_of_entry (slice_get kernel.names kernel.name.number)

abbrev pub number_defined : Definition → ℕ
number_defined definition = definition.name.number

abbrev pub number_used : Use → ℕ
number_used use_of = use_of.name.number

-- how many names a kernel defines
abbrev pub definition_count : Kernel → ℕ
definition_count kernel = length (definitions kernel)

-- the names are numbered in the order of their definitions, and each name that is used is defined
pub record IsNumbered (kernel : Kernel) : Type 0 where
  pub defined : map number_defined (definitions kernel) ≡ range_with_len 1 (definition_count kernel)
  pub used : All (λ used. number_used used < definition_count kernel + 1) (uses kernel)
