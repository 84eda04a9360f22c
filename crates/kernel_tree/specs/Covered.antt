-- Which kernels are in the covered subset, of those that its grammar derives (LLVM 14, Identifiers; Type System).
use Rattle.std.specs.Prelude.{ℕ, ◌+◌, ◌==◌, Bool, true, false, not, ◌&&◌, nat_eq, nat_lt, nat_le, List, [], ◌∷◌, Option, None, Some, length, slice_get, map, find}
use Rattle.std.specs.Option.{option_map}
use Rattle.std.specs.List.{list_all}
use Rattle.inst_walk.specs.Places.{place_of, is_among}
use Rattle.ll_tree.specs.declared.name.NameText.{NameText}
use Rattle.ll_tree.specs.declared.name.Spelling.{Spelling}
use Rattle.ll_tree.specs.declared.name.Spelling.TheVariants.{Number, Text}
use Rattle.kernel_tree.specs.declared.kernel.Kernel.{Kernel}
use Rattle.kernel_tree.specs.declared.kernel.KernelInst.{KernelInst}
use Rattle.kernel_tree.specs.declared.kernel.ValueType.{ValueType}
use Rattle.kernel_tree.specs.declared.kernel.ValueType.TheVariants.{Int, Pointer}
use Rattle.kernel_tree.specs.declared.names.Definition.{Definition}
use Rattle.kernel_tree.specs.declared.names.Use.{Use}
use Rattle.kernel_tree.specs.Canonical.{numbers_defined}
use Rattle.kernel_tree.specs.Names.{defined_by, used_by, definitions, uses}
use Rattle.kernel_tree.specs.Numbered.{number_defined}

-- the name is defined nowhere
abbrev pub is_undefined : List ℕ → Use → Bool
is_undefined numbers used = not (is_among nat_eq numbers used.name.number)

abbrev pub used_byte : Use → ℕ
used_byte used = used.name.byte

-- the place of the first name that is used and defined nowhere
abbrev pub first_undefined : Kernel → Option ℕ
first_undefined kernel = option_map used_byte (find (is_undefined (numbers_defined kernel)) (uses kernel))

abbrev pub is_at : ℕ → Option ℕ → Bool
is_at at None = false
is_at at (Some place) = place == at

-- from this place on, each name stands for the first time
abbrev pub all_first : List ℕ → ℕ → List ℕ → Bool
all_first numbers at [] = true
all_first numbers at (number ∷ rest) = is_at at (place_of nat_eq numbers number) && all_first numbers (at + 1) rest

-- no name is defined twice
abbrev pub are_distinct : List ℕ → Bool
are_distinct numbers = all_first numbers 0 numbers

-- the number that a name is spelled as
abbrev pub number_spelled : Spelling → Option ℕ
number_spelled (Number number) = Some number
number_spelled (Text bytes) = None

abbrev pub number_of_entry : Option NameText → Option ℕ
number_of_entry None = None
number_of_entry (Some entry) = number_spelled entry.spelling

-- a name that is a number is the next one
abbrev pub is_next : ℕ → Option ℕ → Bool
is_next next None = true
is_next next (Some number) = number == next

abbrev pub next_behind : ℕ → Option ℕ → ℕ
next_behind next None = next
next_behind next (Some number) = next + 1

-- names that are numbers count up from this one
abbrev pub in_sequence : List NameText → ℕ → List ℕ → Bool
in_sequence names next [] = true
in_sequence names next (number ∷ numbers) =
    let spelled = number_of_entry (slice_get names number) in
    is_next next spelled && in_sequence names (next_behind next spelled) numbers

abbrev pub same_type : ValueType → ValueType → Bool
same_type Int Int = true
same_type Pointer Pointer = true
same_type _ _ = false

abbrev pub is_type : ValueType → Option ValueType → Bool
is_type wanted None = false
is_type wanted (Some value_type) = same_type wanted value_type

abbrev pub has_type : ValueType → Option Definition → Bool
has_type wanted None = false
has_type wanted (Some definition) = is_type wanted definition.value_type

module _ (defined : List Definition) where
  -- the definition at the place is one of so many, and has the type
  abbrev pub is_found : ℕ → ValueType → Option ℕ → Bool
  is_found above wanted None = false
  is_found above wanted (Some place) = nat_lt place above && has_type wanted (slice_get defined place)

  -- a use finds its definition among so many, and it has the type that the use asks
  abbrev pub use_fits : ℕ → Use → Bool
  use_fits above used = is_found above used.value_type (place_of nat_eq (map number_defined defined) used.name.number)

  -- each use of the instructions stands below its definition and asks for its type, where so many definitions stand above
  abbrev pub uses_fit : ℕ → List KernelInst → Bool
  uses_fit above [] = true
  uses_fit above (inst ∷ insts) = list_all (use_fits above) (used_by inst) && uses_fit (above + length (defined_by inst)) insts

-- the kernel is in the covered subset
abbrev pub is_covered : Kernel → Bool
is_covered kernel =
    nat_le (length kernel.params) 255
    && (are_distinct (numbers_defined kernel)
    && (in_sequence kernel.names 0 (numbers_defined kernel)
    && uses_fit (definitions kernel) (length kernel.params + 1) kernel.insts))
