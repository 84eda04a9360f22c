-- Which function of OpenCL C reads which built-in variable (OpenCL C 1.2, 6.12.1, and 2.0, 6.13.1; SPIR-V 1.2, 3.21)
use Rattle.std.specs.Prelude.{ℕ, List, [], ◌∷◌, codes, Option, ◌==◌}
use Rattle.std.specs.List.{find}
use Rattle.std.specs.Option.{option_map}
use Rattle.std.specs.Str.{bytes_eq}
use Rattle.ocl_names.specs.Mangling.{mangled}
use Rattle.ocl_names.specs.declared.work_item.BuiltIn.{BuiltIn}
use Rattle.ocl_names.specs.declared.work_item.BuiltIn.TheVariants.{NumWorkgroups, WorkgroupSize, WorkgroupId, LocalInvocationId, GlobalInvocationId, LocalInvocationIndex, WorkDim, GlobalSize, EnqueuedWorkgroupSize, GlobalOffset, GlobalLinearId}

-- the number of a built-in variable
abbrev pub builtin_number : BuiltIn → ℕ
builtin_number NumWorkgroups = 24
builtin_number WorkgroupSize = 25
builtin_number WorkgroupId = 26
builtin_number LocalInvocationId = 27
builtin_number GlobalInvocationId = 28
builtin_number LocalInvocationIndex = 29
builtin_number WorkDim = 30
builtin_number GlobalSize = 31
builtin_number EnqueuedWorkgroupSize = 32
builtin_number GlobalOffset = 33
builtin_number GlobalLinearId = 34

-- the mangled name of the function that reads it
abbrev pub function_text : BuiltIn → List ℕ
function_text NumWorkgroups = mangled (codes "get_num_groups") (codes "j")
function_text WorkgroupSize = mangled (codes "get_local_size") (codes "j")
function_text WorkgroupId = mangled (codes "get_group_id") (codes "j")
function_text LocalInvocationId = mangled (codes "get_local_id") (codes "j")
function_text GlobalInvocationId = mangled (codes "get_global_id") (codes "j")
function_text LocalInvocationIndex = mangled (codes "get_local_linear_id") (codes "v")
function_text WorkDim = mangled (codes "get_work_dim") (codes "v")
function_text GlobalSize = mangled (codes "get_global_size") (codes "j")
function_text EnqueuedWorkgroupSize = mangled (codes "get_enqueued_local_size") (codes "j")
function_text GlobalOffset = mangled (codes "get_global_offset") (codes "j")
function_text GlobalLinearId = mangled (codes "get_global_linear_id") (codes "v")

-- all of them
abbrev pub builtins : List BuiltIn
builtins =
    NumWorkgroups ∷ WorkgroupSize ∷ WorkgroupId ∷ LocalInvocationId ∷ GlobalInvocationId ∷ LocalInvocationIndex
    ∷ WorkDim ∷ GlobalSize ∷ EnqueuedWorkgroupSize ∷ GlobalOffset ∷ GlobalLinearId ∷ []

-- the variable that the function of a name reads, if it is one of these
abbrev pub builtin_read_by : List ℕ → Option BuiltIn
builtin_read_by text = find (λ b. bytes_eq (function_text b) text) builtins

-- and its number
unfoldable pub builtin_of : List ℕ → Option ℕ
builtin_of text = option_map builtin_number (builtin_read_by text)

-- the name for a number, if it is one of these
unfoldable pub builtin_text : ℕ → Option (List ℕ)
builtin_text number = option_map function_text (find (λ b. builtin_number b == number) builtins)
