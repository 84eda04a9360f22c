-- The types that the module of a kernel needs, in the order of the instructions that need them: its function, and then the instructions
-- that have a result.
use Rattle.std.specs.Prelude.{List, [], ◌∷◌, flat_map}
use Rattle.kernel_tree.specs.declared.kernel.Kernel.{Kernel}
use Rattle.kernel_tree.specs.declared.kernel.KernelInst.{KernelInst}
use Rattle.kernel_tree.specs.declared.kernel.KernelInst.TheVariants.{Add, Load, Store}
use Rattle.kernel_tree.specs.declared.kernel.KernelParam.{KernelParam}
use Rattle.kernel_tree.specs.declared.kernel.ValueType.{ValueType}
use Rattle.kernel_tree.specs.declared.kernel.ValueType.TheVariants.{Int as i32, Pointer as i32_pointer}
use Rattle.to_spirv.specs.TypeTrees.{TypeTree, TypeRow, Void, Int, Pointer, Function, End, Then, needing_all}

abbrev pub tree_of : ValueType → TypeTree
tree_of i32 = Int
tree_of i32_pointer = Pointer Int

-- the types of the parameters
abbrev pub row_of_params : List KernelParam → TypeRow
row_of_params [] = End
row_of_params (param ∷ params) = Then (tree_of param.value_type) (row_of_params params)

-- a kernel's function has no result
abbrev pub function_tree : List KernelParam → TypeTree
function_tree params = Function Void (row_of_params params)

-- the type of the value that an instruction has
abbrev pub result_trees : KernelInst → List TypeTree
result_trees (Add sum left right) = Int ∷ []
result_trees (Load loaded pointer is_aligned) = Int ∷ []
result_trees (Store value pointer is_aligned) = []

-- the types of a kernel's module, in the order in which they stand there
unfoldable pub types_of : Kernel → List TypeTree
types_of kernel = needing_all (function_tree kernel.params ∷ flat_map result_trees kernel.insts) []
