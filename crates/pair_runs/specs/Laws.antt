-- What holds of the runs of modules that make a pair.
use Rattle.std.specs.Prelude.{◌≡◌, ℕ, ◌+◌, ◌<◌, List, true, All, Some, slice_get}
use Rattle.kern_lanes.specs.declared.width.Width.TheVariants.{W32}
use Rattle.kern_types.specs.declared.ty.Ty.TheVariants.{Int}
use Rattle.kern_acts.specs.Bodies.{bodies_size}
use Rattle.kern_events.specs.declared.item.Inputs.{Inputs}
use Rattle.ll_play.specs.Meaning.{llvm_run}
use Rattle.spv_play.specs.Meaning.{spirv_run}
use Rattle.spv_module.specs.declared.module.SpvModule.{SpvModule}
use Rattle.kernel_tree.specs.declared.kernel.Kernel.{Kernel}
use Rattle.kernel_tree.specs.Covered.{is_covered}
use Rattle.kernel_tree.specs.Modules.{text_module}
use Rattle.kernel_tree.specs.Numbered.{IsNumbered}
use Rattle.kernel_runs.specs.Alike.{SameRuns}
use Rattle.kernel_runs.specs.Laws.{text_size}
use Rattle.to_spirv.specs.Pairing.{Pairs}
use Rattle.spv_canon.specs.Canonical.{ids_in_functions}
use Rattle.spv_canon.specs.Sound.{HasSoundIds}

-- a module has the integer type of 32 bits once, and no id in its functions is 0 (SPIR-V 1.2, 2.8 "Types and Variables" and 2.3)
pub record HasPlainIds (m : SpvModule) : Type 0 where
  pub once : (place other : ℕ) → slice_get m.types.table.types place ≡ Some (Int W32) → slice_get m.types.table.types other ≡ Some (Int W32) → place ≡ other
  pub positive : All (λ id. 0 < id) (ids_in_functions m)

-- a module that makes a pair with the module of text of a kernel of the covered subset shows what this shows, whatever kernel is asked for and
-- on whatever item, arguments and answers
abbrev pub PairedRunsAreSame : Type 0
PairedRunsAreSame =
    (kernel : Kernel) (m : SpvModule) → IsNumbered kernel → kernel.name.number ≡ 0 → is_covered kernel ≡ true → HasSoundIds m → HasPlainIds m
    → Pairs (text_module kernel) m → (name : List ℕ) (inputs : Inputs)
    → SameRuns (text_size kernel + bodies_size m.bodies) (llvm_run (text_module kernel) name inputs) (spirv_run m name inputs)
