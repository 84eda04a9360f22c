-- That kernels with other names, and modules of binaries with the same instructions, show what a kernel shows.
use Rattle.std.specs.Prelude.{◌≡◌, ℕ, ◌+◌, List, Option}
use Rattle.kern_events.specs.declared.item.Inputs.{Inputs}
use Rattle.kern_runs.specs.Runs.{Run}
use Rattle.kern_acts.specs.Bodies.{bodies_size}
use Rattle.spv_module.specs.declared.module.SpvModule.{SpvModule}
use Rattle.kernel_tree.specs.declared.kernel.Kernel.{Kernel}
use Rattle.kernel_tree.specs.Modules.{text_module}
use Rattle.ll_play.specs.Meaning.{llvm_run}
use Rattle.spv_play.specs.Meaning.{spirv_run}
use Rattle.kernel_runs.specs.Alike.{SameRuns}
use Rattle.kernel_runs.specs.Names.{IsTyped}
use Rattle.kernel_runs.specs.Images.{IsRenamed, IsImage}

-- how many instructions the module of text has
abbrev pub text_size : Kernel → ℕ
text_size kernel = bodies_size (text_module kernel).bodies

-- other names, places and alignments change nothing, whatever kernel is asked for and on whatever numbers
abbrev pub RenamedRunsAreSame : Type 0
RenamedRunsAreSame =
    (kernel renamed : Kernel) (f : ℕ → ℕ) → IsRenamed kernel f renamed → (name : List ℕ) (inputs : Inputs)
    → SameRuns (text_size kernel + text_size renamed) (llvm_run (text_module kernel) name inputs) (llvm_run (text_module renamed) name inputs)

-- the module of a binary that has the kernel's instructions shows what the module of text shows
abbrev pub ImageRunsAreSame : Type 0
ImageRunsAreSame =
    (kernel : Kernel) (m : SpvModule) (f : ℕ → ℕ) → IsTyped kernel → IsImage kernel f m → (name : List ℕ) (inputs : Inputs)
    → SameRuns (text_size kernel + bodies_size m.bodies) (llvm_run (text_module kernel) name inputs) (spirv_run m name inputs)

-- and so does the module of a binary that has the instructions of a renamed kernel
abbrev pub RenamedImageRunsAreSame : Type 0
RenamedImageRunsAreSame =
    (kernel renamed : Kernel) (m : SpvModule) (f g : ℕ → ℕ) → IsRenamed kernel f renamed → IsTyped renamed → IsImage renamed g m
    → (name : List ℕ) (inputs : Inputs)
    → SameRuns (text_size kernel + bodies_size m.bodies) (llvm_run (text_module kernel) name inputs) (spirv_run m name inputs)

-- a renamed kernel has as many instructions
abbrev pub RenamedSizesAreSame : Type 0
RenamedSizesAreSame = (kernel renamed : Kernel) (f : ℕ → ℕ) → IsRenamed kernel f renamed → text_size renamed ≡ text_size kernel

-- runs that are the same are so in either order
abbrev pub SameRunsTurnAround : Type 0
SameRunsTurnAround = (size : ℕ) (a b : ℕ → Option Run) → SameRuns size a b → SameRuns size b a

-- and runs that show the same step by step are alike to the same runs
abbrev pub SameRunsJoin : Type 0
SameRunsJoin = (size : ℕ) (a b other : ℕ → Option Run) → ((k : ℕ) → a k ≡ b k) → SameRuns size b other → SameRuns size a other
