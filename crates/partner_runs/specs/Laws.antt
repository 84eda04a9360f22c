-- That the module of a binary that a translation writes shows what the kernel's module of text shows.
use Rattle.std.specs.Prelude.{◌≡◌, ℕ, ◌+◌, true, List}
use Rattle.kern_events.specs.declared.item.Inputs.{Inputs}
use Rattle.kern_acts.specs.Bodies.{bodies_size}
use Rattle.kernel_tree.specs.declared.kernel.Kernel.{Kernel}
use Rattle.kernel_tree.specs.Canonical.{canonical}
use Rattle.kernel_tree.specs.Covered.{is_covered}
use Rattle.kernel_tree.specs.Modules.{text_module}
use Rattle.ll_play.specs.Meaning.{llvm_run}
use Rattle.spv_module.specs.declared.module.SpvModule.{SpvModule}
use Rattle.spv_play.specs.Meaning.{spirv_run}
use Rattle.to_spirv.specs.Partner.{partner}
use Rattle.kernel_runs.specs.Alike.{SameRuns}
use Rattle.kernel_runs.specs.Images.{IsRenamed, IsImage}
use Rattle.kernel_runs.specs.Laws.{text_size}
use Rattle.kernel_runs.specs.Names.{IsTyped}

-- the partner of a kernel under other names shows what the kernel shows, whatever kernel is asked for and on whatever numbers
abbrev pub PartnerRunsAreSame : Type 0
PartnerRunsAreSame =
    (kernel renamed : Kernel) (f : ℕ → ℕ) → IsRenamed kernel f renamed → IsTyped renamed → (name : List ℕ) (inputs : Inputs)
    → SameRuns (text_size kernel + bodies_size (partner renamed).bodies) (llvm_run (text_module kernel) name inputs) (spirv_run (partner renamed) name inputs)

-- and so does that of the canonical form of a kernel of the covered subset
abbrev pub TranslatedRunsAreSame : Type 0
TranslatedRunsAreSame =
    (kernel : Kernel) → is_covered kernel ≡ true → (name : List ℕ) (inputs : Inputs)
    → SameRuns (text_size kernel + bodies_size (partner (canonical kernel)).bodies) (llvm_run (text_module kernel) name inputs) (spirv_run (partner (canonical kernel)) name inputs)

-- and so does, of a binary with the instructions of such a kernel, the binary that is its canonical form
abbrev pub RewrittenRunsAreSame : Type 0
RewrittenRunsAreSame =
    (kernel : Kernel) (m : SpvModule) (f : ℕ → ℕ) → is_covered kernel ≡ true → IsImage kernel f m → (name : List ℕ) (inputs : Inputs)
    → SameRuns (bodies_size m.bodies + bodies_size (partner (canonical kernel)).bodies) (spirv_run m name inputs) (spirv_run (partner (canonical kernel)) name inputs)
