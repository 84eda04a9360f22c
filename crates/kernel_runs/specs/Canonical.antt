-- That kernels of the covered subset have what the laws on runs ask for, and that their canonical forms show what they show.
use Rattle.std.specs.Prelude.{◌≡◌, ℕ, ◌+◌, true, List}
use Rattle.kern_events.specs.declared.item.Inputs.{Inputs}
use Rattle.kern_acts.specs.Bodies.{bodies_size}
use Rattle.spv_module.specs.declared.module.SpvModule.{SpvModule}
use Rattle.kernel_tree.specs.declared.kernel.Kernel.{Kernel}
use Rattle.kernel_tree.specs.Canonical.{canonical}
use Rattle.kernel_tree.specs.Covered.{is_covered}
use Rattle.kernel_tree.specs.Modules.{text_module}
use Rattle.ll_play.specs.Meaning.{llvm_run}
use Rattle.spv_play.specs.Meaning.{spirv_run}
use Rattle.kernel_runs.specs.Alike.{SameRuns}
use Rattle.kernel_runs.specs.Names.{IsTyped}
use Rattle.kernel_runs.specs.Images.{IsRenamed, IsImage}
use Rattle.kernel_runs.specs.Laws.{text_size}

-- other names change no type
abbrev pub RenamedAreTyped : Type 0
RenamedAreTyped = (kernel renamed : Kernel) (f : ℕ → ℕ) → IsRenamed kernel f renamed → IsTyped kernel → IsTyped renamed

-- a kernel is typed, and its canonical form is the same under other names
pub record HasTypedForm (kernel : Kernel) : Type 0 where
  pub typed : IsTyped kernel
  pub number_of : ℕ → ℕ
  pub renamed : IsRenamed kernel number_of (canonical kernel)
  pub form_typed : IsTyped (canonical kernel)

abbrev pub CoveredHaveTypedForms : Type 0
CoveredHaveTypedForms = (kernel : Kernel) → is_covered kernel ≡ true → HasTypedForm kernel

-- the canonical form shows what the kernel shows, whatever kernel is asked for and on whatever numbers
abbrev pub CanonicalRunsAreSame : Type 0
CanonicalRunsAreSame =
    (kernel : Kernel) → is_covered kernel ≡ true → (name : List ℕ) (inputs : Inputs)
    → SameRuns (text_size kernel + text_size (canonical kernel)) (llvm_run (text_module kernel) name inputs) (llvm_run (text_module (canonical kernel)) name inputs)

-- a binary with a kernel's instructions has as many of them as the kernel's text
abbrev pub ImageSizesAreSame : Type 0
ImageSizesAreSame = (kernel : Kernel) (m : SpvModule) (f : ℕ → ℕ) → IsImage kernel f m → bodies_size m.bodies ≡ text_size kernel

-- the text of the canonical form shows what a binary with the kernel's instructions shows
abbrev pub FormShowsImage : Type 0
FormShowsImage =
    (kernel : Kernel) (m : SpvModule) (f : ℕ → ℕ) → is_covered kernel ≡ true → IsImage kernel f m → (name : List ℕ) (inputs : Inputs)
    → SameRuns (bodies_size m.bodies + text_size (canonical kernel)) (spirv_run m name inputs) (llvm_run (text_module (canonical kernel)) name inputs)
