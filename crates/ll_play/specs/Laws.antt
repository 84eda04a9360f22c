-- What follows of the definitions.
use Rattle.std.specs.Prelude.{◌≡◌, ℕ, List}
use Rattle.kern_acts.specs.Steps.{machine}
use Rattle.kern_events.specs.declared.item.Inputs.{Inputs}
use Rattle.kern_runs.specs.Machines.{IsMachine}
use Rattle.ll_tree.specs.declared.module.LlModule.{LlModule}
use Rattle.ll_tree.specs.Modules.{IsSame}
use Rattle.ll_play.specs.Meaning.{llvm_program, llvm_start, llvm_run}

-- a module is a machine, whose size is the number of its instructions
abbrev pub ModulesAreMachines : Type 0
ModulesAreMachines = (m : LlModule) → IsMachine (machine (llvm_program m))

-- two modules mean the same: as programs, in where a kernel starts, and in what its steps show
pub record MeanTheSame (m n : LlModule) : Type 0 where
  pub programs : llvm_program m ≡ llvm_program n
  pub starts : (name : List ℕ) (inputs : Inputs) → llvm_start m name inputs ≡ llvm_start n name inputs
  pub runs : (name : List ℕ) (inputs : Inputs) (steps : ℕ) → llvm_run m name inputs steps ≡ llvm_run n name inputs steps

-- the places in the text don't matter
abbrev pub PlacesChangeNothing : Type 0
PlacesChangeNothing = (m n : LlModule) → IsSame m n → MeanTheSame m n
