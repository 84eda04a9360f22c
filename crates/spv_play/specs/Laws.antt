-- What follows of the definitions.
use Rattle.std.specs.Prelude.{◌≡◌, ℕ, List}
use Rattle.kern_acts.specs.Steps.{machine}
use Rattle.kern_events.specs.declared.item.Inputs.{Inputs}
use Rattle.kern_runs.specs.Machines.{IsMachine}
use Rattle.spv_module.specs.declared.module.SpvModule.{SpvModule}
use Rattle.spv_module.specs.Modules.{IsSame}
use Rattle.spv_play.specs.Meaning.{spirv_program, spirv_start, spirv_run}

-- a module is a machine, whose size is the number of its instructions
abbrev pub ModulesAreMachines : Type 0
ModulesAreMachines = (m : SpvModule) → IsMachine (machine (spirv_program m))

-- two modules mean the same: as programs, in where a kernel starts, and in what its steps show
pub record MeanTheSame (m n : SpvModule) : Type 0 where
  pub programs : spirv_program m ≡ spirv_program n
  pub starts : (name : List ℕ) (inputs : Inputs) → spirv_start m name inputs ≡ spirv_start n name inputs
  pub runs : (name : List ℕ) (inputs : Inputs) (steps : ℕ) → spirv_run m name inputs steps ≡ spirv_run n name inputs steps

-- neither the places of instructions nor the byte order matter
abbrev pub PlacesChangeNothing : Type 0
PlacesChangeNothing = (m n : SpvModule) → IsSame m n → MeanTheSame m n
