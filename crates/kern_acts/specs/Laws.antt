-- What follows of the definitions.
use Rattle.kern_runs.specs.Machines.{IsMachine}
use Rattle.kern_acts.specs.Steps.{Program, IsProgram, machine}

-- a state that is over stays, and between two jumps there are no more steps than the module has instructions
abbrev pub ProgramsAreMachines : Type 0
ProgramsAreMachines = (program : Program) → IsProgram program → IsMachine (machine program)
