use Rattle.kern_acts.proofs.Bodies.{is-program}
use Rattle.kern_acts.proofs.Machines.{is-machine}
use Rattle.spv_play.specs.Meaning.{spirv_program, is_placing, inst_act}
use Rattle.spv_play.proofs.modules_are_machines.Goals as goal

pub returns : goal.returns
returns c = λ m. is-machine (spirv_program m) (is-program m.bodies (is_placing m) (inst_act m))
