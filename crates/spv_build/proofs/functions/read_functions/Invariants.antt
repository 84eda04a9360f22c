use Rattle.std.proofs.Common.{◌≡◌, drop}
use Rattle.spv_names.specs.Uses.{has_wide}
use Rattle.spv_build.specs.Functions.{behind_insts, no_functions}
use Rattle.spv_build.proofs.functions.read_functions.Given as goal

abbrev pub invariant-loop-inst : goal.invariant-loop-inst
invariant-loop-inst l = behind_insts (has_wide l.insts) l.so_far (drop l.inst-index l.section) ≡ behind_insts (has_wide l.insts) no_functions l.section
