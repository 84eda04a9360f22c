use Rattle.std.proofs.Common.{◌≡◌, drop}
use Rattle.spv_names.specs.Functions.{misfits, function_places, function_section}
use Rattle.spv_names.proofs.functions.function_fault.Given as goal

abbrev pub invariant-loop-inst : goal.invariant-loop-inst
invariant-loop-inst l = misfits l.words (drop l.inst-index (function_section l.insts)) l.position ≡ function_places l.insts l.words
