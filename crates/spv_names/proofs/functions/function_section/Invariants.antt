use Rattle.std.proofs.Common.{◌≡◌, drop}
use Rattle.spv_names.specs.Functions.{function_section}
use Rattle.spv_names.proofs.functions.function_section.Given as goal

abbrev pub invariant-loop-index : goal.invariant-loop-index
invariant-loop-index l = function_section (drop l.index l.insts) ≡ function_section l.insts
