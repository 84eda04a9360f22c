use Rattle.std.proofs.Common.{◌≡◌, drop}
use Rattle.std.specs.Cmp.Lexicographic.{pointwise}
use Rattle.to_llvm.specs.SameModules.{same_inst}
use Rattle.to_llvm.proofs.same.are_same_insts.Given as goal

abbrev pub invariant-loop-i : goal.invariant-loop-i
invariant-loop-i l = pointwise same_inst l.insts l.others ≡ pointwise same_inst (drop l.i l.insts) (drop l.i l.others)
