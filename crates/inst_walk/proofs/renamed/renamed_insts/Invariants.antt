use Rattle.std.proofs.Common.{◌≡◌, ◌++◌, length, reverse}
use Rattle.std.specs.Prelude.{map}
use Rattle.inst_walk.specs.Renaming.{renamed_name}
use Rattle.inst_walk.proofs.renamed.renamed_insts.Given as goal

abbrev pub invariant-loop-inst : goal.invariant-loop-inst
invariant-loop-inst g l = map (g.I.InstSet.renamed (renamed_name g.I.Name.PartialEq.eq l.renaming)) l.insts ++ reverse l.renamed.items ≡ map (g.I.InstSet.renamed (renamed_name g.I.Name.PartialEq.eq l.renaming)) l.initial.insts

abbrev pub decreases-loop-inst : goal.decreases-loop-inst
decreases-loop-inst g l = length l.insts
