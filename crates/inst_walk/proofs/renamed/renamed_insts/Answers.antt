use Rattle.inst_walk.specs.Renaming.{renamed_name}
use Rattle.inst_walk.proofs.Rebuilt.{one-moved}
use Rattle.inst_walk.proofs.renamed.renamed_insts.Goals as goal

pub loop-inst-preserved : goal.loop-inst-preserved
loop-inst-preserved g c =
    one-moved (g.I.InstSet.renamed (renamed_name g.I.Name.PartialEq.eq c.args.renaming.now)) _ _ _ _ _ _ _ c.in-Some.ensures c.rename.ensures c.in_ok-push.ensures.items c.loop-inst.invariant
