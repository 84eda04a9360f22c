use Rattle.std.proofs.Common.{◌≡◌, take}
use Rattle.std.specs.Prelude.{map}
use Rattle.inst_walk.specs.Renaming.{renamed_name}
use Rattle.inst_walk.proofs.renamed.renamed_names.Given as goal

abbrev pub invariant-loop-name : goal.invariant-loop-name
invariant-loop-name g l = l.renamed.items ≡ map (renamed_name g.N.PartialEq.eq l.renaming) (take l.name-index l.names)
