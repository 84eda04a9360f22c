use Rattle.std.proofs.Common.{◌≡◌, ◌++◌, length, take, drop}
use Rattle.std.specs.Prelude.{map}
use Rattle.inst_walk.specs.Renaming.{renamed_name}
use Rattle.inst_walk.proofs.renaming.Renaming.rename_all.Given as goal

abbrev pub invariant-loop-i : goal.invariant-loop-i
invariant-loop-i g l = record {
  as_long : length l.names ≡ length l.initial.names;
  so_far :
      take l.i l.names ++ map (renamed_name g.N.PartialEq.eq l.self) (drop l.i l.names)
      ≡ map (renamed_name g.N.PartialEq.eq l.self) l.initial.names;
}
