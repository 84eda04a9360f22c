use Rattle.std.proofs.Common.{◌≡◌, ◌+◌, length, take, drop}
use Rattle.std.specs.Prelude.{map}
use Rattle.inst_walk.specs.First.{position_at}
use Rattle.inst_walk.specs.Uses.{results_of, limited_test}
use Rattle.inst_walk.proofs.uses.break_in_block.Given as goal

abbrev pub invariant-loop-i : goal.invariant-loop-i
invariant-loop-i g l = record {
  counted : l.limit ≡ l.start + length (results_of (take l.i (map g.I.InstSet.outline l.insts)));
  so_far :
      position_at (limited_test g.I.Name.PartialEq.eq l.definitions.labels l.definitions.defined l.definitions.reached l.start (map g.I.InstSet.outline l.insts)) 0 (map g.I.InstSet.outline l.insts)
      ≡ position_at (limited_test g.I.Name.PartialEq.eq l.definitions.labels l.definitions.defined l.definitions.reached l.start (map g.I.InstSet.outline l.insts)) l.i (drop l.i (map g.I.InstSet.outline l.insts));
}
