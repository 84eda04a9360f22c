use Rattle.std.proofs.Common.{◌≡◌, drop}
use Rattle.std.specs.Prelude.{map}
use Rattle.std.specs.List.{position_from}
use Rattle.inst_walk.specs.Calls.{has_cycle_call}
use Rattle.inst_walk.proofs.calls.cycle_in_block.Given as goal

abbrev pub invariant-loop-i : goal.invariant-loop-i
invariant-loop-i g l =
    position_from (has_cycle_call g.I.Name.PartialEq.eq l.graph.rows.items l.graph.functions l.caller) 0 (map g.I.InstSet.outline l.insts)
    ≡ position_from (has_cycle_call g.I.Name.PartialEq.eq l.graph.rows.items l.graph.functions l.caller) l.i (drop l.i (map g.I.InstSet.outline l.insts))
