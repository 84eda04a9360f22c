use Rattle.std.proofs.Common.{◌≡◌, drop}
use Rattle.std.specs.Prelude.{map}
use Rattle.inst_walk.specs.Body.{block_outline, body_outline}
use Rattle.inst_walk.specs.First.{first_from}
use Rattle.inst_walk.specs.Uses.{first_break_in}
use Rattle.inst_walk.proofs.uses.first_use_above.Given as goal

abbrev pub invariant-loop-place : goal.invariant-loop-place
invariant-loop-place g l =
    first_from (first_break_in g.I.Name.PartialEq.eq (body_outline g.I.InstSet.outline l.body) l.order) 0 (map (block_outline g.I.InstSet.outline) l.blocks)
    ≡ first_from (first_break_in g.I.Name.PartialEq.eq (body_outline g.I.InstSet.outline l.body) l.order) l.place (drop l.place (map (block_outline g.I.InstSet.outline) l.blocks))
