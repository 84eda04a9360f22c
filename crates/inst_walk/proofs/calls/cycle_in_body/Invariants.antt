use Rattle.std.proofs.Common.{◌≡◌, drop}
use Rattle.std.specs.Prelude.{map}
use Rattle.inst_walk.specs.Body.{block_outline}
use Rattle.inst_walk.specs.Calls.{first_in_block}
use Rattle.inst_walk.specs.First.{first_from}
use Rattle.inst_walk.proofs.calls.cycle_in_body.Given as goal

abbrev pub invariant-loop-place : goal.invariant-loop-place
invariant-loop-place g l =
    first_from (λ _ block. first_in_block g.I.Name.PartialEq.eq l.graph.rows.items l.graph.functions l.caller block) 0 (map (block_outline g.I.InstSet.outline) l.blocks)
    ≡ first_from (λ _ block. first_in_block g.I.Name.PartialEq.eq l.graph.rows.items l.graph.functions l.caller block) l.place (drop l.place (map (block_outline g.I.InstSet.outline) l.blocks))
