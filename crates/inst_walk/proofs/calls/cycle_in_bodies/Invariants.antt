use Rattle.std.proofs.Common.{◌≡◌, drop}
use Rattle.std.specs.Prelude.{map}
use Rattle.inst_walk.specs.Body.{body_outline}
use Rattle.inst_walk.specs.Calls.{first_in_body}
use Rattle.inst_walk.specs.First.{first_from}
use Rattle.inst_walk.proofs.calls.cycle_in_bodies.Given as goal

abbrev pub invariant-loop-caller : goal.invariant-loop-caller
invariant-loop-caller g l =
    first_from (first_in_body g.I.Name.PartialEq.eq l.graph.rows.items l.graph.functions) 0 (map (body_outline g.I.InstSet.outline) l.bodies)
    ≡ first_from (first_in_body g.I.Name.PartialEq.eq l.graph.rows.items l.graph.functions) l.caller (drop l.caller (map (body_outline g.I.InstSet.outline) l.bodies))
