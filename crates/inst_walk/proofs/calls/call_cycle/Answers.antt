use Rattle.std.proofs.Common.{sym, ◌∙◌, None, Some}
use Rattle.std.specs.Prelude.{map}
use Rattle.inst_walk.specs.Body.{body_outline}
use Rattle.inst_walk.proofs.CallsLemmas.{found-first}
use Rattle.inst_walk.proofs.calls.call_cycle.Goals as goal

pub returns-in-None : goal.returns-in-None
returns-in-None g c =
    found-first g.I.Name.PartialEq.eq c.args.names.now c.in_ok-graph.graph.functions (map (body_outline g.I.InstSet.outline) c.args.bodies.now) c.in_ok-graph.graph.rows.items None c.in_ok-graph.ensures.rows c.in_ok-graph.ensures.functions (sym c.in-None.is ∙ c.in_ok-cycle_in_bodies.ensures)

pub returns : goal.returns
returns g c =
    found-first g.I.Name.PartialEq.eq c.args.names.now c.in_ok-graph.graph.functions (map (body_outline g.I.InstSet.outline) c.args.bodies.now) c.in_ok-graph.graph.rows.items (Some (c.in-Some.caller, (c.in-Some.block, c.in-Some.inst))) c.in_ok-graph.ensures.rows c.in_ok-graph.ensures.functions (sym c.in-Some.is ∙ c.in_ok-cycle_in_bodies.ensures)
