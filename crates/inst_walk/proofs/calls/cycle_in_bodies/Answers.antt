use Rattle.std.proofs.Common.{sym, ◌∙◌, rules}
use Rattle.inst_walk.specs.Body.{body_outline}
use Rattle.inst_walk.specs.Calls.{first_in_body}
use Rattle.inst_walk.proofs.FirstLemmas.{first-next, first-here, first-end}
use Rattle.inst_walk.proofs.calls.cycle_in_bodies.Goals as goal

pub returns-in-Some : goal.returns-in-Some
returns-in-Some g c =
    sym (c.loop-caller.invariant ∙ first-here (body_outline g.I.InstSet.outline) c.args.bodies.now c.loop-caller.caller (first_in_body g.I.Name.PartialEq.eq c.args.graph.now.rows.items c.args.graph.now.functions) c.index-bodies-caller.result c.in-Some.place (search rules) c.index-bodies-caller.is (sym c.in_ok-place.ensures ∙ c.in-Some.is))

pub loop-caller-preserved : goal.loop-caller-preserved
loop-caller-preserved g c =
    c.loop-caller.invariant ∙ first-next (body_outline g.I.InstSet.outline) c.args.bodies.now c.loop-caller.caller (first_in_body g.I.Name.PartialEq.eq c.args.graph.now.rows.items c.args.graph.now.functions) c.index-bodies-caller.result (search rules) c.index-bodies-caller.is (sym c.in_ok-place.ensures ∙ c.in_default.is)

pub returns : goal.returns
returns g c =
    sym (c.loop-caller.invariant ∙ first-end (body_outline g.I.InstSet.outline) c.args.bodies.now c.loop-caller.caller (first_in_body g.I.Name.PartialEq.eq c.args.graph.now.rows.items c.args.graph.now.functions) (search rules))
