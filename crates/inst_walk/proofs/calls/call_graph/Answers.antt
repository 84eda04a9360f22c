use Rattle.std.proofs.Common.{length, sym, ◌∙◌, ap, subst}
use Rattle.std.specs.Prelude.{map}
use Rattle.graph_walk.specs.Levels.{Rises}
use Rattle.inst_walk.specs.Body.{body_outline}
use Rattle.inst_walk.proofs.BlockGraph.{length-map}
use Rattle.inst_walk.proofs.CallsLemmas.{calls_of-graph}
use Rattle.inst_walk.proofs.calls.call_graph.Goals as goal

pub invariant_of-result : goal.invariant_of-result
invariant_of-result g c =
    let each = ap length (c.in_ok-functions.ensures ∙ c.in_ok-from_slice.ensures.items) ∙ c.requires ∙ sym (length-map (body_outline g.I.InstSet.outline) c.args.bodies.now) in
    let h = calls_of-graph g.I.Name.PartialEq.eq c.in_ok-functions.functions (map (body_outline g.I.InstSet.outline) c.args.bodies.now) c.in_ok-rows.rows.items each c.in_ok-rows.ensures in
    record { graph = h.0; named = h.1; rises = subst (λ r. Rises r c.in_ok-levels.levels.items) c.deref.ensures.value c.in_ok-levels.ensures.rises }
