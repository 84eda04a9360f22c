use Rattle.std.proofs.Common.{◌<◌, [], length, refl, ap, ◌∙◌, sym, subst}
use Rattle.std.specs.Prelude.{All, map}
use Rattle.graph_walk.specs.Preorder.{IsGraph, preorder}
use Rattle.inst_walk.specs.Body.{body_outline, block_outline, block_names, targets_of, block_preorder}
use Rattle.inst_walk.specs.Places.{places_of}
use Rattle.inst_walk.proofs.BlockGraph.{edges_of-graph, preorder-of-none, length-map}
use Rattle.inst_walk.proofs.flow.block_order.Goals as goal

pub returns-then-is_empty-clause-order : goal.returns-then-is_empty-clause-order
unfolding block_preorder
returns-then-is_empty-clause-order g c =
    let e = preorder-of-none g.I.Name.PartialEq.eq (body_outline g.I.InstSet.outline c.args.body.now) (ap (map (block_outline g.I.InstSet.outline)) (c.if-is_empty.ensures.0 refl)) in
    c.new.ensures.items ∙ sym e

pub preorder-requires-clause-graph : goal.preorder-requires-clause-graph
preorder-requires-clause-graph g c =
    let h = edges_of-graph g.I.Name.PartialEq.eq (body_outline g.I.InstSet.outline c.args.body.now) in
    subst IsGraph (sym (c.as_slice.ensures.value ∙ c.in_ok-rows.ensures)) h

pub returns-clause-order : goal.returns-clause-order
unfolding block_preorder
returns-clause-order g c =
    c.in_ok-order.ensures.order ∙ ap (λ rows. preorder rows 0 []) (c.as_slice.ensures.value ∙ c.in_ok-rows.ensures)

pub returns-clause-places : goal.returns-clause-places
returns-clause-places g c =
    subst (λ n. All (λ place. place < n) c.in_ok-order.order.items)
    (ap length (c.as_slice.ensures.value ∙ c.in_ok-rows.ensures)
    ∙ length-map (λ b. places_of g.I.Name.PartialEq.eq (block_names (body_outline g.I.InstSet.outline c.args.body.now)) (targets_of b)) (map (block_outline g.I.InstSet.outline) c.args.body.now.blocks)
    ∙ length-map (block_outline g.I.InstSet.outline) c.args.body.now.blocks)
    c.in_ok-order.ensures.nodes
