use Rattle.std.proofs.Common.{◌<◌, length, rules, sym, ◌∙◌, ap, ◌++◌, [], ◌∷◌, get_or, arith}
use Rattle.std.proofs.lemmas.List.{get_or_default}
use Rattle.inst_walk.proofs.Collected.{label-more}
use Rattle.inst_walk.proofs.definitions.block_labels.Goals as goal

pub loop-place-preserved : goal.loop-place-preserved
loop-place-preserved g c =
    let below : c.loop-place.place-index < length c.args.order.now = search rules in
    label-more g.I.InstSet.outline c.args.body.now c.as_slice-blocks.result.now c.as_slice-blocks.ensures (get_or c.args.order.now c.loop-place.place-index 0) c.index-blocks-place.result
    (omega (arith, c.requires c.loop-place.place-index 0 below, ap length c.as_slice-blocks.ensures)) c.index-blocks-place.is c.args.order.now c.loop-place.place-index below
    (get_or_default c.args.order.now c.loop-place.place-index 0 (get_or c.args.order.now c.loop-place.place-index 0) below) c.loop-place.names.items c.push.new.self.items c.loop-place.invariant
    (c.in_ok-push.ensures.items ∙ ap (λ b. c.loop-place.names.items ++ b.name ∷ []) (sym c.index-blocks-place.is))
