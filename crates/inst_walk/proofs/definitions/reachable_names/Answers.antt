use Rattle.std.proofs.Common.{◌≡◌, ◌<◌, length, take, get_or, replicate, None, Some, refl, sym, ◌∙◌, ap, rules, arith}
use Rattle.std.proofs.lemmas.List.{append-nil, get_or_default, length-set, length-replicate, take_more}
use Rattle.inst_walk.specs.Body.{body_outline}
use Rattle.inst_walk.specs.Uses.{start_of}
use Rattle.inst_walk.proofs.Above.{starts-begin, starts-next}
use Rattle.inst_walk.proofs.Collected.{names-more}
use Rattle.inst_walk.proofs.definitions.reachable_names.Goals as goal

pub loop-place-init : goal.loop-place-init
loop-place-init g c =
    let none : c.in_ok-starts.starts.items ≡ replicate (length c.args.body.now.blocks) None =
    c.in_ok-starts.ensures.items_if_clones_equal (elim [ None ↦ λ e. refl | Some x ↦ λ e. absurd e ]) ∙ ap (λ n. replicate n None) (ap length c.as_slice-blocks.ensures) in
    record {
      named = c.in_ok-names.ensures.items ∙ c.as_slice.ensures ∙ sym (append-nil c.args.body.now.params);
      each = ap length none ∙ length-replicate (length c.args.body.now.blocks) None;
      started = λ place below. starts-begin (body_outline g.I.InstSet.outline c.args.body.now) c.in_ok-starts.starts.items (length c.args.body.now.blocks) place none below;
    }

pub loop-place-preserved : goal.loop-place-preserved
loop-place-preserved g c =
    let below : c.loop-place.place-index < length c.args.order.now = search rules in
    let inside : get_or c.args.order.now c.loop-place.place-index 0 < length c.args.body.now.blocks = c.requires c.loop-place.place-index 0 below in
    let count : c.len.result ≡ length c.loop-place.names.items = search rules in
    record {
      named = names-more g.I.InstSet.outline c.args.body.now c.as_slice-blocks.result.now c.as_slice-blocks.ensures (get_or c.args.order.now c.loop-place.place-index 0) c.index-blocks-place.result
          (omega (arith, ap length c.as_slice-blocks.ensures)) c.index-blocks-place.is c.args.order.now c.loop-place.place-index below
          (get_or_default c.args.order.now c.loop-place.place-index 0 (get_or c.args.order.now c.loop-place.place-index 0) below) c.loop-place.names.items c.add_results.new.names.items c.as_slice-in-loop-place.result.now (c.as_slice-in-loop-place.ensures ∙ ap (λ b. b.insts) (sym c.index-blocks-place.is)) c.loop-place.invariant.named c.in_ok-add_results.ensures;
      each = ap length c.note_start.ensures ∙ length-set c.loop-place.starts.items (get_or c.args.order.now c.loop-place.place-index 0) _ ∙ c.loop-place.invariant.each;
      started = λ place here.
          starts-next (body_outline g.I.InstSet.outline c.args.body.now) (take c.loop-place.place-index c.args.order.now) c.loop-place.starts.items c.note_start.new.starts.items (get_or c.args.order.now c.loop-place.place-index 0) place c.len.result
          (omega (arith, c.loop-place.invariant.each)) (count ∙ ap length c.loop-place.invariant.named) c.note_start.ensures (c.loop-place.invariant.started (get_or c.args.order.now c.loop-place.place-index 0) inside) (c.loop-place.invariant.started place here)
          ∙ ap (λ l. start_of (body_outline g.I.InstSet.outline c.args.body.now) l place) (sym (take_more c.args.order.now c.loop-place.place-index 0 below));
    }
