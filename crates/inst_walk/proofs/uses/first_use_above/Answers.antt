use Rattle.std.proofs.Common.{◌≡◌, ◌<◌, length, None, sym, ◌∙◌, ap, rules, arith}
use Rattle.std.specs.Prelude.{map}
use Rattle.std.proofs.lemmas.List.{get_or_default}
use Rattle.inst_walk.specs.Body.{block_outline, body_outline}
use Rattle.inst_walk.specs.First.{first_from}
use Rattle.inst_walk.specs.Uses.{first_break_in, first_use_break, start_of}
use Rattle.inst_walk.proofs.Above.{broken, roomy}
use Rattle.inst_walk.proofs.Collected.{outline-at}
use Rattle.inst_walk.proofs.FirstLemmas.{first-next, first-here, first-end}
use Rattle.inst_walk.proofs.uses.first_use_above.Goals as goal

pub break_in-requires : goal.break_in-requires
break_in-requires g c =
    let below : c.loop-place.place < length c.as_slice-blocks.result.now = search rules in
    let each = ap length c.as_slice-blocks.ensures in
    let start : c.index.result.now ≡ start_of (body_outline g.I.InstSet.outline c.args.body.now) c.args.order.now c.loop-place.place =
    c.index.ensures ∙ get_or_default c.in_ok-definitions.field-0.starts.items c.loop-place.place c.index.result.now None (omega (arith, c.in_ok-definitions.ensures.len)) ∙ c.in_ok-definitions.ensures.starts c.loop-place.place (omega arith) in
    roomy (body_outline g.I.InstSet.outline c.args.body.now) c.args.order.now c.loop-place.place (block_outline g.I.InstSet.outline c.index-blocks-place.result)
    (outline-at g.I.InstSet.outline c.args.body.now c.as_slice-blocks.result.now c.as_slice-blocks.ensures c.loop-place.place c.index-blocks-place.result below c.index-blocks-place.is)
    c.in_ok-definitions.field-0.reached c.index.result.now c.in_ok-definitions.ensures.reached start

pub returns-in-Some : goal.returns-in-Some
unfolding first_use_break
returns-in-Some g c =
    let below : c.loop-place.place < length c.as_slice-blocks.result.now = search rules in
    let each = ap length c.as_slice-blocks.ensures in
    let start : c.index.result.now ≡ start_of (body_outline g.I.InstSet.outline c.args.body.now) c.args.order.now c.loop-place.place =
    c.index.ensures ∙ get_or_default c.in_ok-definitions.field-0.starts.items c.loop-place.place c.index.result.now None (omega (arith, c.in_ok-definitions.ensures.len)) ∙ c.in_ok-definitions.ensures.starts c.loop-place.place (omega arith) in
    sym (ap (λ bs. first_from (first_break_in g.I.Name.PartialEq.eq (body_outline g.I.InstSet.outline c.args.body.now) c.args.order.now) 0 (map (block_outline g.I.InstSet.outline) bs)) (sym c.as_slice-blocks.ensures)
    ∙ c.loop-place.invariant
    ∙ first-here (block_outline g.I.InstSet.outline) c.as_slice-blocks.result.now c.loop-place.place (first_break_in g.I.Name.PartialEq.eq (body_outline g.I.InstSet.outline c.args.body.now) c.args.order.now) c.index-blocks-place.result c.in-Some.inst below c.index-blocks-place.is
    (broken (body_outline g.I.InstSet.outline c.args.body.now) c.args.order.now c.loop-place.place (block_outline g.I.InstSet.outline c.index-blocks-place.result)
    (outline-at g.I.InstSet.outline c.args.body.now c.as_slice-blocks.result.now c.as_slice-blocks.ensures c.loop-place.place c.index-blocks-place.result below c.index-blocks-place.is)
    g.I.Name.PartialEq.eq c.in_ok-definitions.field-0.labels c.in_ok-definitions.field-0.defined c.in_ok-definitions.field-0.reached c.index.result.now c.break_in.result c.in_ok-definitions.ensures.labels c.in_ok-definitions.ensures.defined c.in_ok-definitions.ensures.reached start c.break_in.ensures
    ∙ c.in-Some.is))

pub loop-place-preserved : goal.loop-place-preserved
loop-place-preserved g c =
    let below : c.loop-place.place < length c.as_slice-blocks.result.now = search rules in
    let each = ap length c.as_slice-blocks.ensures in
    let start : c.index.result.now ≡ start_of (body_outline g.I.InstSet.outline c.args.body.now) c.args.order.now c.loop-place.place =
    c.index.ensures ∙ get_or_default c.in_ok-definitions.field-0.starts.items c.loop-place.place c.index.result.now None (omega (arith, c.in_ok-definitions.ensures.len)) ∙ c.in_ok-definitions.ensures.starts c.loop-place.place (omega arith) in
    c.loop-place.invariant
    ∙ first-next (block_outline g.I.InstSet.outline) c.as_slice-blocks.result.now c.loop-place.place (first_break_in g.I.Name.PartialEq.eq (body_outline g.I.InstSet.outline c.args.body.now) c.args.order.now) c.index-blocks-place.result below c.index-blocks-place.is
    (broken (body_outline g.I.InstSet.outline c.args.body.now) c.args.order.now c.loop-place.place (block_outline g.I.InstSet.outline c.index-blocks-place.result)
    (outline-at g.I.InstSet.outline c.args.body.now c.as_slice-blocks.result.now c.as_slice-blocks.ensures c.loop-place.place c.index-blocks-place.result below c.index-blocks-place.is)
    g.I.Name.PartialEq.eq c.in_ok-definitions.field-0.labels c.in_ok-definitions.field-0.defined c.in_ok-definitions.field-0.reached c.index.result.now c.break_in.result c.in_ok-definitions.ensures.labels c.in_ok-definitions.ensures.defined c.in_ok-definitions.ensures.reached start c.break_in.ensures
    ∙ c.in_default.is)

pub returns : goal.returns
unfolding first_use_break
returns g c =
    sym (ap (λ bs. first_from (first_break_in g.I.Name.PartialEq.eq (body_outline g.I.InstSet.outline c.args.body.now) c.args.order.now) 0 (map (block_outline g.I.InstSet.outline) bs)) (sym c.as_slice-blocks.ensures)
    ∙ c.loop-place.invariant
    ∙ first-end (block_outline g.I.InstSet.outline) c.as_slice-blocks.result.now c.loop-place.place (first_break_in g.I.Name.PartialEq.eq (body_outline g.I.InstSet.outline c.args.body.now) c.args.order.now) (search rules))
