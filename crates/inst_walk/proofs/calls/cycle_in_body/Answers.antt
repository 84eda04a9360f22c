use Rattle.std.proofs.Common.{sym, ◌∙◌, ap, rules}
use Rattle.std.specs.List.{position_from}
use Rattle.std.specs.Prelude.{map}
use Rattle.inst_walk.specs.Body.{block_outline}
use Rattle.inst_walk.specs.Calls.{first_in_block, has_cycle_call}
use Rattle.inst_walk.specs.First.{first_from}
use Rattle.inst_walk.proofs.FirstLemmas.{first-next, first-here, first-end}
use Rattle.inst_walk.proofs.calls.cycle_in_body.Goals as goal

pub returns-in-Some : goal.returns-in-Some
returns-in-Some g c =
    sym (ap (λ bs. first_from (λ _ block. first_in_block g.I.Name.PartialEq.eq c.args.graph.now.rows.items c.args.graph.now.functions c.args.caller block) 0 (map (block_outline g.I.InstSet.outline) bs)) (sym c.as_slice-blocks.ensures)
    ∙ c.loop-place.invariant
    ∙ first-here (block_outline g.I.InstSet.outline) c.as_slice-blocks.result.now c.loop-place.place (λ _ block. first_in_block g.I.Name.PartialEq.eq c.args.graph.now.rows.items c.args.graph.now.functions c.args.caller block) c.index-blocks-place.result c.in-Some.inst (search rules) c.index-blocks-place.is
    (ap (λ insts. position_from (has_cycle_call g.I.Name.PartialEq.eq c.args.graph.now.rows.items c.args.graph.now.functions c.args.caller) 0 (map g.I.InstSet.outline insts)) (sym c.as_slice.ensures)
    ∙ sym c.in_ok-inst.ensures ∙ c.in-Some.is))

pub loop-place-preserved : goal.loop-place-preserved
loop-place-preserved g c =
    c.loop-place.invariant
    ∙ first-next (block_outline g.I.InstSet.outline) c.as_slice-blocks.result.now c.loop-place.place (λ _ block. first_in_block g.I.Name.PartialEq.eq c.args.graph.now.rows.items c.args.graph.now.functions c.args.caller block) c.index-blocks-place.result (search rules) c.index-blocks-place.is
    (ap (λ insts. position_from (has_cycle_call g.I.Name.PartialEq.eq c.args.graph.now.rows.items c.args.graph.now.functions c.args.caller) 0 (map g.I.InstSet.outline insts)) (sym c.as_slice.ensures)
    ∙ sym c.in_ok-inst.ensures ∙ c.in_default.is)

pub returns : goal.returns
returns g c =
    sym (ap (λ bs. first_from (λ _ block. first_in_block g.I.Name.PartialEq.eq c.args.graph.now.rows.items c.args.graph.now.functions c.args.caller block) 0 (map (block_outline g.I.InstSet.outline) bs)) (sym c.as_slice-blocks.ensures)
    ∙ c.loop-place.invariant
    ∙ first-end (block_outline g.I.InstSet.outline) c.as_slice-blocks.result.now c.loop-place.place (λ _ block. first_in_block g.I.Name.PartialEq.eq c.args.graph.now.rows.items c.args.graph.now.functions c.args.caller block) (search rules))
