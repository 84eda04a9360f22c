use Rattle.std.proofs.Common.{◌<◌, length, take, sym, ◌∙◌, ap, arith, rules}
use Rattle.std.specs.Prelude.{map}
use Rattle.inst_walk.specs.Uses.{breaks_rule, limited_test}
use Rattle.inst_walk.proofs.FirstLemmas.{at-next, at-here, at-end}
use Rattle.inst_walk.proofs.UsesLemmas.{count-next, count-room}
use Rattle.inst_walk.proofs.uses.break_in_block.Goals as goal

pub returns-then-breaks_rule : goal.returns-then-breaks_rule
returns-then-breaks_rule g c =
    sym (c.loop-i.invariant.so_far ∙ at-here g.I.InstSet.outline c.args.insts.now c.loop-i.i (limited_test g.I.Name.PartialEq.eq c.args.definitions.now.labels c.args.definitions.now.defined c.args.definitions.now.reached c.args.start (map g.I.InstSet.outline c.args.insts.now)) c.index-insts-i.result (search rules) c.index-insts-i.is
    (ap (λ n. breaks_rule g.I.Name.PartialEq.eq c.args.definitions.now.labels c.args.definitions.now.defined c.args.definitions.now.reached (take n c.args.definitions.now.reached) (g.I.InstSet.outline c.index-insts-i.result)) (sym c.loop-i.invariant.counted) ∙ sym c.breaks_rule.ensures ∙ c.if-breaks_rule.true))

pub limit_below-limit-requires : goal.limit_below-limit-requires
limit_below-limit-requires g c =
    let below : c.loop-i.i < length c.args.insts.now = search rules in
    let room = count-room g.I.InstSet.outline c.args.insts.now c.loop-i.i c.index-insts-i.result below c.index-insts-i.is in
    omega (arith, room, c.loop-i.invariant.counted, c.len-end.ensures)

pub loop-i-preserved : goal.loop-i-preserved
loop-i-preserved g c =
    let below : c.loop-i.i < length c.args.insts.now = search rules in
    record {
      counted =
          let next = count-next g.I.InstSet.outline c.args.insts.now c.loop-i.i c.index-insts-i.result below c.index-insts-i.is in
          omega (arith, next, c.loop-i.invariant.counted, c.limit_below-limit.ensures);
      so_far = c.loop-i.invariant.so_far ∙ at-next g.I.InstSet.outline c.args.insts.now c.loop-i.i (limited_test g.I.Name.PartialEq.eq c.args.definitions.now.labels c.args.definitions.now.defined c.args.definitions.now.reached c.args.start (map g.I.InstSet.outline c.args.insts.now)) c.index-insts-i.result below c.index-insts-i.is
          (ap (λ n. breaks_rule g.I.Name.PartialEq.eq c.args.definitions.now.labels c.args.definitions.now.defined c.args.definitions.now.reached (take n c.args.definitions.now.reached) (g.I.InstSet.outline c.index-insts-i.result)) (sym c.loop-i.invariant.counted) ∙ sym c.breaks_rule.ensures ∙ c.if-breaks_rule.false);
    }

pub returns : goal.returns
returns g c =
    sym (c.loop-i.invariant.so_far ∙ at-end g.I.InstSet.outline c.args.insts.now c.loop-i.i (limited_test g.I.Name.PartialEq.eq c.args.definitions.now.labels c.args.definitions.now.defined c.args.definitions.now.reached c.args.start (map g.I.InstSet.outline c.args.insts.now)) (search rules))
