use Rattle.std.proofs.Common.{sym, ◌∙◌, rules}
use Rattle.inst_walk.specs.Calls.{has_cycle_call}
use Rattle.inst_walk.proofs.FirstLemmas.{position-next, position-here, position-end}
use Rattle.inst_walk.proofs.calls.cycle_in_block.Goals as goal

pub returns-then-branch : goal.returns-then-branch
returns-then-branch g c =
    sym (c.loop-i.invariant ∙ position-here g.I.InstSet.outline c.args.insts.now c.loop-i.i (has_cycle_call g.I.Name.PartialEq.eq c.args.graph.now.rows.items c.args.graph.now.functions c.args.caller) c.index-insts-i.result (search rules) c.index-insts-i.is (sym c.in_ok-calls_on_cycle.ensures ∙ c.if-branch.true))

pub loop-i-preserved : goal.loop-i-preserved
loop-i-preserved g c =
    c.loop-i.invariant ∙ position-next g.I.InstSet.outline c.args.insts.now c.loop-i.i (has_cycle_call g.I.Name.PartialEq.eq c.args.graph.now.rows.items c.args.graph.now.functions c.args.caller) c.index-insts-i.result (search rules) c.index-insts-i.is (sym c.in_ok-calls_on_cycle.ensures ∙ c.if-branch.false)

pub returns : goal.returns
returns g c =
    sym (c.loop-i.invariant ∙ position-end g.I.InstSet.outline c.args.insts.now c.loop-i.i (has_cycle_call g.I.Name.PartialEq.eq c.args.graph.now.rows.items c.args.graph.now.functions c.args.caller) (search rules))
