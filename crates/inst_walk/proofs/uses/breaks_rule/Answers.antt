use Rattle.std.proofs.Common.{sym, ◌∙◌, take, rules}
use Rattle.inst_walk.specs.Uses.{breaks_use}
use Rattle.inst_walk.proofs.UsesLemmas.{none-more, one-found, none-found}
use Rattle.inst_walk.proofs.uses.breaks_rule.Goals as goal

pub returns-then-breaks_use : goal.returns-then-breaks_use
returns-then-breaks_use g c =
    sym (one-found (breaks_use g.I.Name.PartialEq.eq c.args.definitions.now.labels c.args.definitions.now.defined c.args.definitions.now.reached (take c.args.limit c.args.definitions.now.reached)) (g.I.InstSet.outline c.args.inst.now).uses c.loop-i.i c.use_at.result c.parent_at.result (search rules) c.use_at.ensures c.parent_at.ensures (sym c.breaks_use.ensures ∙ c.if-breaks_use.true))

pub loop-i-preserved : goal.loop-i-preserved
loop-i-preserved g c =
    none-more (breaks_use g.I.Name.PartialEq.eq c.args.definitions.now.labels c.args.definitions.now.defined c.args.definitions.now.reached (take c.args.limit c.args.definitions.now.reached)) (g.I.InstSet.outline c.args.inst.now).uses c.loop-i.i c.use_at.result c.parent_at.result (search rules) c.use_at.ensures c.parent_at.ensures (sym c.breaks_use.ensures ∙ c.if-breaks_use.false) c.loop-i.invariant

pub returns : goal.returns
returns g c =
    sym (none-found (breaks_use g.I.Name.PartialEq.eq c.args.definitions.now.labels c.args.definitions.now.defined c.args.definitions.now.reached (take c.args.limit c.args.definitions.now.reached)) (g.I.InstSet.outline c.args.inst.now).uses c.loop-i.i (search rules) c.loop-i.invariant)
