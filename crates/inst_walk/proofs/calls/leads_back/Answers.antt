use Rattle.std.proofs.Common.{sym, rules}
use Rattle.graph_walk.proofs.LevelsLemmas.{not-reached}
use Rattle.inst_walk.proofs.calls.leads_back.Goals as goal

pub returns-then-level_at : goal.returns-then-level_at
returns-then-level_at g c =
    sym (not-reached c.args.graph.now.rows.items c.args.graph.now.levels.items c.args.place c.args.caller c.args.graph.now.rises (search rules))
