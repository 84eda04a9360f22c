use Rattle.std.proofs.Common.{◌<◌, sym, subst}
use Rattle.inst_walk.proofs.CallsLemmas.{called-inside}
use Rattle.inst_walk.proofs.calls.calls_on_cycle.Goals as goal

pub leads_back-requires : goal.leads_back-requires
leads_back-requires g c =
    subst (λ n. c.in-Some.place < n) c.args.graph.now.named
    (called-inside g.I.Name.PartialEq.eq c.args.graph.now.functions (g.I.InstSet.outline c.args.inst.now).calls c.in-Some.place (sym c.in-Some.ensures))
