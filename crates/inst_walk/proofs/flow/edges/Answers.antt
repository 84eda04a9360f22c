use Rattle.inst_walk.proofs.BlockGraph.{edges-made}
use Rattle.inst_walk.proofs.flow.edges.Goals as goal

pub returns : goal.returns
returns g c =
    let e = edges-made g.I.Name.PartialEq.eq g.I.InstSet.outline c.args.body.now c.in_ok-names.names c.as_slice.result.now c.in_ok-names.ensures c.as_slice.ensures in
    rw (← e) c.rows_of.ensures
