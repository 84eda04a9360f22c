use Rattle.std.proofs.Common.{refl}
use Rattle.inst_walk.specs.Body.{body_outline}
use Rattle.inst_walk.specs.Calls.{callees_of}
use Rattle.inst_walk.specs.Places.{places_of}
use Rattle.inst_walk.proofs.BlockGraph.{map-taken}
use Rattle.inst_walk.proofs.calls.call_rows.Goals as goal

pub returns : goal.returns
returns g c =
    map-taken (λ body. places_of g.I.Name.PartialEq.eq c.args.functions.now (callees_of body)) (body_outline g.I.InstSet.outline) _ _ _ c.loop-body.body-index c.loop-body-test.false refl c.loop-body.invariant
