use Rattle.std.proofs.Common.{◌≡◌, take}
use Rattle.std.specs.Prelude.{map}
use Rattle.inst_walk.specs.Body.{body_outline}
use Rattle.inst_walk.specs.Calls.{callees_of}
use Rattle.inst_walk.specs.Places.{places_of}
use Rattle.inst_walk.proofs.calls.call_rows.Given as goal

abbrev pub invariant-loop-body : goal.invariant-loop-body
invariant-loop-body g l = l.rows.items ≡ map (λ body. places_of g.I.Name.PartialEq.eq l.functions (callees_of (body_outline g.I.InstSet.outline body))) (take l.body-index l.bodies)
