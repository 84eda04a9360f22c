use Rattle.std.proofs.Common.{◌≡◌, None, take}
use Rattle.std.specs.Prelude.{fold}
use Rattle.ll_tokens.specs.Longest.{better}
use Rattle.ll_tokens.proofs.longest.longest.Given as goal

abbrev pub invariant-loop-kind : goal.invariant-loop-kind
invariant-loop-kind l = l.best ≡ fold (better l.bytes) None (take l.kind-index l.kind-items)
