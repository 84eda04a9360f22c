use Rattle.std.specs.Prelude.{IsTrue}
use Rattle.kern_runs.proofs.Correspondence.{alike}
use Rattle.kern_runs.proofs.correspondence_is_alike.Goals as goal

pub returns : goal.returns
returns c = λ a b related s t is_a is_b corresponds r. alike a b (λ x y. IsTrue (related x y)) is_a is_b corresponds s t r
