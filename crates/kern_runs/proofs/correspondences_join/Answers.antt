use Rattle.std.specs.Prelude.{IsTrue}
use Rattle.kern_runs.proofs.Correspondence.{join}
use Rattle.kern_runs.proofs.correspondences_join.Goals as goal

pub returns : goal.returns
returns c = λ a b third first second corresponds next. join a b third (λ x y. IsTrue (first x y)) (λ x y. IsTrue (second x y)) corresponds next
