use Rattle.std.proofs.Common.{refl}
use Rattle.ll_tree.specs.Modules.{without_places}
use Rattle.ll_tree.proofs.laws.example_loses_its_places.Goals as goal

pub returns : goal.returns
unfolding without_places
returns c = λ place. refl
