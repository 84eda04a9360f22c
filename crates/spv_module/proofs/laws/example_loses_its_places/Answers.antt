use Rattle.std.proofs.Common.{refl}
use Rattle.spv_module.specs.Modules.{without_places}
use Rattle.spv_module.proofs.laws.example_loses_its_places.Goals as goal

pub returns : goal.returns
unfolding without_places
returns c = λ order place. refl
