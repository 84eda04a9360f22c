use Rattle.std.proofs.Common.{refl, inl, codes, lit<}
use Rattle.ll_parser.specs.Productions.{◌>>◌}
use Rattle.ll_parser.proofs.laws.types_are_read.Goals as goal

pub returns : goal.returns
unfolding ◌>>◌
returns c = (
  _,
  (_, refl, refl, (codes "32", refl, refl, (λ e. cc), refl)),
  (_, (_, inl (_, (_, refl, refl, refl), (_, (_, refl, refl, refl), (_, (_, refl, refl, (refl, lit< tt)), (_, refl, refl, refl)))), (_, refl, refl, refl)), refl),
)
