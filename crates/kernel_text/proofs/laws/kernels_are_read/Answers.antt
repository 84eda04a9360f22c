use Rattle.std.proofs.Common.{refl, inr, lit<}
use Rattle.std.specs.List.{IsDistinct}
use Rattle.ll_parser.specs.Productions.{◌>>◌}
use Rattle.ll_parser.proofs.TableFacts.{once}
use Rattle.kernel_text.specs.Examples.{example_names}
use Rattle.kernel_text.specs.Phrases.{pieces_of}
use Rattle.kernel_text.proofs.laws.kernels_are_read.Goals as goal

pub returns : goal.returns
unfolding ◌>>◌ pieces_of IsDistinct
returns c = record {
  reads = (_, refl, (_, (_, (_, refl, refl, refl), (_, (_, refl, refl, refl), (_, (_, refl, refl, refl), refl))), (_, (_, refl, refl, (refl, refl, (tt, refl))), (_, (_, (_, refl, refl, refl), refl), (_, (_, (_, (_, (_, refl, refl, refl), refl), (_, refl, (_, refl, refl, (refl, refl, (tt, refl))))), refl), (_, (_, (_, refl, refl, refl), (_, (_, refl, refl, refl), refl)), (_, inr (refl, refl, refl), (_, (_, (_, (_, refl, refl, (refl, refl, (lit< tt, refl))), (_, (_, (_, refl, refl, refl), (_, (_, refl, refl, refl), (_, (_, refl, refl, refl), refl))), (_, (_, refl, refl, (refl, refl, (tt, refl))), (_, (_, (_, refl, refl, refl), refl), (_, refl, refl, (refl, refl, (tt, refl))))))), refl), (_, (_, refl, refl, refl), (_, (_, refl, refl, refl), (_, (_, refl, refl, refl), refl)))))))))));
  distinct = once example_names ((refl, (refl, (refl, tt))), ((refl, (refl, tt)), ((refl, tt), (tt, tt))));
}
