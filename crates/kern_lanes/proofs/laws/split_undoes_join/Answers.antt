use Rattle.std.proofs.Common.{ap, sym, ◌∙◌}
use Rattle.kern_lanes.specs.Widths.{bits_of}
use Rattle.kern_lanes.specs.Regrouping.{digits, joined}
use Rattle.kern_lanes.proofs.DigitLemmas.{digits-from_digits}
use Rattle.kern_lanes.proofs.laws.split_undoes_join.Goals as goal

pub returns : goal.returns
returns c =
    λ from to parts lanes narrower count. ap (λ n. digits (bits_of to) n (joined to parts)) (sym count) ∙ digits-from_digits (bits_of to) parts lanes
