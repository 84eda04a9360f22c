use Rattle.std.proofs.Common.{rules}
use Rattle.kern_types.proofs.OffsetLemmas.{offset_value}
use Rattle.kern_types.proofs.steps.element_offset.Goals as goal

pub returns : goal.returns
returns c =
    offset_value c.args.index c.args.size c.from.result c.from-2.result c.rem_euclid.result c.ranges.index (search rules) c.from.ensures c.from-2.ensures c.rem_euclid.ensures.value (search rules)
