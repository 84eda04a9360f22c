use Rattle.std.proofs.Common.{refl}
use Rattle.ll_operands.proofs.words.unless_name.Goals as goal

pub returns : goal.returns
returns c = (refl, c.begins_with_name.ensures.absent c.if-begins_with_name.false)
