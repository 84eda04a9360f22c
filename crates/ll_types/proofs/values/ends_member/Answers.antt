use Rattle.ll_types.proofs.Lanes.{ends_no_member}
use Rattle.ll_types.proofs.values.ends_member.Goals as goal

pub returns-clause-absent : goal.returns-clause-absent
returns-clause-absent c = λ off. ends_no_member _ (c.begins_with.ensures.absent c.if-begins_with.false) (c.begins_with-2.ensures.absent off)
