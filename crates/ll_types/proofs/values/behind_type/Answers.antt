use Rattle.ll_types.proofs.values.behind_type.Goals as goal

pub returns : goal.returns
returns c = (c.in_ok-_first._first, c.in_ok-_first.ensures)
