use Rattle.std.proofs.Common.{sym, ◌∙◌, ap}
use Rattle.ll_tokens.specs.Forms.{End}
use Rattle.ll_tokens.specs.Reach.{one_more}
use Rattle.ll_tokens.proofs.Reaches.{reach_end}
use Rattle.ll_tokens.proofs.lengths.one_len.Goals as goal

pub returns : goal.returns
returns c = sym (c.in_ok-behind_one.ensures.reach End ∙ ap one_more (reach_end _))
