use Rattle.ll_heads.proofs.ParamsRead.{left_out_read}
use Rattle.ll_heads.proofs.numbering.name_left_out.Goals as goal

pub returns-in_ok-one_more-in-Some : goal.returns-in_ok-one_more-in-Some
returns-in_ok-one_more-in-Some c = left_out_read _ _ _ _ _ _ _ c.in-Some.is c.in_ok-one_more-in-Some.ensures c.in_ok-number-in-Some.ensures.entry c.in_ok-number-in-Some.ensures.kept
