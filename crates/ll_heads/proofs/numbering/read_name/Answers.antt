use Rattle.ll_heads.proofs.ParamsRead.{name_read}
use Rattle.ll_heads.proofs.numbering.read_name.Goals as goal

pub returns-in_ok-numbering-in-Some : goal.returns-in_ok-numbering-in-Some
returns-in_ok-numbering-in-Some c = name_read _ _ _ _ _ _ _ _ c.in_ok-name-in-Some.ensures.read c.in_ok-numbering-in-Some.ensures
