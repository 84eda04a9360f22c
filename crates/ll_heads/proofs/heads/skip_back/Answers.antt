use Rattle.ll_heads.proofs.HeadsRead.{back_read}
use Rattle.ll_heads.proofs.heads.skip_back.Goals as goal

pub returns : goal.returns
returns c = back_read _ _ _ c.skip_unnamed-behind.ensures c.in_ok-rest.ensures
