use Rattle.ll_heads.proofs.ParamsRead.{next_read}
use Rattle.ll_heads.proofs.params.read_next.Goals as goal

pub returns-in_ok-read_param-in-Ok : goal.returns-in_ok-read_param-in-Ok
returns-in_ok-read_param-in-Ok c = next_read _ _ _ _ _ _ _ _ c.in-Ok.ensures.read c.in_ok-read_param-in-Ok.ensures
