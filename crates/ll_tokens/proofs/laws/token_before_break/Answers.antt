use Rattle.ll_tokens.proofs.Separate.{token_before_break_lem}
use Rattle.ll_tokens.proofs.laws.token_before_break.Goals as goal

pub returns : goal.returns
returns c = λ kind token rest whole behind. token_before_break_lem kind token rest whole behind
