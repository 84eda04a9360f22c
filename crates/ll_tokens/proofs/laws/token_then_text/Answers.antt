use Rattle.ll_tokens.proofs.Following.{token_then_text_lem}
use Rattle.ll_tokens.proofs.laws.token_then_text.Goals as goal

pub returns : goal.returns
returns c = λ total token rest after tokens front place reads. token_then_text_lem total token rest after tokens front place reads
