use Rattle.ll_tokens.proofs.Following.{blank_then_text_lem}
use Rattle.ll_tokens.proofs.laws.blank_then_text.Goals as goal

pub returns : goal.returns
returns c = λ total byte rest after tokens blank reads. blank_then_text_lem total byte rest after tokens blank reads
