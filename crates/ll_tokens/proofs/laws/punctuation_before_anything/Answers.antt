use Rattle.ll_tokens.proofs.Following.{punctuation_lem}
use Rattle.ll_tokens.proofs.laws.punctuation_before_anything.Goals as goal

pub returns : goal.returns
returns c = λ byte rest punctuation. punctuation_lem byte rest punctuation
