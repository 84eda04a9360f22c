use Rattle.ll_tokens.proofs.OneKind.{one_kind_lem}
use Rattle.ll_tokens.proofs.laws.one_kind.Goals as goal

pub returns : goal.returns
returns c = λ a b text ha hb. one_kind_lem a b text ha hb
