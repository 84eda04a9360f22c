use Rattle.ll_tokens.proofs.Between.{gap_lem}
use Rattle.ll_tokens.proofs.laws.gap_is_blanks_and_comments.Goals as goal

pub returns : goal.returns
returns c = λ text. gap_lem text
