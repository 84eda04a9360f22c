use Rattle.std.proofs.Common.{[], length}
use Rattle.ll_tokens.proofs.Places.{one_reading, no_token_at_end}
use Rattle.ll_tokens.proofs.laws.one_token_list.Goals as goal

pub returns : goal.returns
returns c = λ text a b ha hb. (one_reading (length text) text [] [] a b ha no_token_at_end hb no_token_at_end).0
