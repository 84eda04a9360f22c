use Rattle.std.proofs.Common.{[], length, ap, arith}
use Rattle.ll_tokens.proofs.Places.{one_reading, no_token_at_end}
use Rattle.ll_tokens.proofs.laws.tokens_or_fault.Goals as goal

pub returns : goal.returns
returns c = λ text tokens byte read fault.
    let stuck = fault.1 in
    let same = one_reading (length text) text [] stuck.rest tokens fault.0 read no_token_at_end stuck.reads stuck.no_token in
    omega (arith, stuck.not_at_end, ap length same.1)
