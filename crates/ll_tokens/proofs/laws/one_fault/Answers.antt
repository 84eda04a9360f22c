use Rattle.std.proofs.Common.{length, ap, arith}
use Rattle.ll_tokens.proofs.Places.{one_reading}
use Rattle.ll_tokens.proofs.laws.one_fault.Goals as goal

pub returns : goal.returns
returns c = λ text a b p q ha hb.
    let same = one_reading (length text) text ha.rest hb.rest a b ha.reads ha.no_token hb.reads hb.no_token in
    (same.0, omega (arith, ha.place, hb.place, ap length same.1))
