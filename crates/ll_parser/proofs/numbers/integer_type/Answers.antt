use Rattle.std.proofs.Common.{sym, subst}
use Rattle.ll_parser.specs.Reading.{IsBits}
use Rattle.ll_parser.proofs.TokenFacts.{token_nowhere}
use Rattle.ll_parser.proofs.numbers.integer_type.Goals as goal

pub returns-in-None-clause-read : goal.returns-in-None-clause-read
returns-in-None-clause-read c = λ value.
    token_nowhere _ _ _ _ _ c.in-Some.ensures (λ _ bits. c.in-None.ensures value (subst (λ w. IsBits w value) (sym c.as_bytes.ensures.value) bits))
