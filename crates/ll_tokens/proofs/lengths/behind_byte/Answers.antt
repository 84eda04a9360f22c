use Rattle.std.proofs.Common.{sym, ◌∙◌, eqb, ap}
use Rattle.std.specs.Option.{option_copied}
use Rattle.ll_tokens.specs.Reach.{reach_behind}
use Rattle.ll_tokens.proofs.Reaches.{reach_byte_nil, reach_byte_cons, kept_if}
use Rattle.ll_tokens.proofs.lengths.behind_byte.Goals as goal

-- an empty text has no such front
pub returns-in_err-byte-clause-reach : goal.returns-in_err-byte-clause-reach
returns-in_err-byte-clause-reach c = λ f.
    reach_byte_nil c.args.first f c.args.bytes.now c.in_err-byte.ensures.cases ∙ ap (λ o. reach_behind f (option_copied o)) (sym c.from_residual.ensures)

-- the first byte decides
pub returns-clause-reach : goal.returns-clause-reach
returns-clause-reach c = λ f.
    reach_byte_cons c.args.first f _ _ _ c.in_ok-byte.ensures.cases.0 ∙ kept_if (eqb c.in_ok-byte.byte.now c.args.first) f c.in_ok-byte.rest _ c.then_some.ensures
