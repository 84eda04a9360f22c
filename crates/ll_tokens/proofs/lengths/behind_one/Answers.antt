use Rattle.std.proofs.Common.{sym, ◌∙◌, ap}
use Rattle.std.specs.Bool.{then_some}
use Rattle.std.specs.Option.{option_copied}
use Rattle.ll_tokens.specs.Forms.{in_class}
use Rattle.ll_tokens.specs.Reach.{reach_behind}
use Rattle.ll_tokens.proofs.Reaches.{reach_one_nil, reach_one_cons, kept_if}
use Rattle.ll_tokens.proofs.lengths.behind_one.Goals as goal

-- an empty text has no such front
pub returns-in_err-byte-clause-reach : goal.returns-in_err-byte-clause-reach
returns-in_err-byte-clause-reach c = λ f.
    reach_one_nil c.args.first f c.args.bytes.now c.in_err-byte.ensures.cases ∙ ap (λ o. reach_behind f (option_copied o)) (sym c.from_residual.ensures)

-- the first byte decides
pub returns-clause-reach : goal.returns-clause-reach
returns-clause-reach c = λ f.
    reach_one_cons c.args.first f _ _ _ c.in_ok-byte.ensures.cases.0 ∙ kept_if (in_class c.args.first c.in_ok-byte.byte.now) f c.in_ok-byte.rest _ (c.then_some.ensures ∙ ap (λ t. then_some t c.in_ok-byte.rest) c.contains.ensures)
