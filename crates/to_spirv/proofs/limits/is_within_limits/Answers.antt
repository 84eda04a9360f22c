use Rattle.std.proofs.Common.{sym, ◌∙◌}
use Rattle.std.proofs.lemmas.Bool.{false≢true}
use Rattle.to_spirv.proofs.LimitLemmas.{small-within, within-small}
use Rattle.to_spirv.proofs.limits.is_within_limits.Goals as goal

pub returns-then-not-has_bound_within : goal.returns-then-not-has_bound_within
returns-then-not-has_bound_within c =
    (λ none. absurd (false≢true none), λ within. absurd (false≢true (sym c.if-not-has_bound_within.true ∙ c.has_bound_within.ensures.1 within.bound)))

pub returns-then-not-has_short_name : goal.returns-then-not-has_short_name
returns-then-not-has_short_name c =
    (λ none. absurd (false≢true none), λ within. absurd (false≢true (sym c.if-not-has_short_name.true ∙ c.has_short_name.ensures.1 (within-small c.args.kernel.now within).name)))

pub returns : goal.returns
returns c = (
  λ few. small-within c.args.kernel.now (record {
    bound = c.has_bound_within.ensures.0 c.if-not-has_bound_within.false;
    name = c.has_short_name.ensures.0 c.if-not-has_short_name.false;
    params = c.has_short_type.ensures.0 few;
  }),
  λ within. c.has_short_type.ensures.1 (within-small c.args.kernel.now within).params,
)
