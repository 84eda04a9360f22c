use Rattle.std.proofs.Common.{sym, ◌∙◌, ap, ap₂}
use Rattle.ll_tokens.specs.Reach.{reach, longer, body_form}
use Rattle.ll_tokens.proofs.lengths.body_len.Goals as goal

pub returns-in-Empty : goal.returns-in-Empty
unfolding reach
returns-in-Empty c = ap (λ b. reach (body_form b) c.args.bytes.now) (sym c.in-Empty.is)

pub returns-in-Named : goal.returns-in-Named
unfolding reach
returns-in-Named c =
    c.longer-in-Named.ensures ∙ ap₂ longer c.first_and_run_len-in-Named.ensures (c.longer.ensures ∙ ap₂ longer c.first_and_run_len-in-Named-2.ensures c.string_len-in-Named.ensures)
    ∙ ap (λ b. reach (body_form b) c.args.bytes.now) (sym c.in-Named.is)
