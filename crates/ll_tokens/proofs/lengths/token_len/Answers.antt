use Rattle.std.proofs.Common.{sym, ◌∙◌, ap, ap₂}
use Rattle.ll_tokens.specs.Reach.{reach, longer}
use Rattle.ll_tokens.specs.Tokens.{form_of}
use Rattle.ll_tokens.proofs.lengths.token_len.Goals as goal

pub returns-in-Label : goal.returns-in-Label
unfolding reach
returns-in-Label c = c.longer.ensures ∙ ap₂ longer c.plain_label_len.ensures c.quoted_label_len.ensures ∙ ap (λ k. reach (form_of k) c.args.bytes.now) (sym c.in-Label.is)

pub returns-in-Int : goal.returns-in-Int
unfolding reach
returns-in-Int c = c.longer-in-Int.ensures ∙ ap₂ longer c.body_len.ensures c.len_behind-in-Int.ensures ∙ ap (λ k. reach (form_of k) c.args.bytes.now) (sym c.in-Int.is)
