use Rattle.std.proofs.Common.{sym, ◌∙◌}
use Rattle.ll_tokens.proofs.Reaches.{reach_quoted_label, reach_no_quoted_label}
use Rattle.ll_tokens.proofs.lengths.quoted_label_len.Goals as goal

pub returns-in_err-end : goal.returns-in_err-end
returns-in_err-end c = c.from_residual.ensures ∙ sym (reach_no_quoted_label _ c.in_err-end.ensures)

pub returns : goal.returns
returns c = c.with_next.ensures ∙ sym (reach_quoted_label _ _ c.in_ok-end.ensures)
