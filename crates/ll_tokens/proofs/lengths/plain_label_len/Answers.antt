use Rattle.std.proofs.Common.{sym, ◌∙◌, arith}
use Rattle.ll_tokens.proofs.Reaches.{reach_label, reach_no_label}
use Rattle.ll_tokens.proofs.lengths.plain_label_len.Goals as goal

pub returns-then-run-eq0 : goal.returns-then-run-eq0
returns-then-run-eq0 c = sym (reach_no_label _ _ c.requires (omega arith))

pub returns : goal.returns
returns c = c.with_next.ensures ∙ sym (reach_label _ _ c.requires (omega arith))
