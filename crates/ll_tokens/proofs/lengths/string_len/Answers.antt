use Rattle.std.proofs.Common.{sym, ◌∙◌, ap}
use Rattle.ll_tokens.specs.declared.bytes.ByteClass.TheVariants.{Unquoted}
use Rattle.ll_tokens.specs.Forms.{End, Until}
use Rattle.ll_tokens.specs.Reach.{one_more, with_next}
use Rattle.ll_tokens.proofs.Reaches.{reach_string}
use Rattle.ll_tokens.proofs.lengths.string_len.Goals as goal

pub returns-in_err-end : goal.returns-in_err-end
returns-in_err-end c =
    c.from_residual-in_err-end.ensures ∙ sym (c.in_ok-rest.ensures.reach (Until Unquoted 34 End) ∙ ap one_more (reach_string _ ∙ ap (with_next 34 _) (sym c.run_len.ensures) ∙ sym c.in_err-end.ensures))

pub returns : goal.returns
returns c = sym (c.in_ok-rest.ensures.reach (Until Unquoted 34 End) ∙ ap one_more (reach_string _ ∙ ap (with_next 34 _) (sym c.run_len.ensures) ∙ sym c.in_ok-end.ensures))
