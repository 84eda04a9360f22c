use Rattle.std.proofs.Common.{ap, drop, ◌∙◌}
use Rattle.ll_parser.proofs.TableFacts.{signed_read}
use Rattle.ll_parser.proofs.names.signed_name.Goals as goal

pub returns-in-Some-2-clause-read : goal.returns-in-Some-2-clause-read
returns-in-Some-2-clause-read c =
    let found = rw c.in-Some-2.is at c.in_ok-number-in-Some.ensures.spelled in
    signed_read _ _ _ _ _ _ _ _ _ c.in-Some.ensures (c.is_of_kind.ensures.0 c.if-is_of_kind.true) (c.behind_sign-text.ensures ∙ ap (drop 1) c.as_bytes.ensures.value) found
