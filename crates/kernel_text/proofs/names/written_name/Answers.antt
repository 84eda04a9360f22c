use Rattle.std.proofs.Common.{ap, sym, ◌∙◌}
use Rattle.kernel_text.specs.NameSorts.{spelled_text}
use Rattle.kernel_text.proofs.NameFacts.{written_read}
use Rattle.kernel_text.proofs.names.written_name.Goals as goal

pub returns-in-Some-2 : goal.returns-in-Some-2
returns-in-Some-2 c =
    let found = rw c.in-Some-2.is at c.in_ok-number-in-Some.ensures.spelled in
    written_read c.args.sort _ _ _ _ _ _ _ c.in-Some.ensures (c.is_of_kind.ensures.0 c.if-is_of_kind.true ∙ c.token_kind.ensures) (c.spelled_text-text.ensures ∙ ap (spelled_text c.args.sort) c.as_bytes.ensures.value) (sym c.allows.ensures ∙ c.if-not-allows.false) (rw c.name_kind.ensures at found)
