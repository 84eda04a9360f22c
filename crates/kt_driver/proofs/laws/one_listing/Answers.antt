use Rattle.std.proofs.Common.{[], length, ap, sym, ◌∙◌}
use Rattle.ll_tokens.proofs.Places.{one_reading, no_token_at_end}
use Rattle.kt_driver.specs.Listings.{token_lines}
use Rattle.kt_driver.proofs.laws.one_listing.Goals as goal

pub returns : goal.returns
returns c = λ input first second a b.
    let same = one_reading (length input) input [] [] a.tokens b.tokens a.are_tokens no_token_at_end b.are_tokens no_token_at_end in
    a.lines ∙ ap token_lines same.0 ∙ sym b.lines
