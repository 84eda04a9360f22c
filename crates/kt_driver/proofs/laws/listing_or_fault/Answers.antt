use Rattle.std.proofs.Common.{ℕ, List, [], length, ap, inl, inr, arith}
use Rattle.ll_tokens.specs.Tokens.{IsTokenFault}
use Rattle.ll_tokens.proofs.Places.{one_reading, no_token_at_end}
use Rattle.kt_driver.specs.Listings.{IsListing}
use Rattle.kt_driver.proofs.laws.listing_or_fault.Goals as goal

-- a text with all its tokens, and with a place where none begins
not-both : (input lines : List ℕ) (byte : ℕ) → IsListing input lines → IsTokenFault input byte → ⊥
not-both input lines byte listing fault =
    let stuck = fault.1 in
    let same = one_reading (length input) input [] stuck.rest listing.tokens fault.0 listing.are_tokens no_token_at_end stuck.reads stuck.no_token in
    omega (arith, stuck.not_at_end, ap length same.1)

pub returns : goal.returns
returns c = λ input lines fault listing refused.
    elim refused [ inl encoding ↦ encoding.no_text listing.utf8 | inr token ↦ not-both input lines fault.byte listing token.2 ]
