use Rattle.std.proofs.Common.{◌≡◌, take, string_bytes}
use Rattle.ll_tokens.specs.Tokens.{lexemes_of}
use Rattle.kt_driver.specs.Listings.{token_lines}
use Rattle.kt_driver.proofs.listing.token_lines.Given as goal

-- the lines so far are those of the tokens so far
abbrev pub invariant-loop-token : goal.invariant-loop-token
invariant-loop-token l = string_bytes l.lines ≡ token_lines (lexemes_of (take l.token-index l.tokens))
