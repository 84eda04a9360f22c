-- The lines that list the tokens of a text.
use Rattle.std.specs.Prelude.{◌≡◌, ℕ, List, [], ◌∷◌, ◌++◌, codes, decimal, IsUtf8, ◌⊎◌}
use Rattle.std.specs.List.{flat_map}
use Rattle.ports.specs.declared.faults.LlFault.{LlFault}
use Rattle.ports.specs.declared.faults.LlError.{LlError}
use Rattle.ports.specs.declared.faults.LlError.TheVariants.{NoMemory, Fault}
use Rattle.ll_tokens.specs.Encoding.{IsEncodingFault}
use Rattle.ll_tokens.specs.Tokens.{Lexeme, IsTokens, IsTokenFault}

-- the byte where a token begins, and its text as it stands
abbrev pub token_line : Lexeme → List ℕ
token_line token = decimal token.byte ++ (codes ": " ++ (token.text ++ 10 ∷ []))

abbrev pub token_lines : List Lexeme → List ℕ
token_lines tokens = flat_map token_line tokens

-- the bytes list the tokens of the text that the input is
pub record IsListing (input bytes : List ℕ) : Type 0 where
  pub utf8 : IsUtf8 input
  pub tokens : List Lexeme
  pub are_tokens : IsTokens input tokens
  pub lines : bytes ≡ token_lines tokens

-- the input is no UTF-8 from this place on
-- or it is, and something stands there that begins no token
abbrev pub IsListingFault : List ℕ → LlFault → Type 0
IsListingFault input fault =
    IsEncodingFault input fault ⊎ (IsUtf8 input × (fault.rule ≡ 2) × IsTokenFault input fault.byte)

-- why an input has no listing
abbrev pub IsListingError : List ℕ → LlError → Type 0
IsListingError input NoMemory = Unit {0}
IsListingError input (Fault fault) = IsListingFault input fault
