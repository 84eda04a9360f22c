-- Instructions by their words: which end a block, and which are given no name (LLVM 14, Terminator Instructions; Identifiers).
use Rattle.std.specs.Prelude.{◌≡◌, ℕ, Bool, true, List, [], ◌∷◌, codes}
use Rattle.std.specs.List.{list_any}
use Rattle.std.specs.Str.{bytes_eq}
use Rattle.ll_tokens.specs.declared.kinds.TokenKind.TheVariants.{Word}
use Rattle.ll_tokens.specs.Tokens.{Lexeme}
use Rattle.ll_parser.specs.Productions.{Production, mark, token}
use Rattle.ll_parser.specs.Reading.{EndsNowhere}
use Rattle.ll_attributes.specs.FunctionAttributes.{NoFunctionAttribute}
use Rattle.ll_operands.specs.Whole.{EndsOperation}

abbrev pub terminator_words : List (List ℕ)
terminator_words = codes "ret" ∷ codes "br" ∷ codes "switch" ∷ codes "unreachable" ∷ []

abbrev pub unnamed_words : List (List ℕ)
unnamed_words = codes "store" ∷ codes "fence" ∷ codes "ret" ∷ codes "br" ∷ codes "switch" ∷ codes "unreachable" ∷ []

abbrev pub is_word_of : List (List ℕ) → List ℕ → Bool
is_word_of words text = list_any (λ word. bytes_eq word text) words

-- one of some words
abbrev pub one_of : List (List ℕ) → Production
one_of words = token Word (λ lexeme. is_word_of words lexeme.text ≡ true)

abbrev pub terminator_word : Production
terminator_word = one_of terminator_words

abbrev pub unnamed_word : Production
unnamed_word = one_of unnamed_words

-- no instruction goes on with the tokens, nor do its attachments, which stand behind commas, 44, nor the attributes of a call, with
-- values behind `=`, 61
pub record EndsInst (tokens : List Lexeme) : Type 0 where
  pub operation : EndsOperation tokens
  pub no_comma : EndsNowhere (mark 44) tokens
  pub no_attribute : NoFunctionAttribute tokens
  pub no_value : EndsNowhere (mark 61) tokens
