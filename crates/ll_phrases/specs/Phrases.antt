-- A text that is to be read again, as the tokens that it is made of and the blanks between them.
use Rattle.std.specs.Prelude.{◌≡◌, ℕ, List, [], ◌∷◌, ◌++◌, Option, None, Some}
use Rattle.ll_tokens.specs.declared.kinds.TokenKind.{TokenKind}
use Rattle.ll_tokens.specs.declared.kinds.TokenKind.TheVariants.{Int as IntToken, Word}
use Rattle.ll_parser.specs.Productions.{Production, nothing, ◌>>◌, token, mark}
use Rattle.std.specs.Fmt.{decimal}

pub data Phrase : Type 0 where
  Empty : Phrase
  -- a blank, by its byte
  Gap : ℕ → Phrase
  -- a punctuation mark, by its byte
  Mark : ℕ → Phrase
  -- a token of another kind
  Solid : TokenKind → List ℕ → Phrase
  -- one phrase behind another
  Both : Phrase → Phrase → Phrase

infixr 6 ◌&◌
abbrev pub ◌&◌ : Phrase → Phrase → Phrase
p & q = Both p q

-- the bytes of a phrase
abbrev pub written : Phrase → List ℕ
written Empty = []
written (Gap byte) = byte ∷ []
written (Mark byte) = byte ∷ []
written (Solid kind text) = text
written (Both p q) = written p ++ written q

-- the tokens of a phrase, wherever they stand
abbrev pub spelled : Phrase → Production
spelled Empty = nothing
spelled (Gap byte) = nothing
spelled (Mark byte) = mark byte
spelled (Solid kind text) = token kind (λ lexeme. lexeme.text ≡ text)
spelled (Both p q) = spelled p >> spelled q

abbrev pub blank : Phrase
blank = Gap 32

abbrev pub line_end : Phrase
line_end = Gap 10

-- a comma, 44, and a blank
abbrev pub comma : Phrase
comma = Mark 44 & blank

abbrev pub a_word : List ℕ → Phrase
a_word text = Solid Word text

abbrev pub a_number : ℕ → Phrase
a_number n = Solid IntToken (decimal n)

module _ {A : Type 0} (phrase : A → Phrase) where
  abbrev pub each_phrase : List A → Phrase
  each_phrase [] = Empty
  each_phrase (x ∷ xs) = phrase x & each_phrase xs

  -- each behind a comma
  abbrev pub each_behind : List A → Phrase
  each_behind [] = Empty
  each_behind (x ∷ xs) = comma & phrase x & each_behind xs

  -- with commas between them
  abbrev pub list_phrase : List A → Phrase
  list_phrase [] = Empty
  list_phrase (x ∷ xs) = phrase x & each_behind xs

  abbrev pub if_some : Option A → Phrase
  if_some None = Empty
  if_some (Some x) = phrase x
