-- Productions of a grammar over tokens: which lists of tokens begin with something, and what is left then.
use Rattle.std.specs.Prelude.{◌≡◌, ℕ, ◌⊎◌, List, [], ◌∷◌, Option, None, Some}
use Rattle.ll_tokens.specs.declared.kinds.TokenKind.{TokenKind}
use Rattle.ll_tokens.specs.declared.kinds.TokenKind.TheVariants.{Word, Punct}
use Rattle.ll_tokens.specs.Tokens.{Lexeme}

-- the tokens of a list up to those that are left
abbrev pub Production : Type 1
Production = List Lexeme → List Lexeme → Type 0

-- no token
abbrev pub nothing : Production
nothing tokens rest = tokens ≡ rest

-- one production, then another
infixr 5 ◌>>◌
unfoldable pub ◌>>◌ : Production → Production → Production
(first >> second) tokens rest = (middle : List Lexeme) × first tokens middle × second middle rest

-- either production
infixr 4 ◌or◌
abbrev pub ◌or◌ : Production → Production → Production
(first or second) tokens rest = first tokens rest ⊎ second tokens rest

-- the production, or no token
abbrev pub maybe : Production → Production
maybe production = production or nothing

-- a token of a kind for which a test holds
abbrev pub token : TokenKind → (Lexeme → Type 0) → Production
token kind test tokens rest = (lexeme : Lexeme) × (tokens ≡ lexeme ∷ rest) × (lexeme.kind ≡ kind) × test lexeme

-- a word of the language
abbrev pub word : List ℕ → Production
word text = token Word (λ lexeme. lexeme.text ≡ text)

-- a punctuation mark, by its code
abbrev pub mark : ℕ → Production
mark code = token Punct (λ lexeme. lexeme.text ≡ code ∷ [])

module _ {A : Type 0} (item : A → Production) where
  -- what stands for a list, one item behind another
  abbrev pub each : List A → Production
  each [] = nothing
  each (x ∷ xs) = item x >> each xs

  -- the same with a comma, 44, before each item
  abbrev pub each_behind_comma : List A → Production
  each_behind_comma [] = nothing
  each_behind_comma (x ∷ xs) = mark 44 >> item x >> each_behind_comma xs

  -- the same with a comma between two items
  abbrev pub listed : List A → Production
  listed [] = nothing
  listed (x ∷ xs) = item x >> each_behind_comma xs

  -- something, where it is there
  abbrev pub if_there : Option A → Production
  if_there None = nothing
  if_there (Some x) = item x
