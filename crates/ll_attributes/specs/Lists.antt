-- Lists of which as much is read as is there, and where they are refused.
use Rattle.std.specs.Prelude.{◌≡◌, ◌⊎◌, List}
use Rattle.ll_tokens.specs.Tokens.{Lexeme}
use Rattle.ll_parser.specs.declared.refusal.Refusal.{Refusal}
use Rattle.ll_parser.specs.Productions.{Production, each}
use Rattle.ll_parser.specs.Reading.{EndsNowhere}

-- the production where it is there, and no token where it isn't
abbrev pub maybe_here : Production → Production
maybe_here production tokens rest = production tokens rest ⊎ ((tokens ≡ rest) × EndsNowhere production tokens)

-- some items, one behind another
abbrev pub some_of : {A : Type 0} → (A → Production) → Production
some_of {A} item tokens rest = (xs : List A) × each item xs tokens rest

-- these items, behind which no further one begins
pub record AllOf {A : Type 0} (item : A → Production) (none_begins : List Lexeme → Type 0) (xs : List A) (tokens rest : List Lexeme) : Type 0 where
  pub items : each item xs tokens rest
  pub all : none_begins rest

-- some items, behind which no further one begins
pub record SkipsAll (some : Production) (none_begins : List Lexeme → Type 0) (tokens rest : List Lexeme) : Type 0 where
  pub skipped : some tokens rest
  pub all : none_begins rest

-- behind some items one begins that is refused
pub record StopsBehind (some : Production) (item_fails : List Lexeme → Refusal → Type 0) (tokens : List Lexeme) (refusal : Refusal) : Type 0 where
  pub middle : List Lexeme
  pub before : some tokens middle
  pub fails : item_fails middle refusal
