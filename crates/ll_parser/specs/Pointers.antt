-- The pointers of a type as they are read: as many as there are (LLVM 14, Pointer Type).
use Rattle.std.specs.Prelude.{ℕ, ◌⊎◌, List}
use Rattle.ll_tokens.specs.Tokens.{Lexeme}
use Rattle.ll_parser.specs.declared.refusal.ReadError.{ReadError}
use Rattle.ll_parser.specs.declared.refusal.ReadError.TheVariants.{NoMemory, Refused}
use Rattle.ll_parser.specs.declared.refusal.Refusal.{Refusal}
use Rattle.ll_parser.specs.GrammarTypes.{pointer}
use Rattle.ll_parser.specs.Productions.{mark, each}
use Rattle.ll_parser.specs.Reading.{EndsNowhere, DerivesNone}
use Rattle.ll_parser.specs.Spaces.{space_here, NoSpace, IsNoSpace, IsUnexpected}

-- neither an address space nor a `*`, 42, begins the tokens
pub record NoPointer (tokens : List Lexeme) : Type 0 where
  pub no_space : NoSpace tokens
  pub no_star : EndsNowhere (mark 42) tokens

-- these pointers, behind which no further one begins
pub record pointers_here (spaces : List ℕ) (tokens rest : List Lexeme) : Type 0 where
  pub pointers : each pointer spaces tokens rest
  pub all : NoPointer rest

-- a pointer begins the tokens and isn't one: its address space is refused, or what stands where the `*` is to be
pub record PointerFails (tokens : List Lexeme) (refusal : Refusal) : Type 0 where
  pub begins : NoPointer tokens → ⊥
  pub none : DerivesNone pointer tokens
  pub place : IsNoSpace tokens refusal ⊎ ((value : ℕ) × (behind : List Lexeme) × space_here value tokens behind × IsUnexpected (mark 42) behind refusal)

-- no pointers are all that begin the tokens, since behind some of them one fails
pub record PointersRefused (tokens : List Lexeme) (refusal : Refusal) : Type 0 where
  pub none : DerivesNone pointers_here tokens
  pub spaces : List ℕ
  pub middle : List Lexeme
  pub before : each pointer spaces tokens middle
  pub fails : PointerFails middle refusal

-- what is told where no pointers are read
abbrev pub PointersFail : List Lexeme → ReadError → Type 0
PointersFail tokens NoMemory = Unit {0}
PointersFail tokens (Refused refusal) = PointersRefused tokens refusal
