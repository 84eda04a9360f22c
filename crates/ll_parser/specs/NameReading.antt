-- What readers of names answer, which number the names that they meet.
use Rattle.std.specs.Prelude.{◌≡◌, ℕ, ◌⊎◌, List, drop, length}
use Rattle.ll_tokens.specs.declared.kinds.TokenKind.{TokenKind}
use Rattle.ll_tokens.specs.Tokens.{Lexeme}
use Rattle.ll_tree.specs.declared.name.Name.{Name}
use Rattle.ll_tree.specs.declared.name.NameKind.{NameKind}
use Rattle.ll_tree.specs.declared.name.NameText.{NameText}
use Rattle.ll_parser.specs.declared.refusal.ReadError.{ReadError}
use Rattle.ll_parser.specs.declared.refusal.ReadError.TheVariants.{NoMemory, Refused}
use Rattle.ll_parser.specs.declared.refusal.Refusal.{Refusal}
use Rattle.ll_parser.specs.Productions.{Production, token}
use Rattle.ll_parser.specs.Reading.{EndsNowhere, DerivesNone}
use Rattle.ll_parser.specs.Spellings.{Spells}
use Rattle.ll_parser.specs.Tables.{Extends}

-- The value is derived with the table that the reader left, which extends the one that it found, and with every longer one
pub record ReadsWith {A : Type 0} (item : List NameText → A → Production) (found left : List NameText) (value : A) (tokens rest : List Lexeme) : Type 0 where
  pub extends : Extends found left
  pub reads : (longer : List NameText) → Extends left longer → item longer value tokens rest

-- no value is derived, whatever the table
abbrev pub DerivesNoneWith : {A : Type 0} → (List NameText → A → Production) → List Lexeme → Type 0
DerivesNoneWith item tokens = (names : List NameText) → DerivesNone (item names) tokens

-- the text spells a name of this number, in the table that was left and in every longer one
pub record SpellsWith (found left : List NameText) (kind : NameKind) (text : List ℕ) (number : ℕ) : Type 0 where
  pub extends : Extends found left
  pub spells : (longer : List NameText) → Extends left longer → Spells longer kind text number

-- a name behind the sign of a token
abbrev pub signed_name : TokenKind → NameKind → List NameText → Name → Production
signed_name kind name_kind names name =
    token kind (λ lexeme. (name.byte ≡ lexeme.byte) × Spells names name_kind (drop 1 lexeme.text) name.number)

-- a token of a kind
abbrev pub any_of : TokenKind → Production
any_of kind = token kind (λ _. Unit {0})

-- rule 3 is broken where no token of the kind stands, and rule 4 where one does, whose digits are 2^31 or more
abbrev pub IsNoName : TokenKind → List Lexeme → Refusal → Type 0
IsNoName kind tokens refusal =
    (EndsNowhere (any_of kind) tokens × (refusal ≡ record { rule = 3; left = length tokens }))
    ⊎ ((rest : List Lexeme) × any_of kind tokens rest × (refusal ≡ record { rule = 4; left = length tokens }))

-- what is told where no name is read
abbrev pub NameFails : TokenKind → NameKind → List Lexeme → ReadError → Type 0
NameFails kind name_kind tokens NoMemory = Unit {0}
NameFails kind name_kind tokens (Refused refusal) = DerivesNoneWith (signed_name kind name_kind) tokens × IsNoName kind tokens refusal
