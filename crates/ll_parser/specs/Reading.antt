-- What a reader of a production answers, where the production derives nothing from any front of the tokens.
use Rattle.std.specs.Prelude.{◌≡◌, ℕ, ◌-◌, ◌^◌, min, IsTrue, List, [], ◌∷◌}
use Rattle.std.specs.List.{list_all}
use Rattle.std.specs.Char.{is_ascii_digit}
use Rattle.ll_tokens.specs.declared.kinds.TokenKind.{TokenKind}
use Rattle.ll_tokens.specs.declared.kinds.TokenKind.TheVariants.{Int as IntToken}
use Rattle.ll_tokens.specs.Tokens.{Lexeme}
use Rattle.ll_parser.specs.Productions.{Production}
use Rattle.ll_parser.specs.Spellings.{decimal_value}

-- no front of the tokens is the production's
abbrev pub EndsNowhere : Production → List Lexeme → Type 0
EndsNowhere production tokens = (rest : List Lexeme) → production tokens rest → ⊥

-- no front of the tokens is a value of the item
abbrev pub DerivesNone : {A : Type 0} → (A → Production) → List Lexeme → Type 0
DerivesNone {A} item tokens = (value : A) (rest : List Lexeme) → item value tokens rest → ⊥

-- the rule that a token of a kind breaks where a number from 0 to 2^63 - 1 is to stand
abbrev pub rule_of : TokenKind → ℕ
rule_of IntToken = 4
rule_of _ = 3

-- the rule that tokens break where they are to begin with such a number, and don't
abbrev pub number_rule : List Lexeme → ℕ
number_rule [] = 3
number_rule (first ∷ rest) = rule_of first.kind

-- a word names the integer type with these bits: `i`, 105, and digits
abbrev pub IsBits : List ℕ → ℕ → Type 0
IsBits word bits =
    (digits : List ℕ) × (word ≡ 105 ∷ digits) × IsTrue (list_all is_ascii_digit digits) × (digits ≡ [] → ⊥) × (bits ≡ min (decimal_value digits) (2 ^ 64 - 1))
