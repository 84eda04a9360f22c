-- Values of one token (LLVM 14, Simple Constants), and what is told where there is none.
use Rattle.std.specs.Prelude.{◌≡◌, ℕ, true, false, List, [], ◌∷◌, codes, drop, length}
use Rattle.ll_tokens.specs.declared.kinds.TokenKind.{TokenKind}
use Rattle.ll_tokens.specs.declared.kinds.TokenKind.TheVariants.{Int as IntToken, Local as LocalToken, Global as GlobalToken, CStr}
use Rattle.ll_tokens.specs.Tokens.{Lexeme}
use Rattle.ll_tree.specs.declared.name.NameText.{NameText}
use Rattle.ll_tree.specs.declared.ty.LlType.{LlType}
use Rattle.ll_tree.specs.declared.value.Value.{Value, Local, Global, Int, Bytes, Bool as Truth, Null, Zero, Undef, Poison}
use Rattle.ll_parser.specs.declared.refusal.ReadError.{ReadError}
use Rattle.ll_parser.specs.declared.refusal.ReadError.TheVariants.{NoMemory, Refused}
use Rattle.ll_parser.specs.GrammarValues.{value}
use Rattle.ll_parser.specs.NameReading.{DerivesNoneWith}
use Rattle.ll_parser.specs.Productions.{Production, token}
use Rattle.ll_parser.specs.Spellings.{between_quotes}

-- one token spells the value
abbrev pub IsSingle : Value → Type 0
IsSingle (Local name) = Unit {0}
IsSingle (Global name) = Unit {0}
IsSingle (Int number) = Unit {0}
IsSingle (Bytes bytes) = Unit {0}
IsSingle (Truth truth) = Unit {0}
IsSingle Null = Unit {0}
IsSingle Zero = Unit {0}
IsSingle Undef = Unit {0}
IsSingle Poison = Unit {0}
IsSingle _ = ⊥

abbrev pub single : LlType → List NameText → Value → Production
single t names v tokens rest = IsSingle v × value names v t tokens rest

-- a word spells the value
abbrev pub IsWordValue : Value → List ℕ → Type 0
IsWordValue (Truth true) word = word ≡ codes "true"
IsWordValue (Truth false) word = word ≡ codes "false"
IsWordValue Null word = word ≡ codes "null"
IsWordValue Zero word = word ≡ codes "zeroinitializer"
IsWordValue Undef word = word ≡ codes "undef"
IsWordValue Poison word = word ≡ codes "poison"
IsWordValue _ word = ⊥

-- `c` and a text between quotes
abbrev pub bytes_token : List ℕ → Production
bytes_token bytes = token CStr (λ lexeme. between_quotes (drop 1 lexeme.text) ≡ bytes)

-- the rule that a token of a kind breaks that spells no value
abbrev pub value_rule : TokenKind → ℕ
value_rule IntToken = 4
value_rule LocalToken = 4
value_rule GlobalToken = 4
value_rule _ = 3

-- the rule that tokens break which begin with no value of one token
abbrev pub single_rule : List Lexeme → ℕ
single_rule [] = 3
single_rule (first ∷ behind) = value_rule first.kind

abbrev pub SingleRefused : LlType → List Lexeme → ReadError → Type 0
SingleRefused t tokens NoMemory = Unit {0}
SingleRefused t tokens (Refused refusal) =
    DerivesNoneWith (single t) tokens × (refusal ≡ record { rule = single_rule tokens; left = length tokens })
