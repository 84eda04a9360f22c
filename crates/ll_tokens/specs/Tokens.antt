-- The tokens of a text of LLVM's language: what each kind of token is made of, and which tokens a text has.
use Rattle.std.specs.Prelude.{◌≡◌, ℕ, ◌+◌, ◌<◌, ◌≤◌, Bool, false, not, ◌||◌, ◌==◌, if◌then◌else◌, List, [], ◌∷◌, length, take, drop, map, IsTrue, Option, Some, None, slice_range}
use Rattle.ports.specs.declared.faults.LlFault.{LlFault}
use Rattle.ports.specs.declared.faults.LlError.{LlError}
use Rattle.ports.specs.declared.faults.LlError.TheVariants.{NoMemory, Fault}
use Rattle.ll_tokens.specs.declared.bytes.ByteClass.TheVariants.{Blank, Digit, Name, NameStart, Punctuation, Unquoted, Word as WordByte, WordStart}
use Rattle.ll_tokens.specs.declared.kinds.TokenKind.{TokenKind}
use Rattle.ll_tokens.specs.declared.kinds.TokenKind.TheVariants.{Label, Local, Global, Mdn, MdName, MdStr, Bang, Attr, Str, CStr, Int, Word, Punct}
use Rattle.ll_tokens.specs.declared.kinds.Token.{Token}
use Rattle.ll_tokens.specs.Forms.{in_class, Form, End, Run, One, Byte, Until, Either, has_form}

abbrev pub digits : Form
digits = One Digit (Run Digit)

-- the name of a variable or a node, without quotes
abbrev pub name : Form
name = One NameStart (Run Name)

-- a double quote, bytes up to the next one, and that one, then a form: a backslash hides no quote
abbrev pub quoted : Form → Form
quoted f = Byte 34 (Until Unquoted 34 f)

-- what follows the `%` of a local and the `@` of a global
abbrev pub named : Form
named = Either digits (Either name (quoted End))

-- the form of each kind of token: 58 is `:`, 37 `%`, 64 `@`, 33 `!`, 35 `#`, 99 `c` and 45 `-`
abbrev pub form_of : TokenKind → Form
form_of Label = Either (One Name (Until Name 58 End)) (quoted (Byte 58 End))
form_of Local = Byte 37 named
form_of Global = Byte 64 named
form_of Mdn = Byte 33 digits
form_of MdName = Byte 33 name
form_of MdStr = Byte 33 (quoted End)
form_of Bang = Byte 33 End
form_of Attr = Byte 35 digits
form_of Str = quoted End
form_of CStr = Byte 99 (quoted End)
form_of Int = Either digits (Byte 45 digits)
form_of Word = One WordStart (Run WordByte)
form_of Punct = One Punctuation End

-- whether a whole text is a token of a kind
abbrev pub has_kind : TokenKind → List ℕ → Bool
has_kind kind text = has_form (form_of kind) text

-- whether a comment goes on behind the byte b: a `;` begins one, and a line feed ends it
abbrev pub comment_behind : Bool → ℕ → Bool
comment_behind in_comment b = if in_comment then not (b == 10) else b == 59

-- what is left of a text, which may begin inside a comment, behind the blanks and comments at its front
unfoldable pub behind : Bool → List ℕ → List ℕ
behind in_comment [] = []
behind in_comment (b ∷ bs) =
    if in_comment || (b == 59 || in_class Blank b) then behind (comment_behind in_comment b) bs else b ∷ bs

-- what is left of a text behind the blanks and comments at its front
abbrev pub behind_gap : List ℕ → List ℕ
behind_gap text = behind false text

-- what a token shows: its kind, its bytes, and the byte of the source where it begins
pub record Lexeme : Type 0 where
  pub kind : TokenKind
  pub text : List ℕ
  pub byte : ℕ

abbrev pub lexeme_of : Token → Lexeme
lexeme_of token = record { kind = token.kind; text = token.text.now; byte = token.byte }

abbrev pub lexemes_of : List Token → List Lexeme
lexemes_of tokens = map lexeme_of tokens

-- the first n bytes of `rest` are of the kind, and no longer front of `rest` is of any kind
pub record IsLongestFront (kind : TokenKind) (n : ℕ) (rest : List ℕ) : Type 0 where
  pub in_range : n ≤ length rest
  pub of_kind : IsTrue (has_kind kind (take n rest))
  pub longest : (other : TokenKind) (m : ℕ) → m ≤ length rest → IsTrue (has_kind other (take m rest)) → m ≤ n

-- `rest`, the end of a source of `total` bytes, begins with the token
pub record BeginsWith (total : ℕ) (token : Lexeme) (rest : List ℕ) : Type 0 where
  pub text : token.text ≡ take (length token.text) rest
  pub front : IsLongestFront token.kind (length token.text) rest
  pub place : token.byte + length rest ≡ total

-- no front of `rest` is of any kind
abbrev pub BeginsNoToken : List ℕ → Type 0
BeginsNoToken rest = (kind : TokenKind) (n : ℕ) → n ≤ length rest → has_kind kind (take n rest) ≡ false

-- `rest`, the end of a source of `total` bytes, begins with these tokens, with blanks and comments
-- before each of them and behind the last, and `after` is what is left then
abbrev pub Reads : ℕ → List Lexeme → List ℕ → List ℕ → Type 0
Reads total [] rest after = behind_gap rest ≡ after
Reads total (token ∷ tokens) rest after =
    BeginsWith total token (behind_gap rest) × Reads total tokens (drop (length token.text) (behind_gap rest)) after

-- these are the tokens of a text
abbrev pub IsTokens : List ℕ → List Lexeme → Type 0
IsTokens text tokens = Reads (length text) tokens text []

-- these are the tokens of a text up to a place, not its end, where no token begins
pub record IsStuckAt (text : List ℕ) (tokens : List Lexeme) (byte : ℕ) : Type 0 where
  pub rest : List ℕ
  pub reads : Reads (length text) tokens text rest
  pub not_at_end : 0 < length rest
  pub no_token : BeginsNoToken rest
  pub place : byte + length rest ≡ length text

-- the first place of a text where no token begins, though no blank or comment stands there
abbrev pub IsTokenFault : List ℕ → ℕ → Type 0
IsTokenFault text byte = (tokens : List Lexeme) × IsStuckAt text tokens byte

-- the tokens of a text, up to the first place where none begins if there is one: there rule 2 is broken
abbrev pub IsTokenized : List ℕ → List Lexeme → Option LlFault → Type 0
IsTokenized text tokens None = IsTokens text tokens
IsTokenized text tokens (Some fault) = (fault.rule ≡ 2) × IsStuckAt text tokens fault.byte

-- what a text without tokens is answered
abbrev pub IsTokenError : List ℕ → LlError → Type 0
IsTokenError text NoMemory = Unit {0}
IsTokenError text (Fault fault) = (fault.rule ≡ 2) × IsTokenFault text fault.byte

-- a token's bytes are those of the text from its place on
abbrev pub IsSliceOf : List ℕ → Lexeme → Type 0
IsSliceOf text token = token.text ≡ slice_range text token.byte (token.byte + length token.text)

-- each token has a byte at least, and ends before the next one begins or where it does
abbrev pub PlacesRise : List Lexeme → Type 0
PlacesRise [] = Unit {0}
PlacesRise (t ∷ []) = 0 < length t.text
PlacesRise (t ∷ u ∷ ts) = (0 < length t.text) × (t.byte + length t.text ≤ u.byte) × PlacesRise (u ∷ ts)
