-- How deep brackets are nested. A `<` whose next token is `{` isn't counted, and between the braces of an attribute group
-- brackets are tokens as any other.
use Rattle.std.specs.Prelude.{ℕ, ◌+◌, Bool, true, false, not, ◌==◌, ◌||◌, if◌then◌else◌, nat_lt, bytes_eq, List, [], ◌∷◌, ◌++◌, length, Option, None, Some, codes}
use Rattle.ll_tokens.specs.declared.kinds.TokenKind.{TokenKind}
use Rattle.ll_tokens.specs.declared.kinds.TokenKind.TheVariants.{Punct, Word}
use Rattle.ll_tokens.specs.Tokens.{Lexeme}
use Rattle.ll_parser.specs.declared.refusal.Refusal.{Refusal}
use Rattle.ll_types.specs.declared.nesting.Bracket.{Bracket}
use Rattle.ll_types.specs.declared.nesting.Bracket.TheVariants.{Counted, Uncounted, Closing, Plain}

abbrev pub first_byte : List ℕ → ℕ
first_byte [] = 0
first_byte (byte ∷ bytes) = byte

-- the byte of a punctuation mark, and 0 for every other token
abbrev pub mark_code : TokenKind → List ℕ → ℕ
mark_code Punct text = first_byte text
mark_code _ text = 0

abbrev pub first_mark : List Lexeme → ℕ
first_mark [] = 0
first_mark (first ∷ behind) = mark_code first.kind first.text

-- whether a word begins an attribute group, in which nothing nests until its `}`
abbrev pub begins_group : TokenKind → List ℕ → Bool
begins_group Word text = bytes_eq text (codes "attributes")
begins_group _ text = false

-- what a mark is as a bracket, with the mark behind it: 40, 41 are `(`, `)`, 91, 93 `[`, `]`, 123, 125 `{`, `}` and 60,
-- 62 `<`, `>`
abbrev pub bracket_of : ℕ → ℕ → Bracket
bracket_of code next =
    if (code == 40) || ((code == 91) || (code == 123)) then Counted
    else (if code == 60 then (if next == 123 then Uncounted else Counted)
    else (if (code == 41) || ((code == 93) || ((code == 125) || (code == 62))) then Closing else Plain))

-- the same of the first token, which is none inside an attribute group
abbrev pub bracket_at : Bool → List Lexeme → Bracket
bracket_at true tokens = Plain
bracket_at false [] = Plain
bracket_at false (first ∷ behind) = bracket_of (mark_code first.kind first.text) (first_mark behind)

-- whether an attribute group goes on behind the first token
abbrev pub group_behind : Bool → List Lexeme → Bool
group_behind in_group [] = in_group
group_behind true (first ∷ behind) = not (mark_code first.kind first.text == 125)
group_behind false (first ∷ behind) = begins_group first.kind first.text

abbrev pub without_last : List Bool → List Bool
without_last [] = []
without_last (x ∷ []) = []
without_last (x ∷ y ∷ ys) = x ∷ without_last (y ∷ ys)

-- the brackets that are open behind one, from the outside in: whether each is counted
abbrev pub open_behind : List Bool → Bracket → List Bool
open_behind brackets Counted = brackets ++ true ∷ []
open_behind brackets Uncounted = brackets ++ false ∷ []
open_behind brackets Closing = without_last brackets
open_behind brackets Plain = brackets

-- how many of them are counted
abbrev pub depth_of : List Bool → ℕ
depth_of [] = 0
depth_of (true ∷ brackets) = depth_of brackets + 1
depth_of (false ∷ brackets) = depth_of brackets

-- whether a bracket opens at this depth that is nested deeper than 100
abbrev pub is_too_deep : Bracket → ℕ → Bool
is_too_deep Counted depth = nat_lt 99 depth
is_too_deep _ depth = false

-- how many tokens are left from the first bracket on that is nested too deep
abbrev pub first_too_deep : Bool → List Bool → List Lexeme → Option ℕ
first_too_deep in_group brackets [] = None
first_too_deep in_group brackets (token ∷ tokens) =
    if is_too_deep (bracket_at in_group (token ∷ tokens)) (depth_of brackets) then Some (length (token ∷ tokens))
    else first_too_deep (group_behind in_group (token ∷ tokens)) (open_behind brackets (bracket_at in_group (token ∷ tokens))) tokens

abbrev pub refusal_at : Option ℕ → Option Refusal
refusal_at None = None
refusal_at (Some left) = Some (record { rule = 5; left = left })

-- rule 5 is broken at the first bracket that is nested deeper than 100
unfoldable pub nesting_refusal : List Lexeme → Option Refusal
nesting_refusal tokens = refusal_at (first_too_deep false [] tokens)
