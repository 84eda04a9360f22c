-- Address spaces and the pointers of a type as they are read: as many tokens as belong to them (LLVM 14,
-- Pointer Type).
use Rattle.std.specs.Prelude.{◌≡◌, ℕ, ◌⊎◌, List, codes, length}
use Rattle.ll_tokens.specs.Tokens.{Lexeme}
use Rattle.ll_parser.specs.declared.refusal.Refusal.{Refusal}
use Rattle.ll_parser.specs.GrammarTypes.{number, written_space}
use Rattle.ll_parser.specs.Productions.{Production, ◌>>◌, word, mark}
use Rattle.ll_parser.specs.Reading.{EndsNowhere, DerivesNone, number_rule}

-- a number between `(`, 40, and `)`, 41
abbrev pub bracketed_number : ℕ → Production
bracketed_number value = mark 40 >> number value >> mark 41

-- no address space begins the tokens
abbrev pub NoSpace : List Lexeme → Type 0
NoSpace tokens = EndsNowhere (word (codes "addrspace")) tokens

-- an address space where one begins, else 0
abbrev pub space_here : ℕ → Production
space_here value tokens rest = written_space value tokens rest ⊎ ((value ≡ 0) × (tokens ≡ rest) × NoSpace tokens)

-- the production ends nowhere, and rule 3 is broken at the first token
abbrev pub IsUnexpected : Production → List Lexeme → Refusal → Type 0
IsUnexpected production tokens refusal = EndsNowhere production tokens × (refusal ≡ record { rule = 3; left = length tokens })

-- no number in its range begins the tokens, and the first one breaks this rule
abbrev pub IsNoNumber : List Lexeme → Refusal → Type 0
IsNoNumber tokens refusal = DerivesNone number tokens × (refusal ≡ record { rule = number_rule tokens; left = length tokens })

-- the first of `(`, the number and `)` that isn't where it is to stand is refused
abbrev pub IsNoBracketed : List Lexeme → Refusal → Type 0
IsNoBracketed tokens refusal =
    IsUnexpected (mark 40) tokens refusal
    ⊎ ((inside : List Lexeme) × mark 40 tokens inside × (
    IsNoNumber inside refusal
    ⊎ ((value : ℕ) × (behind : List Lexeme) × number value inside behind × IsUnexpected (mark 41) behind refusal)))

-- the same behind `addrspace`
abbrev pub IsNoSpace : List Lexeme → Refusal → Type 0
IsNoSpace tokens refusal = (behind : List Lexeme) × word (codes "addrspace") tokens behind × IsNoBracketed behind refusal
