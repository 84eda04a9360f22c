-- What refusals depend on: the tokens up to the one at the place, and nothing behind it.
use Rattle.std.specs.Prelude.{◌≡◌, ◌+◌, ◌-◌, ◌<◌, List, length, take}
use Rattle.ll_tokens.specs.Tokens.{Lexeme}
use Rattle.ll_parser.specs.declared.refusal.Refusal.{Refusal}
use Rattle.ll_operands.specs.Parts.{Part, type_part, typed_part}

-- others begin with the same tokens, up to the one at the place of the refusal and with it
abbrev pub IsSameUpTo : Refusal → List Lexeme → List Lexeme → Type 0
IsSameUpTo refusal tokens other = take (length tokens - refusal.left + 1) other ≡ take (length tokens - refusal.left + 1) tokens

-- what is said of other tokens that are the same up to a refusal of a part, which isn't at the end
abbrev pub OfOthers : Part → (List Lexeme → List Lexeme → Refusal → Type 0) → Type 0
OfOthers part holds = (tokens other : List Lexeme) (refusal : Refusal) → part.stops tokens refusal → 0 < refusal.left → IsSameUpTo refusal tokens other → holds tokens other refusal

-- they are refused at the same token, by the same rule
abbrev pub Stays : Part → Type 0
Stays part = OfOthers part (λ tokens other refusal. part.stops other (record { rule = refusal.rule; left = length other - (length tokens - refusal.left) }))

abbrev pub TypesStay : Type 0
TypesStay = Stays type_part

abbrev pub OperandsStay : Type 0
OperandsStay = Stays typed_part
