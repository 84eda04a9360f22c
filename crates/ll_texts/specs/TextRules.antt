-- The rules that a text breaks which has no module, each with its places: 2 where no token begins, 3 where a token can't stand or 4
-- where a number is out of its range, whichever comes first, and 5 where a bracket is nested too deep.
use Rattle.std.specs.Prelude.{◌≡◌, ℕ, zero, suc, ◌-◌, Bool, true, false, if◌then◌else◌, List, [], ◌∷◌, length, drop, Option, None, Some}
use Rattle.ports.specs.declared.faults.LlFault.{LlFault}
use Rattle.rule_order.specs.Breaks.{RulePlaces}
use Rattle.ll_tokens.specs.Tokens.{IsTokenized, IsTokens, Lexeme}
use Rattle.ll_tree.specs.declared.module.LlModule.{LlModule}
use Rattle.ll_parser.specs.declared.refusal.Refusal.{Refusal}
use Rattle.ll_parser.specs.GrammarItems.{IsModule}
use Rattle.ll_types.specs.Nesting.{nesting_refusal}
use Rattle.ll_modules.specs.Modules.{items_part}

-- the place of the first token, or that of the end
abbrev pub first_place : ℕ → List Lexeme → ℕ
first_place end [] = end
first_place end (first ∷ rest) = first.byte

-- the place of the token from which on so many are left
abbrev pub place_of : ℕ → List Lexeme → ℕ → ℕ
place_of end tokens left = first_place end (drop (length tokens - left) tokens)

-- whether a refusal of tokens is one of the text: one at their end is none where they end only since no token begins there
abbrev pub is_of_text : Option LlFault → ℕ → Bool
is_of_text None left = true
is_of_text (Some fault) zero = false
is_of_text (Some fault) (suc left) = true

abbrev pub stuck_places : Option LlFault → List ℕ
stuck_places None = []
stuck_places (Some fault) = fault.byte ∷ []

abbrev pub refused_places : ℕ → List Lexeme → Option LlFault → Option Refusal → List ℕ
refused_places end tokens stuck None = []
refused_places end tokens stuck (Some refusal) = if is_of_text stuck refusal.left then place_of end tokens refusal.left ∷ [] else []

-- the rule by which tokens are refused, which is 3 or 4
abbrev pub refused_rule : Option Refusal → ℕ
refused_rule None = 3
refused_rule (Some refusal) = refusal.rule

-- the rules of a text of so many bytes, with these tokens up to where it is stuck, which the grammar refuses so and the nesting so
abbrev pub text_rules : ℕ → List Lexeme → Option LlFault → Option Refusal → Option Refusal → List RulePlaces
text_rules end tokens stuck refused nested =
    record { rule = 2; places = stuck_places stuck }
    ∷ record { rule = refused_rule refused; places = refused_places end tokens stuck refused }
    ∷ record { rule = 5; places = refused_places end tokens None nested }
    ∷ []

-- the tokens are those of a module, or are refused at one of them
abbrev pub IsReading : List Lexeme → Option Refusal → Type 0
IsReading tokens None = (m : LlModule) × IsModule tokens m
IsReading tokens (Some refusal) = items_part.stops tokens refusal

-- the rules that a text may break, with the places where it does
pub record HasTextRules (text : List ℕ) (rules : List RulePlaces) : Type 0 where
  pub tokens : List Lexeme
  pub stuck : Option LlFault
  pub refused : Option Refusal
  pub tokenized : IsTokenized text tokens stuck
  pub reading : IsReading tokens refused
  pub are : rules ≡ text_rules (length text) tokens stuck refused (nesting_refusal tokens)

-- the text is that of a module (LLVM 14, Module Structure)
pub record IsModuleText (text : List ℕ) (m : LlModule) : Type 0 where
  pub tokens : List Lexeme
  pub are_tokens : IsTokens text tokens
  pub reads : IsModule tokens m
  pub shallow : nesting_refusal tokens ≡ None
