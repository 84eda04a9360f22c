-- What refusals of modules depend on: the tokens up to the one at the place, and nothing behind it.
use Rattle.std.specs.Prelude.{◌≡◌, ℕ, ◌-◌, ◌≤◌, List, length, take}
use Rattle.ll_tokens.specs.Tokens.{IsTokens, Lexeme}
use Rattle.ll_tree.specs.declared.module.LlModule.{LlModule}
use Rattle.ll_parser.specs.declared.refusal.Refusal.{Refusal}
use Rattle.ll_parser.specs.GrammarItems.{IsModule}
use Rattle.ll_front_parts.specs.Laws.{OfOthers, Stays}
use Rattle.ll_modules.specs.Modules.{items_part}
use Rattle.ll_texts.specs.TextRules.{IsModuleText}

-- with the same tokens up to the place no module begins, whatever stands behind
abbrev pub RefusalsDependOnNothingBehind : Type 0
RefusalsDependOnNothingBehind = OfOthers items_part (λ tokens other refusal. (m : LlModule) → IsModule other m → ⊥)

-- nor does the text of one
abbrev pub TextsDependOnNothingBehind : Type 0
TextsDependOnNothingBehind = OfOthers items_part (λ tokens other refusal. (text : List ℕ) (m : LlModule) → IsTokens text other → IsModuleText text m → ⊥)

-- others are refused at the same token, by the same rule
abbrev pub RefusalsStay : Type 0
RefusalsStay = Stays items_part

-- a shorter list, which ends before the place, is refused at its end, if it is refused
abbrev pub ShorterListsGoOn : Type 0
ShorterListsGoOn =
    (tokens : List Lexeme) (refusal other : Refusal) (n : ℕ) → items_part.stops tokens refusal → n ≤ length tokens - refusal.left → items_part.stops (take n tokens) other → other.left ≡ 0
