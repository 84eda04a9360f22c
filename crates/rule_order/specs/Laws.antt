-- What is told is what comes first.
use Rattle.std.specs.Prelude.{◌≡◌, ℕ, ◌≤◌, List, [], All, Contains, MatchOption}
use Rattle.rule_order.specs.Breaks.{RulePlaces, first_refusal, IsFirst, least}

-- a break is told where a rule is broken anywhere, and no other one comes before it
abbrev pub FirstBreakIsFirst : Type 0
FirstBreakIsFirst =
    (rules : List RulePlaces) → MatchOption (first_refusal rules) (All (λ r. r.places ≡ []) rules) (IsFirst rules)

-- the least place is one of them, and no greater than any
abbrev pub LeastIsLeast : Type 0
LeastIsLeast = (places : List ℕ) → MatchOption (least places) (places ≡ []) (λ place. Contains places place × All (λ other. place ≤ other) places)
