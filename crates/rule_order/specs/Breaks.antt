-- Which broken rule of an input is told.
use Rattle.std.specs.Prelude.{◌≡◌, ℕ, ◌==◌, nat_lt, min, Bool, ◌&&◌, ◌||◌, if◌then◌else◌, List, [], ◌∷◌, map, Option, Some, None, All, Any, Contains, false}
use Rattle.std.specs.Option.{option_or}
use Rattle.rule_order.specs.declared.breaks.Break.{Break}
use Rattle.rule_order.specs.declared.breaks.FirstPlace.{FirstPlace}

-- whether a break is told rather than another one: it is at a lesser place, or at the same one and of a lesser rule
abbrev pub is_before : Break → Break → Bool
is_before a b = nat_lt a.place b.place || (a.place == b.place && nat_lt a.rule b.rule)

-- the one of two breaks that is told, where both are there
abbrev pub earlier : Option Break → Option Break → Option Break
earlier None second = second
earlier (Some first) None = Some first
earlier (Some first) (Some second) = if is_before second first then Some second else Some first

-- a rule at its first place
abbrev pub break_at : ℕ → Option ℕ → Option Break
break_at rule None = None
break_at rule (Some place) = Some (record { rule = rule; place = place })

abbrev pub break_of : FirstPlace → Option Break
break_of first = break_at first.rule first.place

-- the break that is told, of rules with their first places
abbrev pub first_of : List FirstPlace → Option Break
first_of [] = None
first_of (rule ∷ rules) = earlier (break_of rule) (first_of rules)

-- a rule with all the places where it is broken
pub record RulePlaces : Type 0 where
  pub rule : ℕ
  pub places : List ℕ

-- the least of some places
abbrev pub least_with : ℕ → Option ℕ → ℕ
least_with place None = place
least_with place (Some other) = min place other

abbrev pub least : List ℕ → Option ℕ
least [] = None
least (place ∷ places) = Some (least_with place (least places))

-- a rule with the least of its places
abbrev pub first_place : RulePlaces → FirstPlace
first_place rule = record { rule = rule.rule; place = least rule.places }

-- the break that is told of rules that are broken at these places
abbrev pub first_refusal : List RulePlaces → Option Break
first_refusal rules = first_of (map first_place rules)

-- a rule is broken at one of its places, and no rule is broken before that
pub record IsFirst (rules : List RulePlaces) (told : Break) : Type 0 where
  pub broken : Any (λ r. (r.rule ≡ told.rule) × Contains r.places told.place) rules
  pub first : All (λ r. All (λ place. is_before (record { rule = r.rule; place = place }) told ≡ false) r.places) rules

-- the break that is told of groups of rules: that of the first group in which a rule is broken
abbrev pub first_in_groups : List (List RulePlaces) → Option Break
first_in_groups [] = None
first_in_groups (group ∷ groups) = option_or (first_refusal group) (first_in_groups groups)
