-- Further parts keep what they eat, and are refused up to the place alone, where what they consist of does.
use Rattle.std.proofs.Common.{ℕ, ◌⊎◌, List, refl, inl, inr}
use Rattle.ll_tokens.specs.Tokens.{Lexeme}
use Rattle.ll_parser.specs.declared.refusal.Refusal.{Refusal}
use Rattle.ll_parser.specs.Productions.{Production}
use Rattle.ll_parser.specs.Reading.{EndsNowhere}
use Rattle.ll_operands.specs.Parts.{Begins, Part, times}
use Rattle.ll_front_parts.proofs.Fronts.{IsLocal, Keeps, Sees, Settles, Sight, one, sees_nowhere, settled_as, settled_behind, settled_beside, settled_first, unexpected_settles}
use Rattle.ll_front_parts.proofs.Joins.{Then, keeps_any, keeps_as, keeps_then, keeps_times, keeps_where}
use Rattle.ll_items.specs.ItemParts.{free, sole}
use Rattle.ll_bodies.specs.BodyJoins.{no_part, unless_begins, until}

pub local_none : (sight : Sight) → IsLocal sight no_part
local_none sight = record {
  keeps = record { keeps = λ tokens rest d. absurd d };
  settles =
      λ tokens refusal d less. settled_as (λ ts r s. s.1) (settled_first (λ ts. Unit {0}) (λ ts. 3) (λ a b same d. tt) (λ l a b. refl) tokens refusal (tt, d) less);
}

pub local_free : (p : Production) → Keeps one p → IsLocal one (free p)
local_free p k = record { keeps = k; settles = λ tokens refusal d less. absurd d }

pub local_sole : (p : Production) → Sees one (Begins p) → Keeps one p → IsLocal one (sole p)
local_sole p sees k = record { keeps = k; settles = unexpected_settles p sees }

-- a part until something else begins, and then that
module _ (opening : Production) (p q : Part) (sees : Sees one (Begins opening)) (first : IsLocal one p) (second : IsLocal one q) where
  keeps_items : (count : ℕ) → Keeps one (times count (unless_begins opening p.begins))
  keeps_items count =
      keeps_times one (unless_begins opening p.begins) (keeps_where one (EndsNowhere opening) p.begins (sees_nowhere one opening sees) first.keeps) count

  abbrev Fails : List Lexeme → Refusal → Type 0
  Fails middle r = (EndsNowhere opening middle × p.stops middle r) ⊎ (Begins opening middle × q.stops middle r)

  fails_settles : Settles Fails
  fails_settles tokens refusal (inl (nowhere, d)) less =
      settled_as (λ ts r s. inl s) (settled_beside (EndsNowhere opening) (sees_nowhere one opening sees) nowhere (first.settles tokens refusal d less))
  fails_settles tokens refusal (inr (o, d)) less = settled_as (λ ts r s. inr s) (settled_beside (Begins opening) sees o (second.settles tokens refusal d less))

  pub local_until : IsLocal one (until opening p q)
  local_until = record {
    keeps = keeps_as one (λ ts rest d. (d.0, d.1.0, d.1.1, d.1.2.0, d.1.2.1)) (λ ts rest d. (d.0, (d.1, d.2, (d.3, d.4))))
        (keeps_any one (λ count. Then (times count (unless_begins opening p.begins)) (λ middle rest. Begins opening middle × q.begins middle rest))
        (λ count. keeps_then one (times count (unless_begins opening p.begins)) (λ middle rest. Begins opening middle × q.begins middle rest) (keeps_items count)
        (keeps_where one (Begins opening) q.begins sees second.keeps)));
    settles = λ tokens refusal d less. settled_as (λ ts r s. (d.0, s.0, s.1, s.2)) (settled_behind (keeps_items d.0) d.2 (fails_settles d.1 refusal d.3 less));
  }
