-- Parts that go on until something else begins leave one list of tokens, and those that are refused begin with none.
use Rattle.std.proofs.Common.{◌≡◌, ℕ, zero, suc, List, sym, ◌∙◌, subst, inl, inr}
use Rattle.ll_tokens.specs.Tokens.{Lexeme}
use Rattle.ll_parser.specs.declared.refusal.Refusal.{Refusal}
use Rattle.ll_parser.specs.Productions.{Production, ◌>>◌}
use Rattle.ll_parser.specs.Reading.{EndsNowhere}
use Rattle.ll_parser.proofs.EndFacts.{ends_same, ends_then}
use Rattle.ll_types.proofs.Tokens.{EndsBy, seq_ends}
use Rattle.ll_operands.specs.Parts.{Begins, Part, times}
use Rattle.ll_operands.proofs.PartFacts.{IsExact}
use Rattle.ll_bodies.specs.BodyJoins.{no_part, unless_begins, until}

pub exact_none : IsExact no_part
exact_none = record { one = λ tokens a b d e. absurd d; none = λ tokens rest refusal s d. d; ends = λ tokens rest d. absurd d }

module _ (opening : Production) (p q : Part) (first : IsExact p) (second : IsExact q) where
  abbrev Items : ℕ → List Lexeme → List Lexeme → Type 0
  Items count = times count (unless_begins opening p.begins)

  -- so many parts before the opening are one list
  middle_one : (count other : ℕ) (tokens a b : List Lexeme) → Items count tokens a → Begins opening a → Items other tokens b → Begins opening b → a ≡ b
  unfolding ◌>>◌
  middle_one zero zero tokens a b same o same' o' = sym same ∙ same'
  middle_one zero (suc other) tokens a b same o (m, (nowhere, d), more) o' = absurd (subst (EndsNowhere opening) same nowhere o.0 o.1)
  middle_one (suc count) zero tokens a b (m, (nowhere, d), more) o same o' = absurd (subst (EndsNowhere opening) same nowhere o'.0 o'.1)
  middle_one (suc count) (suc other) tokens a b (m, (nowhere, d), more) o (m', (nowhere', d'), more') o' =
      middle_one count other m a b more o (subst (λ ls. Items other ls b) (first.one tokens m' m d' d) more') o'

  -- where a part is refused, no list of them goes on
  middle_none : (count other : ℕ) (tokens middle a : List Lexeme) (refusal : Refusal) → Items count tokens middle → EndsNowhere opening middle → p.stops middle refusal → Items other tokens a → Begins opening a → ⊥
  unfolding ◌>>◌
  middle_none zero zero tokens middle a refusal same none s same' o = subst (EndsNowhere opening) (sym same ∙ same') none o.0 o.1
  middle_none zero (suc other) tokens middle a refusal same none s (m, (nowhere, d), more) o = first.none middle m refusal s (subst (λ ls. p.begins ls m) same d)
  middle_none (suc count) zero tokens middle a refusal (m, (nowhere, d), more) none s same o = subst (EndsNowhere opening) same nowhere o.0 o.1
  middle_none (suc count) (suc other) tokens middle a refusal (m, (nowhere, d), more) none s (m', (nowhere', d'), more') o =
      middle_none count other m middle a refusal more none s (subst (λ ls. Items other ls a) (first.one tokens m' m d' d) more') o

  until_one : (tokens a b : List Lexeme) → (until opening p q).begins tokens a → (until opening p q).begins tokens b → a ≡ b
  until_one tokens a b (count, m, d, o, x) (other, m', d', o', x') =
      second.one m a b x (subst (λ ls. q.begins ls b) (middle_one other count tokens m' m d' o' d o) x')

  until_none : (tokens rest : List Lexeme) (refusal : Refusal) → (until opening p q).stops tokens refusal → (until opening p q).begins tokens rest → ⊥
  until_none tokens rest refusal (count, m, d, inl (nowhere, s)) (other, m', d', o', x') = middle_none count other tokens m m' refusal d nowhere s d' o'
  until_none tokens rest refusal (count, m, d, inr (o, s)) (other, m', d', o', x') =
      second.none m rest refusal s (subst (λ ls. q.begins ls rest) (middle_one other count tokens m' m d' o' d o) x')

  items_end : (count : ℕ) → EndsBy (Items count)
  items_end zero = ends_same
  items_end (suc count) = seq_ends (unless_begins opening p.begins) (Items count) (λ tokens rest d. first.ends tokens rest d.1) (items_end count)

  until_ends : EndsBy (until opening p q).begins
  until_ends tokens rest (count, m, d, o, x) = ends_then tokens m rest (items_end count tokens m d) (second.ends m rest x)

  pub exact_until : IsExact (until opening p q)
  exact_until = record { one = until_one; none = until_none; ends = until_ends }
