-- Parts of one token are refused at one place, by one rule.
use Rattle.std.proofs.Common.{◌≡◌, ℕ, ◌⊎◌, List, codes, sym, ◌∙◌, subst, inl, inr}
use Rattle.ll_parser.specs.GrammarTypes.{number}
use Rattle.ll_tokens.specs.declared.kinds.TokenKind.{TokenKind}
use Rattle.ll_tokens.specs.Tokens.{Lexeme}
use Rattle.ll_parser.specs.declared.refusal.Refusal.{Refusal}
use Rattle.ll_parser.specs.NameReading.{IsNoName}
use Rattle.ll_parser.specs.Productions.{Production, mark, word}
use Rattle.ll_parser.specs.Spaces.{IsNoBracketed, IsNoNumber, IsNoSpace, IsUnexpected, space_here}
use Rattle.ll_parser.specs.Reading.{DerivesNone}
use Rattle.ll_parser.proofs.PointerFacts.{written_begins, written_leaves_one}
use Rattle.ll_parser.proofs.TokenFacts.{token_leaves_one}
use Rattle.ll_types.proofs.Tokens.{token_end}
use Rattle.ll_attributes.proofs.AttributeFacts.{bracketed_none}
use Rattle.ll_parser.proofs.SpaceFacts.{mark_leaves_one, number_leaves_one, space_none, word_leaves_one}
use Rattle.ll_operands.specs.Parts.{Part, global_part, local_part, mark_part, nothing_part, number_part, ◌then◌, word_part}
use Rattle.ll_operands.proofs.PartFacts.{IsExact}
use Rattle.ll_items.specs.ItemParts.{free, type_name_part}
use Rattle.ll_places.proofs.Joins.{Once, RefusesOnce}

pub unexpected_once : (p : Production) → RefusesOnce (IsUnexpected p)
unexpected_once p tokens r s d e = d.1 ∙ sym e.1

pub number_once : RefusesOnce IsNoNumber
number_once tokens r s d e = d.1 ∙ sym e.1

pub name_once : (kind : TokenKind) → RefusesOnce (IsNoName kind)
name_once kind tokens r s (inl (_, place)) (inl (_, place')) = place ∙ sym place'
name_once kind tokens r s (inl (nowhere, _)) (inr (rest, d, _)) = absurd (nowhere rest d)
name_once kind tokens r s (inr (rest, d, _)) (inl (nowhere, _)) = absurd (nowhere rest d)
name_once kind tokens r s (inr (_, _, place)) (inr (_, _, place')) = place ∙ sym place'

-- a number between `(`, 40, and `)`, 41
abbrev InsideFails : List Lexeme → Refusal → Type 0
InsideFails inside refusal = IsNoNumber inside refusal ⊎ ((value : ℕ) × (behind : List Lexeme) × number value inside behind × IsUnexpected (mark 41) behind refusal)

inside_once : RefusesOnce InsideFails
inside_once tokens r s (inl d) (inl e) = number_once tokens r s d e
inside_once tokens r s (inl d) (inr (v, b, n, _)) = absurd (d.0 v b n)
inside_once tokens r s (inr (v, b, n, _)) (inl e) = absurd (e.0 v b n)
inside_once tokens r s (inr (v, b, n, d)) (inr (v', b', n', e)) =
    unexpected_once (mark 41) b r s d (subst (λ ls. IsUnexpected (mark 41) ls s) (number_leaves_one v' v tokens b' b n' n) e)

pub bracketed_once : RefusesOnce IsNoBracketed
bracketed_once tokens r s (inl d) (inl e) = unexpected_once (mark 40) tokens r s d e
bracketed_once tokens r s (inl d) (inr (m, bracket, _)) = absurd (d.0 m bracket)
bracketed_once tokens r s (inr (m, bracket, _)) (inl e) = absurd (e.0 m bracket)
bracketed_once tokens r s (inr (m, bracket, d)) (inr (m', bracket', e)) =
    inside_once m r s d (subst (λ ls. InsideFails ls s) (mark_leaves_one 40 tokens m' m bracket' bracket) e)

pub space_once : RefusesOnce IsNoSpace
space_once tokens r s (m, w, d) (m', w', e) =
    bracketed_once m r s d (subst (λ ls. IsNoBracketed ls s) (word_leaves_one (codes "addrspace") tokens m' m w' w) e)

pub once_mark : (code : ℕ) → Once (mark_part code)
once_mark code = record { refuses = unexpected_once (mark code) }

pub once_word : (text : List ℕ) → Once (word_part text)
once_word text = record { refuses = unexpected_once (word text) }

pub once_number : Once number_part
once_number = record { refuses = number_once }

pub once_nothing : Once nothing_part
once_nothing = record { refuses = λ tokens r s d e. absurd d }

pub once_local : Once local_part
once_local = record { refuses = λ tokens r s d e. name_once _ tokens r s d.1 e.1 }

pub once_global : Once global_part
once_global = record { refuses = λ tokens r s d e. name_once _ tokens r s d.1 e.1 }

-- behind tokens that are never refused
behind_once : (p : Production) (q : Part) → ((tokens a b : List Lexeme) → p tokens a → p tokens b → a ≡ b) → Once q → RefusesOnce (free p then q).stops
behind_once p q one once tokens r s (inl d) e = absurd d
behind_once p q one once tokens r s (inr d) (inl e) = absurd e
behind_once p q one once tokens r s (inr (m, d, f)) (inr (m', d', f')) = once.refuses m r s f (subst (λ ls. q.stops ls s) (one tokens m' m d' d) f')

pub once_behind : (p : Production) (q : Part) → ((tokens a b : List Lexeme) → p tokens a → p tokens b → a ≡ b) → Once q → Once (free p then q)
once_behind p q one once = record { refuses = behind_once p q one once }

-- the name of a struct type
pub exact_type_name : IsExact type_name_part
exact_type_name = record {
  one = λ tokens a b d e. token_leaves_one _ _ _ tokens a b d.2 e.2;
  none = λ tokens rest refusal s d. s.0 d.0 d.1 rest d.2;
  ends = λ tokens rest d. token_end _ _ tokens rest d.2;
}

pub once_type_name : Once type_name_part
once_type_name = record { refuses = λ tokens r s d e. name_once _ tokens r s d.1 e.1 }

-- an address space
pub space_one : (v w : ℕ) (tokens a b : List Lexeme) → space_here v tokens a → space_here w tokens b → a ≡ b
space_one v w tokens a b (inl d) (inl e) = written_leaves_one v w tokens a b d e
space_one v w tokens a b (inl d) (inr (_, _, nowhere)) = absurd (written_begins v tokens a d nowhere)
space_one v w tokens a b (inr (_, _, nowhere)) (inl e) = absurd (written_begins w tokens b e nowhere)
space_one v w tokens a b (inr (_, same, _)) (inr (_, same', _)) = sym same ∙ same'

pub space_refused : (tokens : List Lexeme) (refusal : Refusal) → IsNoSpace tokens refusal → DerivesNone space_here tokens
space_refused tokens refusal (b, w, none) = space_none tokens b w (bracketed_none b refusal none)
