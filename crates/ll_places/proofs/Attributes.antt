-- Attributes are refused at one place, by one rule.
use Rattle.std.proofs.Common.{◌≡◌, ℕ, ◌⊎◌, List, [], ◌∷◌, codes, get_or, sym, ap, ◌∙◌, subst, inl, inr, arith}
use Rattle.ll_tokens.specs.Tokens.{Lexeme}
use Rattle.ll_tree.specs.declared.module.Attribute.{Attribute}
use Rattle.ll_tree.specs.declared.name.NameText.{NameText}
use Rattle.ll_parser.specs.declared.refusal.Refusal.{Refusal}
use Rattle.ll_parser.specs.Productions.{◌>>◌, each}
use Rattle.ll_parser.proofs.TokenFacts.{token_leaves_one}
use Rattle.ll_attributes.specs.AttributeParts.{attribute_here}
use Rattle.ll_attributes.specs.AttributeRefusals.{AttributeFails, AttributesFail, BracketsFail, KindFails, in_align, in_bytes, in_type, no_close, no_type}
use Rattle.ll_attributes.proofs.AttributeFacts.{attribute_none, attribute_one}
use Rattle.ll_operands.specs.Parts.{mark_part, ◌then◌, type_part}
use Rattle.ll_operands.proofs.PartFacts.{exact_mark, exact_type, same_word}
use Rattle.ll_places.proofs.Joins.{Once, RefusesOnce, once_then}
use Rattle.ll_places.proofs.Leaves.{bracketed_once, number_once, once_mark}
use Rattle.ll_places.proofs.Types.{once_type}

-- a type in brackets
once_brackets : Once (mark_part 40 then type_part then mark_part 41)
once_brackets = once_then _ _ (exact_mark 40) (once_mark 40) (once_then _ _ exact_type once_type (once_mark 41))

brackets_stop : {tokens : List Lexeme} {refusal : Refusal} → BracketsFail tokens refusal → (mark_part 40 then type_part then mark_part 41).stops tokens refusal
brackets_stop (no_type inside m fails) = inr (inside, m, inl fails)
brackets_stop (no_close names t inside end m d unexpected) = inr (inside, m, inr (end, (names, t, d), unexpected))

-- the first bytes of the words tell what stands behind them
first_of : List ℕ → ℕ
first_of text = get_or text 0 0

typed_first : (text : List ℕ) → (text ≡ codes "byval") ⊎ (text ≡ codes "sret") → (first_of text ≡ 98) ⊎ (first_of text ≡ 115)
unfolding first_of
typed_first text (inl e) = inl (ap first_of e)
typed_first text (inr e) = inr (ap first_of e)

align_first : (text : List ℕ) → text ≡ codes "align" → first_of text ≡ 97
unfolding first_of
align_first text e = ap first_of e

bytes_first : (text : List ℕ) → (text ≡ codes "dereferenceable") ⊎ (text ≡ codes "dereferenceable_or_null") → first_of text ≡ 100
unfolding first_of
bytes_first text (inl e) = ap first_of e
bytes_first text (inr e) = ap first_of e

not_both : (n : ℕ) → (n ≡ 98) ⊎ (n ≡ 115) → (n ≡ 97) ⊎ (n ≡ 100) → ⊥
not_both n (inl e) (inl f) = omega arith
not_both n (inl e) (inr f) = omega arith
not_both n (inr e) (inl f) = omega arith
not_both n (inr e) (inr f) = omega arith

other_number : (n : ℕ) → n ≡ 97 → n ≡ 100 → ⊥
other_number n e f = omega arith

kind_once : {text : List ℕ} {tokens : List Lexeme} {r s : Refusal} → KindFails text tokens r → KindFails text tokens s → r ≡ s
kind_once {text} {tokens} {r} {s} (in_type t d) (in_type u e) = once_brackets.refuses tokens r s (brackets_stop d) (brackets_stop e)
kind_once {text} {tokens} {r} {s} (in_type t d) (in_align u e) = absurd (not_both (first_of text) (typed_first text t) (inl (align_first text u)))
kind_once {text} {tokens} {r} {s} (in_type t d) (in_bytes u e) = absurd (not_both (first_of text) (typed_first text t) (inr (bytes_first text u)))
kind_once {text} {tokens} {r} {s} (in_align t d) (in_type u e) = absurd (not_both (first_of text) (typed_first text u) (inl (align_first text t)))
kind_once {text} {tokens} {r} {s} (in_align t d) (in_align u e) = number_once tokens r s d e
kind_once {text} {tokens} {r} {s} (in_align t d) (in_bytes u e) = absurd (other_number (first_of text) (align_first text t) (bytes_first text u))
kind_once {text} {tokens} {r} {s} (in_bytes t d) (in_type u e) = absurd (not_both (first_of text) (typed_first text u) (inr (bytes_first text t)))
kind_once {text} {tokens} {r} {s} (in_bytes t d) (in_align u e) = absurd (other_number (first_of text) (align_first text u) (bytes_first text t))
kind_once {text} {tokens} {r} {s} (in_bytes t d) (in_bytes u e) = bracketed_once tokens r s d e

attribute_once : RefusesOnce AttributeFails
attribute_once tokens r s d e =
    kind_once d.fails
    (subst (λ ls. KindFails d.text ls s) (token_leaves_one _ _ _ tokens e.behind d.behind e.begins d.begins)
    (subst (λ (t : List ℕ). KindFails t e.behind s) (same_word e.text d.text tokens e.behind d.behind e.begins d.begins) e.fails))

-- what stands behind attributes and is refused is one list
behind_once : (names other : List NameText) (xs ys : List Attribute) (tokens a b : List Lexeme) (r s : Refusal) → each (attribute_here names) xs tokens a → AttributeFails a r → each (attribute_here other) ys tokens b → AttributeFails b s → r ≡ s
unfolding ◌>>◌
behind_once names other [] [] tokens a b r s same f same' f' = attribute_once a r s f (subst (λ ls. AttributeFails ls s) (sym same' ∙ same) f')
behind_once names other [] (y ∷ ys) tokens a b r s same f (m, d, _) f' = absurd (attribute_none a r f other y m (subst (λ ls. attribute_here other y ls m) same d))
behind_once names other (x ∷ xs) [] tokens a b r s (m, d, _) f same f' = absurd (attribute_none b s f' names x m (subst (λ ls. attribute_here names x ls m) same d))
behind_once names other (x ∷ xs) (y ∷ ys) tokens a b r s (m, d, more) f (m', d', more') f' =
    behind_once names other xs ys m a b r s more f (subst (λ ls. each (attribute_here other) ys ls b) (attribute_one other names y x tokens m' m d' d) more') f'

pub attributes_once : RefusesOnce AttributesFail
attributes_once tokens r s d e =
    behind_once d.before.0 e.before.0 d.before.1.0 e.before.1.0 tokens d.middle e.middle r s d.before.1.1 d.fails e.before.1.1 e.fails
