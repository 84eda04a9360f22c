-- Tokens one behind another: which begin a list, and what they leave.
use Rattle.std.proofs.Common.{◌≡◌, ℕ, suc, ◌<◌, ◌≤◌, List, [], ◌∷◌, length, sym, ap, ◌∙◌, inl, inr, arith}
use Rattle.ll_tokens.specs.declared.kinds.TokenKind.{TokenKind}
use Rattle.ll_tokens.specs.Tokens.{Lexeme}
use Rattle.ll_parser.specs.GrammarTypes.{written_space, pointer}
use Rattle.ll_parser.specs.Pointers.{NoPointer}
use Rattle.ll_parser.specs.Productions.{Production, ◌>>◌, token, mark, each}
use Rattle.ll_parser.proofs.EndFacts.{Ends, token_ends, ends_then, ends_same, ends_length}
use Rattle.ll_parser.proofs.PointerFacts.{word_no_mark}
use Rattle.ll_parser.proofs.TokenFacts.{same_first}

-- tokens of two kinds aren't one
pub kinds_apart : (k k' : TokenKind) (test test' : Lexeme → Type 0) (tokens a b : List Lexeme) → (k ≡ k' → ⊥) → token k test tokens a → token k' test' tokens b → ⊥
kinds_apart k k' test test' tokens a b differ (l, is, kind_l, _) (m, is', kind_m, _) =
    differ (sym kind_l ∙ ap (λ (t : Lexeme). t.kind) (same_first l m _ _ (sym is ∙ is')) ∙ kind_m)

-- nor are two marks
pub marks_apart : (c d : ℕ) (tokens a b : List Lexeme) → (c ≡ d → ⊥) → mark c tokens a → mark d tokens b → ⊥
marks_apart c d tokens a b differ (l, is, _, text_l) (m, is', _, text_m) =
    differ (same_first c d [] [] (sym text_l ∙ ap (λ (t : Lexeme). t.text) (same_first l m _ _ (sym is ∙ is')) ∙ text_m))

-- before a mark that is no `*`, 42, there is no pointer
pub mark_no_pointer : (c : ℕ) (tokens a : List Lexeme) → (c ≡ 42 → ⊥) → mark c tokens a → NoPointer tokens
mark_no_pointer c tokens a differ m = record {
  no_space = λ b w. word_no_mark _ c tokens b a w m;
  no_star = λ b star. marks_apart c 42 tokens a b differ m star;
}

-- what is left is an end of the tokens, and shorter
pub record Shorter (tokens rest : List Lexeme) : Type 0 where
  pub ends : Ends tokens rest
  pub less : length rest < length tokens

abbrev pub EndsBy : Production → Type 0
EndsBy p = (tokens rest : List Lexeme) → p tokens rest → Ends tokens rest

abbrev pub Shortens : Production → Type 0
Shortens p = (tokens rest : List Lexeme) → p tokens rest → Shorter tokens rest

pub token_shortens : (kind : TokenKind) (test : Lexeme → Type 0) → Shortens (token kind test)
token_shortens kind test tokens rest (l, is, k, t) =
    let e : length tokens ≡ suc (length rest) = ap length is in
    record { ends = token_ends kind test tokens rest (l, is, k, t); less = omega arith }

pub token_end : (kind : TokenKind) (test : Lexeme → Type 0) → EndsBy (token kind test)
token_end kind test = token_ends kind test

pub seq_ends : (p q : Production) → EndsBy p → EndsBy q → EndsBy (p >> q)
unfolding ◌>>◌
seq_ends p q first second tokens rest (m, d, e) = ends_then tokens m rest (first tokens m d) (second m rest e)

pub shortens_ends : (p : Production) → Shortens p → EndsBy p
shortens_ends p shortens tokens rest d = (shortens tokens rest d).ends

pub seq_shortens : (p q : Production) → Shortens p → EndsBy q → Shortens (p >> q)
unfolding ◌>>◌
seq_shortens p q first second tokens rest (m, d, e) =
    let less : length m < length tokens = (first tokens m d).less in
    let no_longer : length rest ≤ length m = ends_length m rest (second m rest e) in
    record { ends = ends_then tokens m rest (first tokens m d).ends (second m rest e); less = omega arith }

written_end : (v : ℕ) → EndsBy (written_space v)
written_end v = seq_ends _ _ (token_end _ _) (seq_ends _ _ (token_end _ _) (seq_ends _ _ (token_end _ _) (token_end _ _)))

pub pointer_end : (v : ℕ) → EndsBy (pointer v)
unfolding ◌>>◌
pointer_end v tokens rest (a, inl written, star) = ends_then tokens a rest (written_end v tokens a written) (token_ends _ _ a rest star)
pointer_end v tokens rest (a, inr (_, same), star) = ends_then tokens a rest (ends_same tokens a same) (token_ends _ _ a rest star)

pub pointers_end : (spaces : List ℕ) → EndsBy (each pointer spaces)
pointers_end [] = ends_same
pointers_end (v ∷ spaces) = seq_ends _ _ (pointer_end v) (pointers_end spaces)
