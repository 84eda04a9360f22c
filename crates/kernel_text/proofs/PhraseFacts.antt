-- Phrases: what they leave, and which of them can't begin the same tokens.
use Rattle.std.proofs.Common.{◌≡◌, ◌&&◌, Bool, true, false, true≢false, nat_eq, if◌then◌else◌, List, [], ◌∷◌, refl, sym, ap, ◌∙◌}
use Rattle.std.specs.Cmp.Lexicographic.{pointwise, bytes_decides}
use Rattle.ll_tokens.specs.Tokens.{Lexeme}
use Rattle.ll_parser.proofs.TokenFacts.{same_first}
use Rattle.kernel_text.specs.declared.phrases.Phrase.{Phrase}
use Rattle.kernel_text.specs.Phrases.{Wanted, wanted_token, exactly, pieces_of, words_of}
use Rattle.kernel_text.proofs.Sequences.{LeavesOne, Apart, nothing_one, seq_one, seq_apart_first, seq_apart_second, token_one, kind_number, same_kind, same_number}

pub exactly_one : (ws : List Wanted) → LeavesOne (exactly ws) (exactly ws)
exactly_one [] = nothing_one
exactly_one (w ∷ ws) = seq_one (wanted_token w) (wanted_token w) (exactly ws) (exactly ws) (token_one _ _ _ _) (exactly_one ws)

pub words_one : (p : Phrase) → LeavesOne (words_of p) (words_of p)
words_one p = exactly_one (pieces_of p)

unfoldable pub is_same_wanted : Wanted → Wanted → Bool
is_same_wanted w v = same_kind w.0 v.0 && pointwise nat_eq w.1 v.1

-- whether two phrases have different tokens at one place
unfoldable pub differ : List Wanted → List Wanted → Bool
differ (w ∷ ws) (v ∷ vs) = if is_same_wanted w v then differ ws vs else true
differ _ _ = false

both : (a b : Bool) → a ≡ true → b ≡ true → (a && b) ≡ true
both true true e d = refl
both true false e d = d
both false b e d = e

wanted_apart : (w v : Wanted) → is_same_wanted w v ≡ false → Apart (wanted_token w) (wanted_token v)
unfolding is_same_wanted
wanted_apart w v other tokens a b (l, is, k, t) (m, is', k', t') =
    let same : l ≡ m = same_first l m a b (sym is ∙ is') in
    let kinds : w.0 ≡ v.0 = sym k ∙ ap (λ (x : Lexeme). x.kind) same ∙ k' in
    let texts : w.1 ≡ v.1 = sym t ∙ ap (λ (x : Lexeme). x.text) same ∙ t' in
    true≢false (sym (both _ _ (same_number _ _ (ap kind_number kinds)) ((bytes_decides w.1 v.1).1 texts)) ∙ other)

pub exactly_apart : (ws vs : List Wanted) → differ ws vs ≡ true → Apart (exactly ws) (exactly vs)
unfolding differ
exactly_apart [] [] e = absurd (true≢false (sym e))
exactly_apart [] (v ∷ vs) e = absurd (true≢false (sym e))
exactly_apart (w ∷ ws) [] e = absurd (true≢false (sym e))
exactly_apart (w ∷ ws) (v ∷ vs) e = by (is_same_wanted w v) refl e (exactly_apart ws vs)
  where
    by : (b : Bool) → is_same_wanted w v ≡ b → (if b then differ ws vs else true) ≡ true → (differ ws vs ≡ true → Apart (exactly ws) (exactly vs)) → Apart (exactly (w ∷ ws)) (exactly (v ∷ vs))
    by true s d more = seq_apart_second (wanted_token w) (wanted_token v) (exactly ws) (exactly vs) (token_one _ _ _ _) (more d)
    by false s d more = seq_apart_first (wanted_token w) (wanted_token v) (exactly ws) (exactly vs) (wanted_apart w v s)

pub words_apart : (p q : Phrase) → differ (pieces_of p) (pieces_of q) ≡ true → Apart (words_of p) (words_of q)
words_apart p q e = exactly_apart (pieces_of p) (pieces_of q) e
