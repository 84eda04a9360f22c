-- What is left of tokens is an end of them.
use Rattle.std.proofs.Common.{◌≡◌, suc, ◌<◌, ◌≤◌, List, [], ◌∷◌, length, ap, arith}
use Rattle.ll_tokens.specs.declared.kinds.TokenKind.{TokenKind}
use Rattle.ll_tokens.specs.Tokens.{Lexeme}
use Rattle.ll_parser.specs.Productions.{Production, ◌>>◌, token}
use Rattle.ll_parser.proofs.EndFacts.{Ends, token_ends, ends_then, ends_same, ends_length}
use Rattle.kernel_text.specs.declared.phrases.Phrase.{Phrase}
use Rattle.kernel_text.specs.Phrases.{Wanted, exactly, pieces_of, words_of}

-- what an item leaves is an end of the tokens, and shorter
pub record Shorter (tokens rest : List Lexeme) : Type 0 where
  pub ends : Ends tokens rest
  pub less : length rest < length tokens

abbrev pub EndsBy : Production → Type 0
EndsBy p = (tokens rest : List Lexeme) → p tokens rest → Ends tokens rest

abbrev pub Shortens : Production → Type 0
Shortens p = (tokens rest : List Lexeme) → p tokens rest → Shorter tokens rest

pub token_shortens : (kind : TokenKind) (test : Lexeme → Type 0) → Shortens (token kind test)
token_shortens kind test tokens rest (l, is, k, t) =
    let e : length tokens ≡ suc (length rest) = ap length is in
    record { ends = token_ends kind test tokens rest (l, is, k, t); less = omega arith }

pub shortens_ends : (p : Production) → Shortens p → EndsBy p
shortens_ends p shortens tokens rest d = (shortens tokens rest d).ends

pub seq_ends : (p q : Production) → EndsBy p → EndsBy q → EndsBy (p >> q)
unfolding ◌>>◌
seq_ends p q first second tokens rest (m, d, e) = ends_then tokens m rest (first tokens m d) (second m rest e)

pub seq_shortens : (p q : Production) → Shortens p → EndsBy q → Shortens (p >> q)
unfolding ◌>>◌
seq_shortens p q first second tokens rest (m, d, e) =
    let less : length m < length tokens = (first tokens m d).less in
    let no_longer : length rest ≤ length m = ends_length m rest (second m rest e) in
    record { ends = ends_then tokens m rest (first tokens m d).ends (second m rest e); less = omega arith }

pub exactly_ends : (ws : List Wanted) → EndsBy (exactly ws)
exactly_ends [] = ends_same
exactly_ends (w ∷ ws) = seq_ends _ _ (shortens_ends _ (token_shortens _ _)) (exactly_ends ws)

pub exactly_shortens : (w : Wanted) (ws : List Wanted) → Shortens (exactly (w ∷ ws))
exactly_shortens w ws = seq_shortens _ _ (token_shortens _ _) (exactly_ends ws)

pub words_end : (p : Phrase) → EndsBy (words_of p)
words_end p = exactly_ends (pieces_of p)
