-- Productions one behind another: what they leave, and which of them can't begin the same tokens.
use Rattle.std.proofs.Common.{◌≡◌, ℕ, Bool, true, false, true≢false, nat_eq, List, sym, ap, ◌∙◌, subst, arith}
use Rattle.std.proofs.lemmas.Bool.Decides.{nat_tests}
use Rattle.ll_tokens.specs.declared.kinds.TokenKind.{TokenKind}
use Rattle.ll_tokens.specs.declared.kinds.TokenKind.TheVariants.{Label, Local, Global, Mdn, MdName, MdStr, Bang, Attr, Str, CStr, Int, Word, Punct}
use Rattle.ll_tokens.specs.Tokens.{Lexeme}
use Rattle.ll_parser.specs.Productions.{Production, nothing, ◌>>◌, token}
use Rattle.ll_parser.proofs.TokenFacts.{same_first, same_rest}

-- what two productions leave of the same tokens is the same
abbrev pub LeavesOne : Production → Production → Type 0
LeavesOne p q = (tokens a b : List Lexeme) → p tokens a → q tokens b → a ≡ b

-- two productions can't begin the same tokens
abbrev pub Apart : Production → Production → Type 0
Apart p q = (tokens a b : List Lexeme) → p tokens a → q tokens b → ⊥

pub nothing_one : LeavesOne nothing nothing
nothing_one tokens a b e d = sym e ∙ d

pub seq_one : (p p' q q' : Production) → LeavesOne p p' → LeavesOne q q' → LeavesOne (p >> q) (p' >> q')
unfolding ◌>>◌
seq_one p p' q q' one two tokens a b (m, f, s) (m', f', s') = two m a b s (subst (λ ts. q' ts b) (sym (one tokens m m' f f')) s')

pub seq_apart_first : (p p' q q' : Production) → Apart p p' → Apart (p >> q) (p' >> q')
unfolding ◌>>◌
seq_apart_first p p' q q' apart tokens a b (m, f, s) (m', f', s') = apart tokens m m' f f'

pub seq_apart_second : (p p' q q' : Production) → LeavesOne p p' → Apart q q' → Apart (p >> q) (p' >> q')
unfolding ◌>>◌
seq_apart_second p p' q q' one apart tokens a b (m, f, s) (m', f', s') =
    apart m a b s (subst (λ ts. q' ts b) (sym (one tokens m m' f f')) s')

-- one behind another, the first of which can't begin what another production begins
pub first_apart : (p q r : Production) → Apart p r → Apart (p >> q) r
unfolding ◌>>◌
first_apart p q r apart tokens a b (m, f, s) d = apart tokens m b f d

pub swapped : (p q : Production) → Apart p q → Apart q p
swapped p q apart tokens a b f d = apart tokens b a d f

-- what stands behind the first production
pub behind : (p p' q : Production) (tokens middle rest : List Lexeme) → LeavesOne p' p → p tokens middle → (p' >> q) tokens rest → q middle rest
unfolding ◌>>◌
behind p p' q tokens middle rest one f (m, f', s) = subst (λ ts. q ts rest) (one tokens m middle f' f) s

pub begins : (p q : Production) (tokens rest : List Lexeme) → (p >> q) tokens rest → (middle : List Lexeme) × p tokens middle
unfolding ◌>>◌
begins p q tokens rest (m, f, s) = (m, f)

pub joined : (p q : Production) (tokens middle rest : List Lexeme) → p tokens middle → q middle rest → (p >> q) tokens rest
unfolding ◌>>◌
joined p q tokens middle rest f s = (middle, f, s)

pub token_one : (kind kind' : TokenKind) (test test' : Lexeme → Type 0) → LeavesOne (token kind test) (token kind' test')
token_one kind kind' test test' tokens a b (l, is, _, _) (m, is', _, _) = same_rest _ _ _ _ (sym is ∙ is')

unfoldable pub kind_number : TokenKind → ℕ
kind_number Label = 0
kind_number Local = 1
kind_number Global = 2
kind_number Mdn = 3
kind_number MdName = 4
kind_number MdStr = 5
kind_number Bang = 6
kind_number Attr = 7
kind_number Str = 8
kind_number CStr = 9
kind_number Int = 10
kind_number Word = 11
kind_number Punct = 12

abbrev pub same_kind : TokenKind → TokenKind → Bool
same_kind a b = nat_eq (kind_number a) (kind_number b)

pub same_number : (a b : ℕ) → a ≡ b → nat_eq a b ≡ true
same_number a b e = grind (arith, nat_tests)

pub token_apart : (kind kind' : TokenKind) (test test' : Lexeme → Type 0) → same_kind kind kind' ≡ false → Apart (token kind test) (token kind' test')
token_apart kind kind' test test' differ tokens a b (l, is, k, _) (m, is', k', _) =
    let same : l ≡ m = same_first l m a b (sym is ∙ is') in
    let kinds : kind ≡ kind' = sym k ∙ ap (λ (t : Lexeme). t.kind) same ∙ k' in
    true≢false (sym (same_number _ _ (ap kind_number kinds)) ∙ differ)
