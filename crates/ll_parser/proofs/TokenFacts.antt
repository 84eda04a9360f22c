-- Productions at lists of tokens of which the first is known.
use Rattle.std.proofs.Common.{◌≡◌, zero, suc, List, [], ◌∷◌, drop, get_or, length, arith, sym, ap, ◌∙◌, subst}
use Rattle.ll_tokens.specs.declared.kinds.TokenKind.{TokenKind}
use Rattle.ll_tokens.specs.Tokens.{Lexeme}
use Rattle.ll_parser.specs.Productions.{Production, ◌>>◌, token}
use Rattle.ll_parser.specs.Reading.{EndsNowhere}

pub same_first : {A : Type 0} (x y : A) (xs ys : List A) → x ∷ xs ≡ y ∷ ys → x ≡ y
same_first x y xs ys e = ap (λ zs. get_or zs 0 x) e

pub same_rest : {A : Type 0} (x y : A) (xs ys : List A) → x ∷ xs ≡ y ∷ ys → xs ≡ ys
same_rest x y xs ys e = ap (drop 1) e

not_nil : {A : Type 0} (x : A) (xs : List A) → [] ≡ x ∷ xs → ⊥
not_nil x xs e =
    let h : zero ≡ suc (length xs) = ap length e in
    omega arith

-- no token begins an empty list
pub token_nowhere_in_nil : (kind : TokenKind) (test : Lexeme → Type 0) (tokens : List Lexeme) → tokens ≡ [] → EndsNowhere (token kind test) tokens
token_nowhere_in_nil kind test tokens e rest (lexeme, is, _, _) = not_nil _ _ (sym e ∙ is)

-- a first token that isn't wanted begins no list of a wanted one
pub token_nowhere : (kind : TokenKind) (test : Lexeme → Type 0) (tokens : List Lexeme) (first : Lexeme) (rest : List Lexeme) → tokens ≡ first ∷ rest → (first.kind ≡ kind → test first → ⊥) → EndsNowhere (token kind test) tokens
token_nowhere kind test tokens first rest e unwanted other (lexeme, is, kind_is, tested) =
    let same : lexeme ≡ first = same_first _ _ _ _ (sym is ∙ e) in
    unwanted (ap (λ (l : Lexeme). l.kind) (sym same) ∙ kind_is) (subst test same tested)

-- one token leaves one list
pub token_leaves_one : (kind : TokenKind) (test test' : Lexeme → Type 0) (tokens rest rest' : List Lexeme) → token kind test tokens rest → token kind test' tokens rest' → rest ≡ rest'
token_leaves_one kind test test' tokens rest rest' (l, is, _, _) (m, is', _, _) = same_rest _ _ _ _ (sym is ∙ is')

-- two productions, of which the first ends nowhere, or the second where the first one ends
pub first_nowhere : (first second : Production) (tokens : List Lexeme) → EndsNowhere first tokens → EndsNowhere (first >> second) tokens
unfolding ◌>>◌
first_nowhere first second tokens nowhere rest (middle, one, _) = nowhere middle one

pub second_nowhere : (first second : Production) (tokens middle : List Lexeme) → first tokens middle → ((a b : List Lexeme) → first tokens a → first tokens b → a ≡ b) → EndsNowhere second middle → EndsNowhere (first >> second) tokens
unfolding ◌>>◌
second_nowhere first second tokens middle one alone nowhere rest (other, one', two) =
    nowhere rest (subst (λ ts. second ts rest) (alone other middle one' one) two)
