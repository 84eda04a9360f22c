-- What is left of tokens is the end of them.
use Rattle.std.proofs.Common.{◌≡◌, ℕ, zero, suc, ◌+◌, ◌-◌, ◌<◌, ◌≤◌, List, [], ◌∷◌, ◌++◌, length, drop, take, refl, sym, ap, ◌∙◌, subst, inl, inr, arith, append_assoc, subst₂}
use Rattle.std.proofs.lemmas.List.{drop_at, length-append, length-map, length-drop, take-append-drop}
use Rattle.ll_tokens.specs.declared.kinds.Token.{Token}
use Rattle.ll_tokens.specs.declared.kinds.TokenKind.{TokenKind}
use Rattle.ll_tokens.specs.Tokens.{Lexeme, lexeme_of, lexemes_of}
use Rattle.ll_parser.specs.declared.refusal.ReadError.{ReadError}
use Rattle.ll_parser.specs.declared.refusal.ReadError.TheVariants.{Refused}
use Rattle.ll_parser.specs.declared.refusal.Refusal.{Refusal}
use Rattle.ll_parser.specs.GrammarTypes.{written_space, pointer}
use Rattle.ll_parser.specs.Pointers.{NoPointer, pointers_here, PointerFails, PointersFail}
use Rattle.ll_parser.specs.Productions.{◌>>◌, token, mark, each}
use Rattle.ll_parser.proofs.PointerFacts.{each_push, refused_behind}

-- tokens end in these
pub Ends : List Lexeme → List Lexeme → Type 0
Ends tokens rest = (front : List Lexeme) × (tokens ≡ front ++ rest)

pub token_ends : (kind : TokenKind) (test : Lexeme → Type 0) (tokens rest : List Lexeme) → token kind test tokens rest → Ends tokens rest
unfolding Ends
token_ends kind test tokens rest (l, is, _, _) = (l ∷ [], is)

pub ends_then : (tokens middle rest : List Lexeme) → Ends tokens middle → Ends middle rest → Ends tokens rest
unfolding Ends
ends_then tokens middle rest (f, e) (g, d) = (f ++ g, e ∙ ap (λ ts. f ++ ts) d ∙ sym (append_assoc f g rest))

pub ends_same : (tokens rest : List Lexeme) → tokens ≡ rest → Ends tokens rest
unfolding Ends
ends_same tokens rest e = ([], e)

written_ends : (v : ℕ) (tokens rest : List Lexeme) → written_space v tokens rest → Ends tokens rest
unfolding ◌>>◌
written_ends v tokens rest (a, word_a, (b, mark_b, (c, number_c, mark_r))) =
    ends_then tokens a rest (token_ends _ _ tokens a word_a) (ends_then a b rest (token_ends _ _ a b mark_b) (ends_then b c rest (token_ends _ _ b c number_c) (token_ends _ _ c rest mark_r)))

pointer_ends : (v : ℕ) (tokens rest : List Lexeme) → pointer v tokens rest → Ends tokens rest
unfolding ◌>>◌
pointer_ends v tokens rest (a, inl written, star) = ends_then tokens a rest (written_ends v tokens a written) (token_ends _ _ a rest star)
pointer_ends v tokens rest (a, inr (_, same), star) = ends_then tokens a rest (ends_same tokens a same) (token_ends _ _ a rest star)

pub ends_drop : (tokens rest : List Lexeme) → Ends tokens rest → drop (length tokens - length rest) tokens ≡ rest
unfolding Ends
ends_drop tokens rest (front, e) =
    let count : length front ≡ length tokens - length rest = omega (arith, ap length e ∙ length-append front rest) in
    ap (drop (length tokens - length rest)) e ∙ drop_at front rest (length tokens - length rest) count

star_shorter : (tokens a rest : List Lexeme) → Ends tokens a → mark 42 a rest → length rest < length tokens
unfolding Ends
star_shorter tokens a rest (front, e) (l, is, _, _) =
    let whole : length tokens ≡ length front + length a = ap length e ∙ length-append front a in
    let behind : length a ≡ suc (length rest) = ap length is in
    omega arith

pointer_shorter : (v : ℕ) (tokens rest : List Lexeme) → pointer v tokens rest → length rest < length tokens
unfolding ◌>>◌
pointer_shorter v tokens rest (a, inl written, star) = star_shorter tokens a rest (written_ends v tokens a written) star
pointer_shorter v tokens rest (a, inr (_, same), star) = star_shorter tokens a rest (ends_same tokens a same) star

pub ends_length : (tokens rest : List Lexeme) → Ends tokens rest → length rest ≤ length tokens
unfolding Ends
ends_length tokens rest (front, e) =
    let whole : length tokens ≡ length front + length rest = ap length e ∙ length-append front rest in
    omega arith

pub lexemes_drop : (n : ℕ) (tokens : List Token) → lexemes_of (drop n tokens) ≡ drop n (lexemes_of tokens)
lexemes_drop zero tokens = refl
lexemes_drop (suc n) [] = refl
lexemes_drop (suc n) (t ∷ ts) = lexemes_drop n ts

pub drop_ends : (n : ℕ) (tokens : List Lexeme) → Ends tokens (drop n tokens)
unfolding Ends
drop_ends n tokens = (take n tokens, sym (take-append-drop n tokens))

-- the loop's invariant: these spaces are read, and this many tokens are left
pub record ReadSoFar (tokens : List Token) (spaces : List ℕ) (left : ℕ) : Type 0 where
  pub in_range : left ≤ length tokens
  pub read : each pointer spaces (lexemes_of tokens) (lexemes_of (drop (length tokens - left) tokens))

pub read_start : (tokens : List Token) (spaces : List ℕ) (left : ℕ) → spaces ≡ [] → left ≡ length tokens → ReadSoFar tokens spaces left
read_start tokens spaces left none whole =
    let at_start : length tokens - left ≡ 0 = omega arith in
    record {
      in_range = omega arith;
      read = subst (λ s. each pointer s (lexemes_of tokens) (lexemes_of (drop (length tokens - left) tokens))) (sym none) (ap (λ n. lexemes_of (drop n tokens)) (sym at_start));
    }

pub read_shorter : (tokens : List Token) (spaces : List ℕ) (left : ℕ) (here behind : List Token) (v : ℕ) → ReadSoFar tokens spaces left → here ≡ drop (length tokens - left) tokens → pointer v (lexemes_of here) (lexemes_of behind) → length behind < left
read_shorter tokens spaces left here behind v so_far is one =
    let shorter : length (lexemes_of behind) < length (lexemes_of here) = pointer_shorter v _ _ one in
    let a : length (lexemes_of behind) ≡ length behind = length-map behind lexeme_of in
    let b : length (lexemes_of here) ≡ length here = length-map here lexeme_of in
    let c : length here ≡ length tokens - (length tokens - left) = ap length is ∙ length-drop (length tokens - left) tokens in
    let d : left ≤ length tokens = so_far.in_range in
    omega arith

pub read_more : (tokens : List Token) (spaces more : List ℕ) (left next : ℕ) (here behind : List Token) (v : ℕ) → ReadSoFar tokens spaces left → here ≡ drop (length tokens - left) tokens → pointer v (lexemes_of here) (lexemes_of behind) → more ≡ spaces ++ v ∷ [] → next ≡ length behind → ReadSoFar tokens more next
read_more tokens spaces more left next here behind v so_far is one grown count =
    let shorter : length behind < left = read_shorter tokens spaces left here behind v so_far is one in
    let bound : left ≤ length tokens = so_far.in_range in
    let before : each pointer spaces (lexemes_of tokens) (lexemes_of here) = subst (λ ts. each pointer spaces (lexemes_of tokens) (lexemes_of ts)) (sym is) so_far.read in
    let all : each pointer (spaces ++ v ∷ []) (lexemes_of tokens) (lexemes_of behind) = each_push spaces v _ _ _ before one in
    let here_ends : Ends (lexemes_of tokens) (lexemes_of here) = subst (Ends (lexemes_of tokens)) (sym (ap lexemes_of is ∙ lexemes_drop _ tokens)) (drop_ends _ (lexemes_of tokens)) in
    let end : Ends (lexemes_of tokens) (lexemes_of behind) = ends_then _ _ _ here_ends (pointer_ends v _ _ one) in
    let places : length (lexemes_of tokens) - length (lexemes_of behind) ≡ length tokens - next = omega (arith, length-map tokens lexeme_of, length-map behind lexeme_of, count) in
    let same : lexemes_of behind ≡ lexemes_of (drop (length tokens - next) tokens) = sym (ends_drop _ _ end) ∙ ap (λ n. drop n (lexemes_of tokens)) places ∙ sym (lexemes_drop _ tokens) in
    record {
      in_range = omega arith;
      read = subst₂ (λ s r. each pointer s (lexemes_of tokens) r) (sym grown) same all;
    }

pub read_end : (tokens : List Token) (spaces : List ℕ) (left : ℕ) (here last : List Token) → ReadSoFar tokens spaces left → here ≡ drop (length tokens - left) tokens → last ≡ drop (length tokens - left) tokens → NoPointer (lexemes_of here) → pointers_here spaces (lexemes_of tokens) (lexemes_of last)
read_end tokens spaces left here last so_far is is' none = record {
  pointers = subst (λ ts. each pointer spaces (lexemes_of tokens) (lexemes_of ts)) (sym is') so_far.read;
  all = subst (λ ts. NoPointer (lexemes_of ts)) (is ∙ sym is') none;
}

pub read_fails : (tokens : List Token) (spaces : List ℕ) (left : ℕ) (here : List Token) (refusal : Refusal) (told : ReadError) → ReadSoFar tokens spaces left → here ≡ drop (length tokens - left) tokens → PointerFails (lexemes_of here) refusal → told ≡ Refused refusal → PointersFail (lexemes_of tokens) told
read_fails tokens spaces left here refusal told so_far is fails e =
    subst (PointersFail (lexemes_of tokens)) (sym e) (refused_behind spaces _ _ refusal (subst (λ ts. each pointer spaces (lexemes_of tokens) (lexemes_of ts)) (sym is) so_far.read) fails)
