-- Numbers between brackets and address spaces, read part by part.
use Rattle.std.proofs.Common.{◌≡◌, ℕ, List, codes, Result, Ok, Err, MatchResult, subst, inl, inr}
use Rattle.ll_tokens.specs.Tokens.{Lexeme}
use Rattle.ll_tokens.specs.declared.kinds.TokenKind.TheVariants.{Word, Punct, Int as IntToken}
use Rattle.ll_parser.specs.GrammarTypes.{number}
use Rattle.ll_parser.specs.Productions.{◌>>◌, word, mark}
use Rattle.ll_parser.specs.Reading.{EndsNowhere, DerivesNone}
use Rattle.ll_parser.specs.Spaces.{bracketed_number, space_here}
use Rattle.ll_parser.proofs.TokenFacts.{token_leaves_one, first_nowhere, second_nowhere}

pub mark_leaves_one : (code : ℕ) (tokens a b : List Lexeme) → mark code tokens a → mark code tokens b → a ≡ b
mark_leaves_one code tokens a b m n = token_leaves_one Punct _ _ tokens a b m n

pub word_leaves_one : (text : List ℕ) (tokens a b : List Lexeme) → word text tokens a → word text tokens b → a ≡ b
word_leaves_one text tokens a b m n = token_leaves_one Word _ _ tokens a b m n

pub number_leaves_one : (v w : ℕ) (tokens a b : List Lexeme) → number v tokens a → number w tokens b → a ≡ b
number_leaves_one v w tokens a b m n = token_leaves_one IntToken _ _ tokens a b m n

pub bracketed_read : (value : ℕ) (tokens inside behind rest : List Lexeme) → mark 40 tokens inside → number value inside behind → mark 41 behind rest → bracketed_number value tokens rest
unfolding ◌>>◌
bracketed_read value tokens inside behind rest open' n close = (inside, open', (behind, n, close))

pub bracketed_none_at_open : (tokens : List Lexeme) → EndsNowhere (mark 40) tokens → DerivesNone bracketed_number tokens
bracketed_none_at_open tokens nowhere value = first_nowhere (mark 40) _ tokens nowhere

pub bracketed_none_at_number : (tokens inside : List Lexeme) → mark 40 tokens inside → DerivesNone number inside → DerivesNone bracketed_number tokens
bracketed_none_at_number tokens inside open' none value =
    second_nowhere (mark 40) _ tokens inside open' (mark_leaves_one 40 tokens) (first_nowhere (number value) _ inside (none value))

pub bracketed_none_at_close : (v : ℕ) (tokens inside behind : List Lexeme) → mark 40 tokens inside → number v inside behind → EndsNowhere (mark 41) behind → DerivesNone bracketed_number tokens
unfolding ◌>>◌
bracketed_none_at_close v tokens inside behind open' n nowhere value rest (inside', open'', (behind', n', close)) =
    let same : inside' ≡ inside = mark_leaves_one 40 tokens inside' inside open'' open' in
    let n'' : number value inside behind' = subst (λ ts. number value ts behind') same n' in
    let same' : behind' ≡ behind = number_leaves_one value v inside behind' behind n'' n in
    nowhere rest (subst (λ ts. mark 41 ts rest) same' close)

pub space_read : (value : ℕ) (tokens behind rest : List Lexeme) → word (codes "addrspace") tokens behind → bracketed_number value behind rest → space_here value tokens rest
unfolding ◌>>◌
space_read value tokens behind rest w b = inl (behind, w, b)

pub space_none : (tokens behind : List Lexeme) → word (codes "addrspace") tokens behind → DerivesNone bracketed_number behind → DerivesNone space_here tokens
space_none tokens behind w none value rest (inl written) =
    second_nowhere (word (codes "addrspace")) (bracketed_number value) tokens behind w (word_leaves_one (codes "addrspace") tokens) (none value) rest written
space_none tokens behind w none value rest (inr (_, _, nowhere)) = nowhere behind w

pub space_behind : {X : Type 0} {E : Type 0} (of : X → ℕ) (left : X → List Lexeme) (tokens behind : List Lexeme) (answer : Result X E) → word (codes "addrspace") tokens behind → MatchResult answer (λ r. bracketed_number (of r) behind (left r)) (λ _. DerivesNone bracketed_number behind) → MatchResult answer (λ r. space_here (of r) tokens (left r)) (λ _. DerivesNone space_here tokens)
space_behind of left tokens behind (Ok r) w b = space_read (of r) tokens behind (left r) w b
space_behind of left tokens behind (Err e) w none = space_none tokens behind w none
