-- Pieces, one behind another.
use Rattle.std.proofs.Common.{◌≡◌, List, ◌∷◌, Option, None, Some, MatchOption, sym, subst}
use Rattle.ll_tokens.specs.Tokens.{Lexeme}
use Rattle.ll_parser.specs.Reading.{EndsNowhere}
use Rattle.ll_parser.proofs.TokenFacts.{first_nowhere, second_nowhere}
use Rattle.kernel_text.specs.Phrases.{Wanted, wanted_token, exactly}
use Rattle.kernel_text.proofs.Sequences.{joined, token_one}

-- the answer behind the first piece is that for all of them
pub behind_first : {X : Type 0} (left : X → List Lexeme) (wanted : Wanted) (all more : List Wanted) (tokens middle : List Lexeme) (answer : Option X) → all ≡ wanted ∷ more → wanted_token wanted tokens middle → MatchOption answer (EndsNowhere (exactly more) middle) (λ x. exactly more middle (left x)) → MatchOption answer (EndsNowhere (exactly all) tokens) (λ x. exactly all tokens (left x))
behind_first left wanted all more tokens middle None is first none =
    subst (λ ws. EndsNowhere (exactly ws) tokens) (sym is) (second_nowhere (wanted_token wanted) (exactly more) tokens middle first (token_one _ _ _ _ tokens) none)
behind_first left wanted all more tokens middle (Some x) is first others =
    subst (λ ws. exactly ws tokens (left x)) (sym is) (joined _ _ tokens middle (left x) first others)

pub nowhere_at_first : (wanted : Wanted) (all more : List Wanted) (tokens : List Lexeme) → all ≡ wanted ∷ more → EndsNowhere (wanted_token wanted) tokens → EndsNowhere (exactly all) tokens
nowhere_at_first wanted all more tokens is none =
    subst (λ ws. EndsNowhere (exactly ws) tokens) (sym is) (first_nowhere (wanted_token wanted) (exactly more) tokens none)
