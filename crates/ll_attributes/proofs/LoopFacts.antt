-- Loops that read items one by one, of which so many tokens are left.
use Rattle.std.proofs.Common.{◌≡◌, ℕ, ◌-◌, ◌<◌, ◌≤◌, List, length, drop, sym, ap, ◌∙◌, subst, arith}
use Rattle.std.proofs.lemmas.List.{length-drop}
use Rattle.ll_tokens.specs.declared.kinds.Token.{Token}
use Rattle.ll_tokens.specs.Tokens.{Lexeme, lexemes_of}
use Rattle.ll_parser.specs.Productions.{Production}
use Rattle.ll_parser.proofs.EndFacts.{Ends, drop_ends, ends_then, lexemes_drop}
use Rattle.ll_types.proofs.MembersRead.{fewer, left_of}
use Rattle.ll_types.proofs.Tokens.{Shortens}

-- the production stands for the tokens before the last ones, of which there are so many
pub record SoFar (before : Production) (tokens : List Token) (left : ℕ) : Type 0 where
  pub in_range : left ≤ length tokens
  pub read : before (lexemes_of tokens) (lexemes_of (drop (length tokens - left) tokens))

pub at_start : (before : Production) (tokens : List Token) (left : ℕ) → before (lexemes_of tokens) (lexemes_of tokens) → left ≡ length tokens → SoFar before tokens left
at_start before tokens left none whole =
    let start : length tokens - left ≡ 0 = omega arith in
    record {
      in_range = omega arith;
      read = subst (λ (n : ℕ). before (lexemes_of tokens) (lexemes_of (drop n tokens))) (sym start) none;
    }

-- what was read, before tokens that are known
pub so_far : (before : Production) (tokens here : List Token) (left : ℕ) → SoFar before tokens left → here ≡ drop (length tokens - left) tokens → before (lexemes_of tokens) (lexemes_of here)
so_far before tokens here left s is = subst (λ ls. before (lexemes_of tokens) (lexemes_of ls)) (sym is) s.read

module _ (before one : Production) (shortens : Shortens one) where
  pub fewer_left : (tokens here behind : List Token) (left : ℕ) → SoFar before tokens left → here ≡ drop (length tokens - left) tokens → one (lexemes_of here) (lexemes_of behind) → length behind < left
  fewer_left tokens here behind left s is d =
      let less : length behind < length here = fewer here behind (shortens (lexemes_of here) (lexemes_of behind) d).less in
      let count : length here ≡ length tokens - (length tokens - left) = ap length is ∙ length-drop (length tokens - left) tokens in
      let bound : left ≤ length tokens = s.in_range in
      omega arith

  pub one_more : (grown : Production) (tokens here behind : List Token) (left next : ℕ) → ((a b c : List Lexeme) → before a b → one b c → grown a c) → SoFar before tokens left → here ≡ drop (length tokens - left) tokens → one (lexemes_of here) (lexemes_of behind) → next ≡ length behind → SoFar grown tokens next
  one_more grown tokens here behind left next step s is d count =
      let less : length behind < left = fewer_left tokens here behind left s is d in
      let bound : left ≤ length tokens = s.in_range in
      let here_ends : Ends (lexemes_of tokens) (lexemes_of here) = subst (Ends (lexemes_of tokens)) (sym (ap lexemes_of is ∙ lexemes_drop _ tokens)) (drop_ends _ (lexemes_of tokens)) in
      let ends : Ends (lexemes_of tokens) (lexemes_of behind) = ends_then _ _ _ here_ends (shortens (lexemes_of here) (lexemes_of behind) d).ends in
      let whole : grown (lexemes_of tokens) (lexemes_of behind) = step _ _ _ (so_far before tokens here left s is) d in
      record {
        in_range = omega arith;
        read = subst (grown (lexemes_of tokens)) (left_of tokens behind next ends count) whole;
      }
