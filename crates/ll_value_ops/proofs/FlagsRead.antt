-- Flags as they are read: one behind another.
use Rattle.std.proofs.Common.{◌≡◌, ℕ, ◌-◌, ◌<◌, ◌≤◌, List, [], ◌∷◌, ◌++◌, length, drop, refl, sym, ap, ◌∙◌, subst, subst₂, arith}
use Rattle.ll_tokens.specs.declared.kinds.Token.{Token}
use Rattle.ll_tokens.specs.Tokens.{Lexeme, lexemes_of}
use Rattle.ll_tree.specs.declared.op.Flag.{Flag}
use Rattle.ll_parser.specs.GrammarInsts.{flag}
use Rattle.ll_parser.specs.Productions.{◌>>◌, each}
use Rattle.ll_parser.specs.Reading.{EndsNowhere}
use Rattle.ll_parser.proofs.EndFacts.{Ends, ends_then, lexemes_drop, drop_ends}
use Rattle.ll_types.proofs.MembersRead.{fewer, left_of}
use Rattle.ll_types.proofs.PartsRead.{here_fewer}
use Rattle.ll_types.proofs.Tokens.{token_shortens}
use Rattle.ll_operands.specs.Parts.{times}
use Rattle.ll_value_ops.specs.ValueOpcodes.{flags_here, flags_part, any_flag}

-- these flags are read, and this many tokens are left
pub record FlagsSoFar (tokens : List Token) (flags : List Flag) (left : ℕ) : Type 0 where
  pub in_range : left ≤ length tokens
  pub read : each flag flags (lexemes_of tokens) (lexemes_of (drop (length tokens - left) tokens))

pub no_flag_yet : (tokens : List Token) (flags : List Flag) (left : ℕ) → flags ≡ [] → left ≡ length tokens → FlagsSoFar tokens flags left
no_flag_yet tokens flags left none whole =
    let at_start : length tokens - left ≡ 0 = omega arith in
    record {
      in_range = omega arith;
      read = subst (λ fs. each flag fs (lexemes_of tokens) (lexemes_of (drop (length tokens - left) tokens))) (sym none) (ap (λ n. lexemes_of (drop n tokens)) (sym at_start));
    }

one_flag_more : (flags : List Flag) (f : Flag) (tokens middle rest : List Lexeme) → each flag flags tokens middle → flag f middle rest → each flag (flags ++ f ∷ []) tokens rest
unfolding ◌>>◌
one_flag_more [] f tokens middle rest same one = (rest, subst (λ ls. flag f ls rest) (sym same) one, refl)
one_flag_more (x ∷ xs) f tokens middle rest (a, first, more) one = (a, first, one_flag_more xs f a middle rest more one)

pub flag_fewer : (tokens here behind : List Token) (flags : List Flag) (left : ℕ) (f : Flag) → FlagsSoFar tokens flags left → here ≡ drop (length tokens - left) tokens → flag f (lexemes_of here) (lexemes_of behind) → length behind < left
flag_fewer tokens here behind flags left f so_far is one =
    let a : length here ≡ left = here_fewer tokens here left so_far.in_range is in
    let b : length behind < length here = fewer here behind (token_shortens _ _ _ _ one).less in
    omega arith

pub flag_read : (tokens here behind : List Token) (flags more : List Flag) (left count : ℕ) (f : Flag) → FlagsSoFar tokens flags left → here ≡ drop (length tokens - left) tokens → flag f (lexemes_of here) (lexemes_of behind) → more ≡ flags ++ f ∷ [] → count ≡ length behind → FlagsSoFar tokens more count
flag_read tokens here behind flags more left count f so_far is one grown counted =
    let less : length behind < left = flag_fewer tokens here behind flags left f so_far is one in
    let bound : left ≤ length tokens = so_far.in_range in
    let before : each flag flags (lexemes_of tokens) (lexemes_of here) = subst (λ ts. each flag flags (lexemes_of tokens) (lexemes_of ts)) (sym is) so_far.read in
    let here_ends : Ends (lexemes_of tokens) (lexemes_of here) = subst (Ends (lexemes_of tokens)) (sym (ap lexemes_of is ∙ lexemes_drop _ tokens)) (drop_ends _ (lexemes_of tokens)) in
    let end : Ends (lexemes_of tokens) (lexemes_of behind) = ends_then _ _ _ here_ends (token_shortens _ _ _ _ one).ends in
    record {
      in_range = omega arith;
      read = subst₂ (λ fs ls. each flag fs (lexemes_of tokens) ls) (sym grown) (left_of tokens behind count end counted) (one_flag_more flags f _ _ _ before one);
    }

pub flags_end : (tokens here last : List Token) (flags : List Flag) (left : ℕ) → FlagsSoFar tokens flags left → here ≡ drop (length tokens - left) tokens → last ≡ drop (length tokens - left) tokens → EndsNowhere any_flag (lexemes_of here) → flags_here flags (lexemes_of tokens) (lexemes_of last)
flags_end tokens here last flags left so_far is is' none =
    (subst (λ ts. each flag flags (lexemes_of tokens) (lexemes_of ts)) (sym is') so_far.read, subst (λ ts. EndsNowhere any_flag (lexemes_of ts)) (is ∙ sym is') none)

-- flags are a part of so many words
flags_times : (flags : List Flag) (tokens rest : List Lexeme) → each flag flags tokens rest → times (length flags) any_flag tokens rest
unfolding ◌>>◌
flags_times [] tokens rest same = same
flags_times (f ∷ fs) tokens rest (a, (l, is, kind, (text, place)), more) = (a, (f.word, (l, is, kind, text)), flags_times fs a rest more)

pub flags_begin : (flags : List Flag) (tokens rest : List Lexeme) → flags_here flags tokens rest → flags_part.begins tokens rest
flags_begin flags tokens rest (all, none) = (length flags, flags_times flags tokens rest all, none)
