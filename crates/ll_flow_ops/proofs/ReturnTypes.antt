-- The types of returned values, none of which begins with `void`.
use Rattle.std.proofs.Common.{◌≡◌, ℕ, false, List, codes, get_or, refl, ap, arith}
use Rattle.ll_tokens.specs.declared.kinds.TokenKind.TheVariants.{Local as LocalToken, Punct, Word}
use Rattle.ll_tokens.specs.Tokens.{Lexeme}
use Rattle.ll_tree.specs.declared.name.NameText.{NameText}
use Rattle.ll_tree.specs.declared.ty.TypeBase.{TypeBase, Void, Int, Half, Float, Double, Named, Array', Vector', Struct', Packed'}
use Rattle.ll_tree.specs.declared.value.TypedValue.{TypedValue}
use Rattle.ll_parser.specs.GrammarInsts.{begins_with_void}
use Rattle.ll_parser.specs.GrammarTypes.{type_base}
use Rattle.ll_parser.specs.GrammarValues.{typed}
use Rattle.ll_parser.specs.Productions.{◌>>◌, word}
use Rattle.ll_parser.specs.Reading.{EndsNowhere}
use Rattle.ll_types.proofs.Tokens.{kinds_apart}
use Rattle.ll_types.proofs.Widths.{no_integer}
use Rattle.ll_operands.proofs.PartFacts.{same_word}

letters_apart : (text other : List ℕ) (tokens a b : List Lexeme) → (get_or text 0 0 ≡ get_or other 0 0 → ⊥) → word text tokens a → word other tokens b → ⊥
letters_apart text other tokens a b differ w x = differ (ap (λ (t : List ℕ). get_or t 0 0) (same_word text other tokens a b w x))

module _ (names : List NameText) (tokens a b : List Lexeme) where
  base_no_void : (base : TypeBase) → begins_with_void base ≡ false → type_base names base tokens a → word (codes "void") tokens b → ⊥
  unfolding ◌>>◌
  base_no_void Void e d w = cc
  base_no_void (Int bits) e d w = no_integer (codes "void") (λ q. omega arith) bits tokens a b d w
  base_no_void Half e d w = letters_apart (codes "half") (codes "void") tokens a b (λ q. omega arith) d w
  base_no_void Float e d w = letters_apart (codes "float") (codes "void") tokens a b (λ q. omega arith) d w
  base_no_void Double e d w = letters_apart (codes "double") (codes "void") tokens a b (λ q. omega arith) d w
  base_no_void (Named name) e d w = kinds_apart LocalToken Word _ _ tokens a b (λ q. cc) d w
  base_no_void (Array' count shape part) e (m, bracket, _) w = kinds_apart Punct Word _ _ tokens m b (λ q. cc) bracket w
  base_no_void (Vector' lanes shape part) e (m, bracket, _) w = kinds_apart Punct Word _ _ tokens m b (λ q. cc) bracket w
  base_no_void (Struct' shape members) e (m, bracket, _) w = kinds_apart Punct Word _ _ tokens m b (λ q. cc) bracket w
  base_no_void (Packed' shape members) e (m, bracket, _) w = kinds_apart Punct Word _ _ tokens m b (λ q. cc) bracket w

base_not_void : (names : List NameText) (base : TypeBase) (tokens rest : List Lexeme) → EndsNowhere (word (codes "void")) tokens → type_base names base tokens rest → begins_with_void base ≡ false
base_not_void names Void tokens rest nowhere d = absurd (nowhere rest d)
base_not_void names other tokens rest nowhere d = refl

-- a value whose type isn't `void`, with or without pointers, doesn't begin with that word, and the other way round
pub typed_no_void : (names : List NameText) (v : TypedValue) (tokens rest : List Lexeme) → begins_with_void v.ty.base ≡ false → typed names v tokens rest → EndsNowhere (word (codes "void")) tokens
unfolding ◌>>◌
typed_no_void names v tokens rest e (m, (n, base, ps), d) b w = base_no_void names tokens n b v.ty.base e base w

pub typed_not_void : (names : List NameText) (v : TypedValue) (tokens rest : List Lexeme) → EndsNowhere (word (codes "void")) tokens → typed names v tokens rest → begins_with_void v.ty.base ≡ false
unfolding ◌>>◌
typed_not_void names v tokens rest nowhere (m, (n, base, ps), d) = base_not_void names v.ty.base tokens n nowhere base
