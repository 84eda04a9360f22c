-- What doesn't begin a type: a word that is none of a type's, and the name of an attachment.
use Rattle.std.proofs.Common.{◌≡◌, ℕ, IsTrue, List, ◌∷◌, get_or, codes, ap, sym, ◌∙◌}
use Rattle.std.specs.Char.{is_ascii_digit}
use Rattle.std.specs.List.{list_all}
use Rattle.ll_tokens.specs.declared.kinds.TokenKind.TheVariants.{Local as LocalToken, MdName, Punct, Word}
use Rattle.ll_tokens.specs.Tokens.{Lexeme}
use Rattle.ll_tree.specs.declared.name.NameText.{NameText}
use Rattle.ll_tree.specs.declared.ty.LlType.{LlType}
use Rattle.ll_tree.specs.declared.ty.TypeBase.{TypeBase, Void, Int, Half, Float, Double, Named, Array', Vector', Struct', Packed'}
use Rattle.ll_tree.specs.declared.value.TypedValue.{TypedValue}
use Rattle.ll_parser.specs.GrammarTypes.{integer_type, ty, type_base}
use Rattle.ll_parser.specs.GrammarValues.{typed}
use Rattle.ll_parser.specs.NameReading.{any_of}
use Rattle.ll_parser.specs.Productions.{◌>>◌, word}
use Rattle.ll_parser.specs.Reading.{EndsNowhere}
use Rattle.ll_parser.proofs.PointerFacts.{word_no_mark}
use Rattle.ll_parser.proofs.TokenFacts.{same_first}
use Rattle.ll_types.proofs.Tokens.{kinds_apart}
use Rattle.ll_operands.proofs.PartFacts.{same_word}

-- a word that begins no type
pub record BeginsNoType (text : List ℕ) : Type 0 where
  pub no_void : codes "void" ≡ text → ⊥
  pub no_int : (digits : List ℕ) → text ≡ 105 ∷ digits → IsTrue (list_all is_ascii_digit digits) → ⊥
  pub no_half : codes "half" ≡ text → ⊥
  pub no_float : codes "float" ≡ text → ⊥
  pub no_double : codes "double" ≡ text → ⊥

by_first : (text other : List ℕ) → (get_or text 0 0 ≡ get_or other 0 0 → ⊥) → text ≡ other → ⊥
by_first text other differ e = differ (ap (λ (t : List ℕ). get_or t 0 0) e)

-- by its first byte: none of `v`, `i`, `h`, `f` and `d`
pub begins_no_type : (text : List ℕ) → (118 ≡ get_or text 0 0 → ⊥) → (get_or text 0 0 ≡ 105 → ⊥) → (104 ≡ get_or text 0 0 → ⊥) → (102 ≡ get_or text 0 0 → ⊥) → (100 ≡ get_or text 0 0 → ⊥) → BeginsNoType text
begins_no_type text v i h f d = record {
  no_void = by_first (codes "void") text v;
  no_int = λ digits e all. by_first text (105 ∷ digits) i e;
  no_half = by_first (codes "half") text h;
  no_float = by_first (codes "float") text f;
  no_double = by_first (codes "double") text d;
}

pub words_apart : (text other : List ℕ) (tokens a b : List Lexeme) → (text ≡ other → ⊥) → word text tokens a → word other tokens b → ⊥
words_apart text other tokens a b differ w x = differ (same_word text other tokens a b w x)

int_no_word : (text : List ℕ) → BeginsNoType text → (bits : ℕ) (tokens a b : List Lexeme) → integer_type bits tokens a → word text tokens b → ⊥
int_no_word text none bits tokens a b (l, is, _, (digits, text_l, all, _, _)) (m, is', _, text_m) =
    none.no_int digits (sym text_m ∙ sym (ap (λ (x : Lexeme). x.text) (same_first l m _ _ (sym is ∙ is'))) ∙ text_l) all

module _ (names : List NameText) (tokens a b : List Lexeme) where
  base_no_word : (text : List ℕ) → BeginsNoType text → (base : TypeBase) → type_base names base tokens a → word text tokens b → ⊥
  unfolding ◌>>◌
  base_no_word text none Void d w = words_apart (codes "void") text tokens a b none.no_void d w
  base_no_word text none (Int bits) d w = int_no_word text none bits tokens a b d w
  base_no_word text none Half d w = words_apart (codes "half") text tokens a b none.no_half d w
  base_no_word text none Float d w = words_apart (codes "float") text tokens a b none.no_float d w
  base_no_word text none Double d w = words_apart (codes "double") text tokens a b none.no_double d w
  base_no_word text none (Named name) d w = kinds_apart LocalToken Word _ _ tokens a b (λ e. cc) d w
  base_no_word text none (Array' count shape part) (m, bracket, _) w = word_no_mark text 91 tokens b m w bracket
  base_no_word text none (Vector' lanes shape part) (m, bracket, _) w = word_no_mark text 60 tokens b m w bracket
  base_no_word text none (Struct' shape members) (m, bracket, _) w = word_no_mark text 123 tokens b m w bracket
  base_no_word text none (Packed' shape members) (m, bracket, _) w = word_no_mark text 60 tokens b m w bracket

  base_no_name : (base : TypeBase) → type_base names base tokens a → any_of MdName tokens b → ⊥
  unfolding ◌>>◌
  base_no_name Void d x = kinds_apart Word MdName _ _ tokens a b (λ e. cc) d x
  base_no_name (Int bits) d x = kinds_apart Word MdName _ _ tokens a b (λ e. cc) d x
  base_no_name Half d x = kinds_apart Word MdName _ _ tokens a b (λ e. cc) d x
  base_no_name Float d x = kinds_apart Word MdName _ _ tokens a b (λ e. cc) d x
  base_no_name Double d x = kinds_apart Word MdName _ _ tokens a b (λ e. cc) d x
  base_no_name (Named name) d x = kinds_apart LocalToken MdName _ _ tokens a b (λ e. cc) d x
  base_no_name (Array' count shape part) (m, bracket, _) x = kinds_apart Punct MdName _ _ tokens m b (λ e. cc) bracket x
  base_no_name (Vector' lanes shape part) (m, bracket, _) x = kinds_apart Punct MdName _ _ tokens m b (λ e. cc) bracket x
  base_no_name (Struct' shape members) (m, bracket, _) x = kinds_apart Punct MdName _ _ tokens m b (λ e. cc) bracket x
  base_no_name (Packed' shape members) (m, bracket, _) x = kinds_apart Punct MdName _ _ tokens m b (λ e. cc) bracket x

pub type_no_word : (text : List ℕ) → BeginsNoType text → (names : List NameText) (t : LlType) (tokens rest : List Lexeme) → ty names t tokens rest → EndsNowhere (word text) tokens
unfolding ◌>>◌
type_no_word text none names t tokens rest (m, base, ps) b w = base_no_word names tokens m b text none t.base base w

pub type_no_name : (names : List NameText) (t : LlType) (tokens rest : List Lexeme) → ty names t tokens rest → EndsNowhere (any_of MdName) tokens
unfolding ◌>>◌
type_no_name names t tokens rest (m, base, ps) b x = base_no_name names tokens m b t.base base x

pub typed_no_word : (text : List ℕ) → BeginsNoType text → (names : List NameText) (v : TypedValue) (tokens rest : List Lexeme) → typed names v tokens rest → EndsNowhere (word text) tokens
unfolding ◌>>◌
typed_no_word text none names v tokens rest (m, t, d) = type_no_word text none names v.ty tokens m t

pub typed_no_name : (names : List NameText) (v : TypedValue) (tokens rest : List Lexeme) → typed names v tokens rest → EndsNowhere (any_of MdName) tokens
unfolding ◌>>◌
typed_no_name names v tokens rest (m, t, d) = type_no_name names v.ty tokens m t
