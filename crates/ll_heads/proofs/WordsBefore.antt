-- Words at the head of a function that what follows them doesn't begin with.
use Rattle.std.proofs.Common.{◌≡◌, ℕ, Bool, true, false, true≢false, IsTrue, List, [], ◌∷◌, codes, drop, get_or, refl, sym, ap, ◌∙◌, subst, inl, inr, arith}
use Rattle.std.specs.Char.{is_ascii_digit}
use Rattle.std.specs.List.{list_all}
use Rattle.std.specs.Str.{bytes_eq}
use Rattle.ll_tokens.specs.declared.kinds.TokenKind.TheVariants.{Local as LocalToken, Punct, Word}
use Rattle.ll_tokens.specs.Tokens.{Lexeme}
use Rattle.ll_tree.specs.declared.module.Attribute.{Attribute}
use Rattle.ll_tree.specs.declared.name.NameText.{NameText}
use Rattle.ll_tree.specs.declared.ty.LlType.{LlType}
use Rattle.ll_tree.specs.declared.ty.TypeBase.{TypeBase, Void, Int, Half, Float, Double, Named, Array', Vector', Struct', Packed'}
use Rattle.ll_parser.specs.GrammarAttributes.{attribute}
use Rattle.ll_parser.specs.GrammarItems.{convention}
use Rattle.ll_parser.specs.GrammarTypes.{ty, type_base}
use Rattle.ll_parser.specs.Productions.{◌>>◌, each, mark, maybe, word}
use Rattle.ll_parser.specs.Reading.{EndsNowhere}
use Rattle.ll_parser.proofs.PointerFacts.{word_no_mark}
use Rattle.ll_types.proofs.Tokens.{kinds_apart, marks_apart}
use Rattle.ll_operands.proofs.TypeBegins.{BeginsNoType, begins_no_type, type_no_word}
use Rattle.ll_attributes.proofs.AttributeFacts.{no_attribute_at_word}
use Rattle.ll_attributes.proofs.AttributeWords.{is_attribute_word}
use Rattle.ll_attributes.proofs.ListFacts.{words_apart}

-- neither a type nor an attribute begins with the word
pub record BeginsNothing (text : List ℕ) : Type 0 where
  pub no_type : BeginsNoType text
  pub no_attribute : is_attribute_word text ≡ false

by_byte : (i : ℕ) (text other : List ℕ) → (get_or text i 0 ≡ get_or other i 0 → ⊥) → text ≡ other → ⊥
by_byte i text other differ e = differ (ap (λ (t : List ℕ). get_or t i 0) e)

is_true : (b : Bool) → IsTrue b → b ≡ true
is_true b holding = grind arith

pub internal_begins_nothing : BeginsNothing (codes "internal")
unfolding is_attribute_word
internal_begins_nothing = record {
  no_type = record {
    no_void = by_byte 0 (codes "void") (codes "internal") (λ e. omega (arith, e));
    no_int = λ digits e all. true≢false (sym (is_true _ all) ∙ ap (λ (w : List ℕ). list_all is_ascii_digit (drop 1 w)) (sym e));
    no_half = by_byte 0 (codes "half") (codes "internal") (λ e. omega (arith, e));
    no_float = by_byte 0 (codes "float") (codes "internal") (λ e. omega (arith, e));
    no_double = by_byte 0 (codes "double") (codes "internal") (λ e. omega (arith, e));
  };
  no_attribute = refl;
}

pub dso_local_begins_nothing : BeginsNothing (codes "dso_local")
unfolding is_attribute_word
dso_local_begins_nothing = record {
  no_type = record {
    no_void = by_byte 0 (codes "void") (codes "dso_local") (λ e. omega (arith, e));
    no_int = λ digits e all. by_byte 0 (codes "dso_local") (105 ∷ digits) (λ x. omega (arith, x)) e;
    no_half = by_byte 0 (codes "half") (codes "dso_local") (λ e. omega (arith, e));
    no_float = by_byte 0 (codes "float") (codes "dso_local") (λ e. omega (arith, e));
    no_double = by_byte 1 (codes "double") (codes "dso_local") (λ e. omega (arith, e));
  };
  no_attribute = refl;
}

pub private_begins_nothing : BeginsNothing (codes "private")
unfolding is_attribute_word
private_begins_nothing = record {
  no_type = begins_no_type (codes "private") (λ e. omega (arith, e)) (λ e. omega (arith, e)) (λ e. omega (arith, e)) (λ e. omega (arith, e)) (λ e. omega (arith, e));
  no_attribute = refl;
}

pub spir_kernel_begins_nothing : BeginsNothing (codes "spir_kernel")
unfolding is_attribute_word
spir_kernel_begins_nothing = record {
  no_type = begins_no_type (codes "spir_kernel") (λ e. omega (arith, e)) (λ e. omega (arith, e)) (λ e. omega (arith, e)) (λ e. omega (arith, e)) (λ e. omega (arith, e));
  no_attribute = refl;
}

pub spir_func_begins_nothing : BeginsNothing (codes "spir_func")
unfolding is_attribute_word
spir_func_begins_nothing = record {
  no_type = begins_no_type (codes "spir_func") (λ e. omega (arith, e)) (λ e. omega (arith, e)) (λ e. omega (arith, e)) (λ e. omega (arith, e)) (λ e. omega (arith, e));
  no_attribute = refl;
}

module _ (text : List ℕ) (nothing_begins : BeginsNothing text) (names : List NameText) where
  -- a type behind attributes
  pub at_attributes : (xs : List Attribute) (t : LlType) (tokens middle rest : List Lexeme) → each (attribute names) xs tokens middle → ty names t middle rest → EndsNowhere (word text) tokens
  unfolding ◌>>◌
  at_attributes [] t tokens middle rest same type b w =
      subst (EndsNowhere (word text)) (sym same) (type_no_word text nothing_begins.no_type names t middle rest type) b w
  at_attributes (a ∷ xs) t tokens middle rest (k, (j, (l, is, kind, (same, _)), d), more) type b w =
      no_attribute_at_word text tokens b nothing_begins.no_attribute w a.kind j (l, is, kind, same)

  -- the same behind a calling convention
  pub at_convention : (is_kernel : Bool) (xs : List Attribute) (t : LlType) (tokens a middle rest : List Lexeme) → bytes_eq text (codes "spir_kernel") ≡ false → bytes_eq text (codes "spir_func") ≡ false → convention names is_kernel tokens a → each (attribute names) xs a middle → ty names t middle rest → EndsNowhere (word text) tokens
  at_convention true xs t tokens a middle rest no_kernel no_function w attributes type b x =
      words_apart text (codes "spir_kernel") tokens b a no_kernel x w
  at_convention false xs t tokens a middle rest no_kernel no_function (inl w) attributes type b x =
      words_apart text (codes "spir_func") tokens b a no_function x w
  at_convention false xs t tokens a middle rest no_kernel no_function (inr same) attributes type b x =
      subst (EndsNowhere (word text)) (sym same) (at_attributes xs t a middle rest attributes type) b x

-- before a word that may be missing
pub at_maybe : (text other : List ℕ) (tokens rest : List Lexeme) → bytes_eq text other ≡ false → maybe (word other) tokens rest → EndsNowhere (word text) rest → EndsNowhere (word text) tokens
at_maybe text other tokens rest differ (inl w) nowhere b x = words_apart text other tokens b rest differ x w
at_maybe text other tokens rest differ (inr same) nowhere b x = subst (EndsNowhere (word text)) (sym same) nowhere b x

-- a bracket begins no type that isn't a type's own, nor does another mark
module _ (code : ℕ) (no_square : 91 ≡ code → ⊥) (no_angle : 60 ≡ code → ⊥) (no_brace : 123 ≡ code → ⊥) where
  base_no_mark : (names : List NameText) (base : TypeBase) (tokens a b : List Lexeme) → type_base names base tokens a → mark code tokens b → ⊥
  unfolding ◌>>◌
  base_no_mark names Void tokens a b d m = word_no_mark (codes "void") code tokens a b d m
  base_no_mark names (Int bits) tokens a b d m = kinds_apart Word Punct _ _ tokens a b (λ e. cc) d m
  base_no_mark names Half tokens a b d m = word_no_mark (codes "half") code tokens a b d m
  base_no_mark names Float tokens a b d m = word_no_mark (codes "float") code tokens a b d m
  base_no_mark names Double tokens a b d m = word_no_mark (codes "double") code tokens a b d m
  base_no_mark names (Named name) tokens a b d m = kinds_apart LocalToken Punct _ _ tokens a b (λ e. cc) d m
  base_no_mark names (Array' count shape part) tokens a b (k, bracket, _) m = marks_apart 91 code tokens k b no_square bracket m
  base_no_mark names (Vector' lanes shape part) tokens a b (k, bracket, _) m = marks_apart 60 code tokens k b no_angle bracket m
  base_no_mark names (Struct' shape members) tokens a b (k, bracket, _) m = marks_apart 123 code tokens k b no_brace bracket m
  base_no_mark names (Packed' shape members) tokens a b (k, bracket, _) m = marks_apart 60 code tokens k b no_angle bracket m

  pub type_no_mark : (names : List NameText) (t : LlType) (tokens rest : List Lexeme) → ty names t tokens rest → EndsNowhere (mark code) tokens
  unfolding ◌>>◌
  type_no_mark names t tokens rest (k, base, _) b m = base_no_mark names t.base tokens k b base m
