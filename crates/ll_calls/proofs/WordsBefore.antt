-- Neither attributes nor the type of a result begin with a calling convention.
use Rattle.std.proofs.Common.{◌≡◌, ℕ, false, List, [], ◌∷◌, codes, refl, sym, subst, inl, inr, arith}
use Rattle.ll_tokens.specs.Tokens.{Lexeme}
use Rattle.ll_tree.specs.declared.module.Attribute.{Attribute}
use Rattle.ll_tree.specs.declared.name.NameText.{NameText}
use Rattle.ll_tree.specs.declared.ty.LlType.{LlType}
use Rattle.ll_parser.specs.GrammarAttributes.{attribute}
use Rattle.ll_parser.specs.GrammarTypes.{ty}
use Rattle.ll_parser.specs.Productions.{◌>>◌, each, word}
use Rattle.ll_parser.specs.Reading.{EndsNowhere}
use Rattle.ll_operands.proofs.TypeBegins.{BeginsNoType, begins_no_type, type_no_word}
use Rattle.ll_attributes.specs.Heads.{call_convention}
use Rattle.ll_attributes.proofs.AttributeFacts.{no_attribute_at_word}
use Rattle.ll_attributes.proofs.AttributeWords.{is_attribute_word}

-- before a type behind attributes stands no word that begins neither
no_word_before : (text : List ℕ) → BeginsNoType text → is_attribute_word text ≡ false → (names : List NameText) (xs : List Attribute) (t : LlType) (tokens middle rest : List Lexeme) → each (attribute names) xs tokens middle → ty names t middle rest → EndsNowhere (word text) tokens
unfolding ◌>>◌
no_word_before text no_type off names [] t tokens middle rest same type b w =
    subst (EndsNowhere (word text)) (sym same) (type_no_word text no_type names t middle rest type) b w
no_word_before text no_type off names (x ∷ xs) t tokens middle rest (k, (j, (l, is, kind, (same, _)), d), more) type b w =
    no_attribute_at_word text tokens b off w x.kind j (l, is, kind, same)

kernel_begins_no_type : BeginsNoType (codes "spir_kernel")
kernel_begins_no_type = begins_no_type (codes "spir_kernel") (λ e. omega (arith, e)) (λ e. omega (arith, e)) (λ e. omega (arith, e)) (λ e. omega (arith, e)) (λ e. omega (arith, e))

function_begins_no_type : BeginsNoType (codes "spir_func")
function_begins_no_type = begins_no_type (codes "spir_func") (λ e. omega (arith, e)) (λ e. omega (arith, e)) (λ e. omega (arith, e)) (λ e. omega (arith, e)) (λ e. omega (arith, e))

pub no_convention : (names : List NameText) (xs : List Attribute) (t : LlType) (tokens middle rest : List Lexeme) → each (attribute names) xs tokens middle → ty names t middle rest → EndsNowhere call_convention tokens
unfolding is_attribute_word
no_convention names xs t tokens middle rest attributes type b (inl w) =
    no_word_before (codes "spir_kernel") kernel_begins_no_type refl names xs t tokens middle rest attributes type b w
no_convention names xs t tokens middle rest attributes type b (inr w) =
    no_word_before (codes "spir_func") function_begins_no_type refl names xs t tokens middle rest attributes type b w
