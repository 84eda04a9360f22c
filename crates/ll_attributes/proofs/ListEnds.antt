-- What stands behind attributes and begins with none: types and values.
use Rattle.std.proofs.Common.{◌≡◌, ℕ, Bool, IsTrue, true, false, true≢false, List, [], ◌∷◌, codes, drop, refl, sym, ap, ◌∙◌, subst, arith}
use Rattle.std.specs.Char.{is_ascii_digit}
use Rattle.std.specs.List.{list_all}
use Rattle.ll_tokens.specs.declared.kinds.TokenKind.TheVariants.{CStr, Global as GlobalToken, Int as IntToken, Local as LocalToken}
use Rattle.ll_tokens.specs.Tokens.{Lexeme}
use Rattle.ll_tree.specs.declared.module.Attribute.{Attribute}
use Rattle.ll_tree.specs.declared.module.AttributeKind.{AttributeKind}
use Rattle.ll_tree.specs.declared.module.AttributeKind.TheVariants.{ZeroExt, SignExt, NoAlias, NoCapture, ReadOnly, ReadNone, WriteOnly, NoUndef, NonNull, InReg, Returned, NoFree, ImmArg, ByVal, SRet, Align, Dereferenceable, DereferenceableOrNull}
use Rattle.ll_tree.specs.declared.name.NameText.{NameText}
use Rattle.ll_tree.specs.declared.op.CastKind.TheVariants.{AddrSpaceCast, Bitcast, IntToPtr, PtrToInt, Sext, Trunc, Zext}
use Rattle.ll_tree.specs.declared.ty.LlType.{LlType}
use Rattle.ll_tree.specs.declared.ty.TypeBase.{TypeBase, Void, Int as IntBase, Half, Float, Double, Named, Array' as ArrayBase, Vector' as VectorBase, Struct' as StructBase, Packed' as PackedBase}
use Rattle.ll_tree.specs.declared.value.Value.{Value, Local, Global, Int, Bytes, Bool as Truth, Null, Zero, Undef, Poison, Vector', Array', Struct', Packed', GetElementPtr', Cast'}
use Rattle.ll_parser.specs.GrammarAttributes.{attribute, attribute_word}
use Rattle.ll_parser.specs.GrammarTypes.{integer_type, type_base}
use Rattle.ll_parser.specs.GrammarValues.{value}
use Rattle.ll_parser.specs.Pointers.{NoPointer}
use Rattle.ll_parser.specs.Productions.{◌>>◌, each, mark}
use Rattle.ll_parser.proofs.TokenFacts.{same_first}
use Rattle.ll_attributes.specs.AttributeParts.{NoAttribute}
use Rattle.ll_attributes.proofs.AttributeFacts.{attribute_no_pointer, no_attribute_at_token, no_attribute_at_word}
use Rattle.ll_attributes.proofs.AttributeWords.{is_attribute_word}
use Rattle.ll_attributes.proofs.FunctionFacts.{punct_no_word}

-- between a type and what follows it attributes begin no pointer
pub attributes_no_pointer : (names : List NameText) (xs : List Attribute) (tokens rest : List Lexeme) → each (attribute names) xs tokens rest → NoPointer rest → NoPointer tokens
unfolding ◌>>◌
attributes_no_pointer names [] tokens rest same none = subst NoPointer (sym same) none
attributes_no_pointer names (a ∷ xs) tokens rest (m, d, more) none = attribute_no_pointer names a tokens m d

pub no_attribute_at_mark : (code : ℕ) (tokens rest : List Lexeme) → mark code tokens rest → NoAttribute tokens
no_attribute_at_mark code tokens rest m = no_attribute_at_token _ _ tokens rest punct_no_word m

-- behind the first byte of an attribute's word there are letters
no_digits : (kind : AttributeKind) → list_all is_ascii_digit (drop 1 (attribute_word kind)) ≡ false
no_digits ZeroExt = refl
no_digits SignExt = refl
no_digits NoAlias = refl
no_digits NoCapture = refl
no_digits ReadOnly = refl
no_digits ReadNone = refl
no_digits WriteOnly = refl
no_digits NoUndef = refl
no_digits NonNull = refl
no_digits InReg = refl
no_digits Returned = refl
no_digits NoFree = refl
no_digits ImmArg = refl
no_digits (ByVal t) = refl
no_digits (SRet t) = refl
no_digits (Align n) = refl
no_digits (Dereferenceable n) = refl
no_digits (DereferenceableOrNull n) = refl

is_true : (b : Bool) → IsTrue b → b ≡ true
is_true b holding = grind arith

no_attribute_at_integer : (bits : ℕ) (tokens rest : List Lexeme) → integer_type bits tokens rest → NoAttribute tokens
no_attribute_at_integer bits tokens rest (l, is, _, (digits, text, all, _, _)) kind other (m, is', _, text') =
    let word : attribute_word kind ≡ 105 ∷ digits = sym text' ∙ ap (λ (t : Lexeme). t.text) (same_first m l _ _ (sym is' ∙ is)) ∙ text in
    true≢false (sym (is_true _ all) ∙ ap (λ (w : List ℕ). list_all is_ascii_digit (drop 1 w)) (sym word) ∙ no_digits kind)

-- types
pub type_no_attribute : (names : List NameText) (base : TypeBase) (tokens rest : List Lexeme) → type_base names base tokens rest → NoAttribute tokens
unfolding ◌>>◌ is_attribute_word
type_no_attribute names Void tokens rest w = no_attribute_at_word (codes "void") tokens rest refl w
type_no_attribute names (IntBase bits) tokens rest w = no_attribute_at_integer bits tokens rest w
type_no_attribute names Half tokens rest w = no_attribute_at_word (codes "half") tokens rest refl w
type_no_attribute names Float tokens rest w = no_attribute_at_word (codes "float") tokens rest refl w
type_no_attribute names Double tokens rest w = no_attribute_at_word (codes "double") tokens rest refl w
type_no_attribute names (Named name) tokens rest n = no_attribute_at_token LocalToken _ tokens rest (λ e. cc) n
type_no_attribute names (ArrayBase count shape part) tokens rest (m, bracket, _) = no_attribute_at_mark 91 tokens m bracket
type_no_attribute names (VectorBase count shape part) tokens rest (m, bracket, _) = no_attribute_at_mark 60 tokens m bracket
type_no_attribute names (StructBase shape row) tokens rest (m, bracket, _) = no_attribute_at_mark 123 tokens m bracket
type_no_attribute names (PackedBase shape row) tokens rest (m, bracket, _) = no_attribute_at_mark 60 tokens m bracket

-- values
pub value_no_attribute : (names : List NameText) (v : Value) (t : LlType) (tokens rest : List Lexeme) → value names v t tokens rest → NoAttribute tokens
unfolding ◌>>◌ is_attribute_word
value_no_attribute names (Local name) t tokens rest n = no_attribute_at_token LocalToken _ tokens rest (λ e. cc) n
value_no_attribute names (Global name) t tokens rest n = no_attribute_at_token GlobalToken _ tokens rest (λ e. cc) n
value_no_attribute names (Int number) t tokens rest n = no_attribute_at_token IntToken _ tokens rest (λ e. cc) n
value_no_attribute names (Bytes bytes) t tokens rest n = no_attribute_at_token CStr _ tokens rest (λ e. cc) n
value_no_attribute names (Truth true) t tokens rest w = no_attribute_at_word (codes "true") tokens rest refl w
value_no_attribute names (Truth false) t tokens rest w = no_attribute_at_word (codes "false") tokens rest refl w
value_no_attribute names Null t tokens rest w = no_attribute_at_word (codes "null") tokens rest refl w
value_no_attribute names Zero t tokens rest w = no_attribute_at_word (codes "zeroinitializer") tokens rest refl w
value_no_attribute names Undef t tokens rest w = no_attribute_at_word (codes "undef") tokens rest refl w
value_no_attribute names Poison t tokens rest w = no_attribute_at_word (codes "poison") tokens rest refl w
value_no_attribute names (Vector' shape parts) t tokens rest (m, bracket, _) = no_attribute_at_mark 60 tokens m bracket
value_no_attribute names (Array' shape parts) t tokens rest (m, bracket, _) = no_attribute_at_mark 91 tokens m bracket
value_no_attribute names (Struct' shape parts) t tokens rest (m, bracket, _) = no_attribute_at_mark 123 tokens m bracket
value_no_attribute names (Packed' shape parts) t tokens rest (m, bracket, _) = no_attribute_at_mark 60 tokens m bracket
value_no_attribute names (GetElementPtr' inbounds through shape operands) t tokens rest (m, w, _) = no_attribute_at_word (codes "getelementptr") tokens m refl w
value_no_attribute names (Cast' Trunc shape operand to) t tokens rest (m, (none, w), _) = absurd none
value_no_attribute names (Cast' Zext shape operand to) t tokens rest (m, (none, w), _) = absurd none
value_no_attribute names (Cast' Sext shape operand to) t tokens rest (m, (none, w), _) = absurd none
value_no_attribute names (Cast' PtrToInt shape operand to) t tokens rest (m, (_, w), _) = no_attribute_at_word (codes "ptrtoint") tokens m refl w
value_no_attribute names (Cast' IntToPtr shape operand to) t tokens rest (m, (_, w), _) = no_attribute_at_word (codes "inttoptr") tokens m refl w
value_no_attribute names (Cast' Bitcast shape operand to) t tokens rest (m, (_, w), _) = no_attribute_at_word (codes "bitcast") tokens m refl w
value_no_attribute names (Cast' AddrSpaceCast shape operand to) t tokens rest (m, (_, w), _) = no_attribute_at_word (codes "addrspacecast") tokens m refl w
