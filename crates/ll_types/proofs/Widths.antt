-- Types that begin the same tokens are integers of one width, or neither is an integer.
use Rattle.std.proofs.Common.{◌≡◌, ℕ, true, false, List, length, codes, get_or, refl, sym, ap, ◌∙◌, subst, arith}
use Rattle.ll_tokens.specs.declared.kinds.TokenKind.TheVariants.{Word, Punct, Local as LocalToken}
use Rattle.ll_tokens.specs.Tokens.{Lexeme}
use Rattle.ll_tree.specs.declared.name.NameText.{NameText}
use Rattle.ll_tree.specs.declared.ty.LlType.{LlType}
use Rattle.ll_tree.specs.declared.ty.TypeBase.{TypeBase, Void, Int, Half, Float, Double, Named, Array', Vector', Struct', Packed'}
use Rattle.ll_tree.specs.declared.value.Value.{Value, Local, Global, Int as Number, Bytes, Bool as Truth, Null, Zero, Undef, Poison, Vector' as VectorValue, Array' as ArrayValue, Struct' as StructValue, Packed' as PackedValue, GetElementPtr', Cast'}
use Rattle.ll_tree.specs.Types.{base_width, int_width}
use Rattle.ll_parser.specs.GrammarTypes.{integer_type, pointer, type_base}
use Rattle.ll_parser.specs.GrammarValues.{IsInRange, bits_of_numbers, value}
use Rattle.ll_parser.specs.Productions.{◌>>◌, word, mark, each}
use Rattle.ll_parser.proofs.OneReading.{one_integer_type, one_pointer_list}
use Rattle.ll_parser.proofs.TokenFacts.{same_first}
use Rattle.ll_types.specs.TypeParts.{ty_here}
use Rattle.ll_types.proofs.OneType.{base_one, one_at}
use Rattle.ll_types.proofs.Tokens.{kinds_apart}

pub no_integer : (text : List ℕ) → (105 ≡ get_or text 0 0 → ⊥) → (bits : ℕ) (tokens a b : List Lexeme) → integer_type bits tokens a → word text tokens b → ⊥
no_integer text differ bits tokens a b (l, is, _, (digits, text_l, _, _, _)) (m, is', _, text_m) =
    differ (ap (λ (x : List ℕ). get_or x 0 0) (sym text_l ∙ ap (λ (x : Lexeme). x.text) (same_first l m _ _ (sym is ∙ is')) ∙ text_m))

integer_no_mark : (c bits : ℕ) (tokens a b : List Lexeme) → integer_type bits tokens a → mark c tokens b → ⊥
integer_no_mark c bits tokens a b d m = kinds_apart Word Punct _ _ tokens a b (λ e. cc) d m

width_one : (names other : List NameText) (p q : TypeBase) (ps : List ℕ) (tokens a b : List Lexeme) → type_base names p tokens a → type_base other q tokens b → base_width ps p ≡ base_width ps q
unfolding ◌>>◌
width_one names other (Int i) (Int j) ps tokens a b d e = ap (λ n. base_width ps (Int n)) (one_integer_type i j tokens a b d e).0
width_one names other (Int i) Void ps tokens a b d e = absurd (no_integer (codes "void") (λ q. omega arith) i tokens a b d e)
width_one names other (Int i) Half ps tokens a b d e = absurd (no_integer (codes "half") (λ q. omega arith) i tokens a b d e)
width_one names other (Int i) Float ps tokens a b d e = absurd (no_integer (codes "float") (λ q. omega arith) i tokens a b d e)
width_one names other (Int i) Double ps tokens a b d e = absurd (no_integer (codes "double") (λ q. omega arith) i tokens a b d e)
width_one names other (Int i) (Named name) ps tokens a b d e = absurd (kinds_apart Word LocalToken _ _ tokens a b (λ q. cc) d e)
width_one names other (Int i) (Array' count shape row) ps tokens a b d (m, bracket, _) = absurd (integer_no_mark 91 i tokens a m d bracket)
width_one names other (Int i) (Vector' count shape row) ps tokens a b d (m, bracket, _) = absurd (integer_no_mark 60 i tokens a m d bracket)
width_one names other (Int i) (Struct' shape row) ps tokens a b d (m, bracket, _) = absurd (integer_no_mark 123 i tokens a m d bracket)
width_one names other (Int i) (Packed' shape row) ps tokens a b d (m, bracket, _) = absurd (integer_no_mark 60 i tokens a m d bracket)
width_one names other Void (Int j) ps tokens a b d e = absurd (no_integer (codes "void") (λ q. omega arith) j tokens b a e d)
width_one names other Half (Int j) ps tokens a b d e = absurd (no_integer (codes "half") (λ q. omega arith) j tokens b a e d)
width_one names other Float (Int j) ps tokens a b d e = absurd (no_integer (codes "float") (λ q. omega arith) j tokens b a e d)
width_one names other Double (Int j) ps tokens a b d e = absurd (no_integer (codes "double") (λ q. omega arith) j tokens b a e d)
width_one names other (Named name) (Int j) ps tokens a b d e = absurd (kinds_apart Word LocalToken _ _ tokens b a (λ q. cc) e d)
width_one names other (Array' count shape row) (Int j) ps tokens a b (m, bracket, _) e = absurd (integer_no_mark 91 j tokens b m e bracket)
width_one names other (Vector' count shape row) (Int j) ps tokens a b (m, bracket, _) e = absurd (integer_no_mark 60 j tokens b m e bracket)
width_one names other (Struct' shape row) (Int j) ps tokens a b (m, bracket, _) e = absurd (integer_no_mark 123 j tokens b m e bracket)
width_one names other (Packed' shape row) (Int j) ps tokens a b (m, bracket, _) e = absurd (integer_no_mark 60 j tokens b m e bracket)
width_one names other p q ps tokens a b d e = refl

pub one_width : (names other : List NameText) (t u : LlType) (tokens a b : List Lexeme) → ty_here names t tokens a → ty_here other u tokens b → int_width t ≡ int_width u
unfolding ◌>>◌
one_width names other t u tokens a b ((m, base, ps), none) ((m', base', ps'), none') =
    let same : m' ≡ m = base_one (length tokens) (one_at _) other names u.base t.base tokens m' m (omega arith) base' base in
    let pointers : t.pointers ≡ u.pointers = (one_pointer_list t.pointers u.pointers m a b ps none (subst (λ ls. each pointer u.pointers ls b) same ps') none').0 in
    width_one names other t.base u.base t.pointers tokens m m' base base' ∙ ap (λ xs. base_width xs u.base) pointers

-- only the width of its type matters to a value
pub retyped : (names : List NameText) (v : Value) (t u : LlType) (tokens rest : List Lexeme) → int_width t ≡ int_width u → value names v t tokens rest → value names v u tokens rest
retyped names (Number number) t u tokens rest e (l, is, kind, (reads, range)) = (l, is, kind, (reads, subst (λ w. IsInRange (bits_of_numbers w) number) e range))
retyped names (Local name) t u tokens rest e d = d
retyped names (Global name) t u tokens rest e d = d
retyped names (Bytes bytes) t u tokens rest e d = d
retyped names (Truth true) t u tokens rest e d = d
retyped names (Truth false) t u tokens rest e d = d
retyped names Null t u tokens rest e d = d
retyped names Zero t u tokens rest e d = d
retyped names Undef t u tokens rest e d = d
retyped names Poison t u tokens rest e d = d
retyped names (VectorValue shape row) t u tokens rest e d = d
retyped names (ArrayValue shape row) t u tokens rest e d = d
retyped names (StructValue shape row) t u tokens rest e d = d
retyped names (PackedValue shape row) t u tokens rest e d = d
retyped names (GetElementPtr' inbounds through shape row) t u tokens rest e d = d
retyped names (Cast' kind shape row to) t u tokens rest e d = d
