-- With one table of names tokens begin with one type at most.
use Rattle.std.proofs.Common.{◌≡◌, ℕ, zero, suc, Some, slice_get, ◌<◌, ◌≤◌, List, [], ◌∷◌, length, get_or, drop, codes, refl, sym, ap, ap₂, ◌∙◌, subst, arith}
use denote.Hole.Carrier.{hidden}
use Rattle.ll_tokens.specs.declared.kinds.TokenKind.TheVariants.{Punct, Int as IntToken}
use Rattle.ll_tokens.specs.Tokens.{Lexeme}
use Rattle.ll_tree.specs.declared.name.Name.{Name}
use Rattle.ll_tree.specs.declared.name.NameKind.TheVariants.{Struct as StructName}
use Rattle.ll_tree.specs.declared.name.NameText.{NameText}
use Rattle.ll_tree.specs.declared.ty.LlType.{LlType}
use Rattle.ll_tree.specs.declared.ty.TypeBase.{TypeBase, Void, Int, Half, Float, Double, Named as NamedBase, Array as ArrayOf, Vector as VectorOf, Struct as StructOf, Packed as PackedOf, Array', Vector', Struct', Packed', end_of-LlType, more_of-LlType}
use Rattle.ll_tree.specs.declared.ty.TypeBase.TheBlock.{hidden-the_row-LlType-0, shape-the_row-LlType-0}
use Rattle.ll_parser.specs.GrammarTypes.{pointer, type_base, type_name}
use Rattle.ll_parser.specs.Productions.{◌>>◌, word, mark, each, each_behind_comma}
use Rattle.ll_parser.specs.Spellings.{spelling_of}
use Rattle.ll_parser.specs.Tables.{NoNameTwice}
use Rattle.ll_parser.specs.WordTypes.{IsOneWord}
use Rattle.ll_parser.proofs.OneReading.{one_integer_type, one_number, one_pointer_list}
use Rattle.ll_parser.proofs.SpaceFacts.{mark_leaves_one, word_leaves_one}
use Rattle.ll_parser.proofs.TokenFacts.{same_first}
use Rattle.ll_types.specs.declared.openings.TypeOpening.{TypeOpening}
use Rattle.ll_types.specs.declared.openings.TypeOpening.TheVariants.{Array, Vector, Struct, Packed, Named, Plain}
use Rattle.ll_types.specs.declared.types.Counted.{Counted}
use Rattle.ll_types.specs.TypeOpenings.{opens}
use Rattle.ll_types.specs.TypeParts.{ty_here, counted, members}
use Rattle.ll_types.proofs.OneType.{base_one, one_at, type_no_brace, type_one, type_shortens}
use Rattle.ll_types.proofs.Tokens.{kinds_apart, marks_apart, token_shortens}
use Rattle.ll_types.proofs.TypeLists.{all_here}
use Rattle.ll_types.proofs.TypeOpened.{opens_one, part_counted, word_plain}
use Rattle.ll_types.proofs.TypeRows.{packed_from_row, struct_from_row, types_to_list}
use Rattle.ll_types.proofs.Widths.{no_integer}

-- which type stands behind an opening
abbrev made : TypeOpening → List NameText → TypeBase → List Lexeme → List Lexeme → Type 0
made Array names p tokens rest = (c : Counted) × (p ≡ ArrayOf c.count c.part) × counted 93 names c tokens rest
made Vector names p tokens rest = (c : Counted) × (p ≡ VectorOf c.count c.part) × counted 62 names c tokens rest
made Struct names p tokens rest = (ms : List LlType) × (p ≡ StructOf ms) × members names ms tokens rest
made Packed names p tokens rest = (ms : List LlType) × (p ≡ PackedOf ms) × (members names ms >> mark 62) tokens rest
made Named names p tokens rest = (name : Name) × (p ≡ NamedBase name) × type_name names name tokens rest
made Plain names p tokens rest = IsOneWord p × type_base names p tokens rest

record Made (names : List NameText) (p : TypeBase) (tokens rest : List Lexeme) : Type 0 where
  opening : TypeOpening
  inside : List Lexeme
  opened : opens opening tokens inside
  goes_on : made opening names p inside rest

array_is : (count : ℕ) (shape : _) (base : TypeBase) (pointers : List ℕ) → Array' count shape (more_of-LlType base pointers end_of-LlType) ≡ ArrayOf count (record { base = base; pointers = pointers })
unfolding shape-the_row-LlType-0 hidden-the_row-LlType-0 hidden
array_is count shape base pointers = refl

vector_is : (count : ℕ) (shape : _) (base : TypeBase) (pointers : List ℕ) → Vector' count shape (more_of-LlType base pointers end_of-LlType) ≡ VectorOf count (record { base = base; pointers = pointers })
unfolding shape-the_row-LlType-0 hidden-the_row-LlType-0 hidden
vector_is count shape base pointers = refl

made_of : (names : List NameText) (p : TypeBase) (tokens rest : List Lexeme) → type_base names p tokens rest → Made names p tokens rest
unfolding ◌>>◌
made_of names Void tokens rest d = record { opening = Plain; inside = tokens; opened = (refl, word_plain _ tokens rest d); goes_on = (tt, d) }
made_of names (Int bits) tokens rest d = record { opening = Plain; inside = tokens; opened = (refl, word_plain _ tokens rest d); goes_on = (tt, d) }
made_of names Half tokens rest d = record { opening = Plain; inside = tokens; opened = (refl, word_plain _ tokens rest d); goes_on = (tt, d) }
made_of names Float tokens rest d = record { opening = Plain; inside = tokens; opened = (refl, word_plain _ tokens rest d); goes_on = (tt, d) }
made_of names Double tokens rest d = record { opening = Plain; inside = tokens; opened = (refl, word_plain _ tokens rest d); goes_on = (tt, d) }
made_of names (NamedBase name) tokens rest (l, is, kind, spelled) =
    record { opening = Named; inside = tokens; opened = (refl, (rest, (l, is, kind, tt))); goes_on = (name, refl, (l, is, kind, spelled)) }
made_of names (Array' count shape (more_of-LlType base pointers end_of-LlType)) tokens rest (a, bracket, (b, n, (c, x, (e, part, close)))) =
    record { opening = Array; inside = a; opened = bracket; goes_on = (_, array_is count shape base pointers, part_counted 93 names count end_of-LlType base pointers a b c e rest (λ q. omega arith) n x (types_to_list names (more_of-LlType base pointers end_of-LlType) c e part) close) }
made_of names (Vector' count shape (more_of-LlType base pointers end_of-LlType)) tokens rest (a, bracket, (b, n, (c, x, (e, part, close)))) =
    record { opening = Vector; inside = a; opened = (bracket, λ r m. kinds_apart IntToken Punct _ _ a b r (λ q. cc) n m); goes_on = (_, vector_is count shape base pointers, part_counted 62 names count end_of-LlType base pointers a b c e rest (λ q. omega arith) n x (types_to_list names (more_of-LlType base pointers end_of-LlType) c e part) close) }
made_of names (Struct' shape row) tokens rest (a, bracket, (e, parts, close)) =
    record { opening = Struct; inside = a; opened = bracket; goes_on = (_, struct_from_row shape row, (e, all_here names _ 125 a e rest (λ q. omega arith) (types_to_list names row a e parts) close, close)) }
made_of names (Packed' shape row) tokens rest (a, angle, (b, bracket, (e, parts, (f, close, end)))) =
    record { opening = Packed; inside = b; opened = (a, angle, bracket); goes_on = (_, packed_from_row shape row, (f, (e, all_here names _ 125 b e f (λ q. omega arith) (types_to_list names row b e parts) close, close), end)) }

-- types of one word
words_differ : (u w : List ℕ) → (get_or u 0 0 ≡ get_or w 0 0 → ⊥) → (tokens a b : List Lexeme) → word u tokens a → word w tokens b → ⊥
words_differ u w differ tokens a b (l, is, _, text_l) (m, is', _, text_m) =
    differ (ap (λ (x : List ℕ). get_or x 0 0) (sym text_l ∙ ap (λ (x : Lexeme). x.text) (same_first l m _ _ (sym is ∙ is')) ∙ text_m))

plain_same : (names : List NameText) (p q : TypeBase) (tokens a b : List Lexeme) → IsOneWord p → IsOneWord q → type_base names p tokens a → type_base names q tokens b → p ≡ q
plain_same names Void Void tokens a b x y d e = refl
plain_same names Half Half tokens a b x y d e = refl
plain_same names Float Float tokens a b x y d e = refl
plain_same names Double Double tokens a b x y d e = refl
plain_same names (Int i) (Int j) tokens a b x y d e = ap Int (one_integer_type i j tokens a b d e).0
plain_same names Void Half tokens a b x y d e = absurd (words_differ (codes "void") (codes "half") (λ q. omega arith) tokens a b d e)
plain_same names Void Float tokens a b x y d e = absurd (words_differ (codes "void") (codes "float") (λ q. omega arith) tokens a b d e)
plain_same names Void Double tokens a b x y d e = absurd (words_differ (codes "void") (codes "double") (λ q. omega arith) tokens a b d e)
plain_same names Void (Int j) tokens a b x y d e = absurd (no_integer (codes "void") (λ q. omega arith) j tokens b a e d)
plain_same names (Int i) Void tokens a b x y d e = absurd (no_integer (codes "void") (λ q. omega arith) i tokens a b d e)
plain_same names Half Void tokens a b x y d e = absurd (words_differ (codes "half") (codes "void") (λ q. omega arith) tokens a b d e)
plain_same names Half Float tokens a b x y d e = absurd (words_differ (codes "half") (codes "float") (λ q. omega arith) tokens a b d e)
plain_same names Half Double tokens a b x y d e = absurd (words_differ (codes "half") (codes "double") (λ q. omega arith) tokens a b d e)
plain_same names Half (Int j) tokens a b x y d e = absurd (no_integer (codes "half") (λ q. omega arith) j tokens b a e d)
plain_same names (Int i) Half tokens a b x y d e = absurd (no_integer (codes "half") (λ q. omega arith) i tokens a b d e)
plain_same names Float Void tokens a b x y d e = absurd (words_differ (codes "float") (codes "void") (λ q. omega arith) tokens a b d e)
plain_same names Float Half tokens a b x y d e = absurd (words_differ (codes "float") (codes "half") (λ q. omega arith) tokens a b d e)
plain_same names Float Double tokens a b x y d e = absurd (words_differ (codes "float") (codes "double") (λ q. omega arith) tokens a b d e)
plain_same names Float (Int j) tokens a b x y d e = absurd (no_integer (codes "float") (λ q. omega arith) j tokens b a e d)
plain_same names (Int i) Float tokens a b x y d e = absurd (no_integer (codes "float") (λ q. omega arith) i tokens a b d e)
plain_same names Double Void tokens a b x y d e = absurd (words_differ (codes "double") (codes "void") (λ q. omega arith) tokens a b d e)
plain_same names Double Half tokens a b x y d e = absurd (words_differ (codes "double") (codes "half") (λ q. omega arith) tokens a b d e)
plain_same names Double Float tokens a b x y d e = absurd (words_differ (codes "double") (codes "float") (λ q. omega arith) tokens a b d e)
plain_same names Double (Int j) tokens a b x y d e = absurd (no_integer (codes "double") (λ q. omega arith) j tokens b a e d)
plain_same names (Int i) Double tokens a b x y d e = absurd (no_integer (codes "double") (λ q. omega arith) i tokens a b d e)
plain_same names (NamedBase name) q tokens a b x y d e = absurd x
plain_same names (Array' count shape row) q tokens a b x y d e = absurd x
plain_same names (Vector' count shape row) q tokens a b x y d e = absurd x
plain_same names (Struct' shape row) q tokens a b x y d e = absurd x
plain_same names (Packed' shape row) q tokens a b x y d e = absurd x
plain_same names Void (NamedBase name) tokens a b x y d e = absurd y
plain_same names Void (Array' count shape row) tokens a b x y d e = absurd y
plain_same names Void (Vector' count shape row) tokens a b x y d e = absurd y
plain_same names Void (Struct' shape row) tokens a b x y d e = absurd y
plain_same names Void (Packed' shape row) tokens a b x y d e = absurd y
plain_same names Half (NamedBase name) tokens a b x y d e = absurd y
plain_same names Half (Array' count shape row) tokens a b x y d e = absurd y
plain_same names Half (Vector' count shape row) tokens a b x y d e = absurd y
plain_same names Half (Struct' shape row) tokens a b x y d e = absurd y
plain_same names Half (Packed' shape row) tokens a b x y d e = absurd y
plain_same names Float (NamedBase name) tokens a b x y d e = absurd y
plain_same names Float (Array' count shape row) tokens a b x y d e = absurd y
plain_same names Float (Vector' count shape row) tokens a b x y d e = absurd y
plain_same names Float (Struct' shape row) tokens a b x y d e = absurd y
plain_same names Float (Packed' shape row) tokens a b x y d e = absurd y
plain_same names Double (NamedBase name) tokens a b x y d e = absurd y
plain_same names Double (Array' count shape row) tokens a b x y d e = absurd y
plain_same names Double (Vector' count shape row) tokens a b x y d e = absurd y
plain_same names Double (Struct' shape row) tokens a b x y d e = absurd y
plain_same names Double (Packed' shape row) tokens a b x y d e = absurd y
plain_same names (Int i) (NamedBase name) tokens a b x y d e = absurd y
plain_same names (Int i) (Array' count shape row) tokens a b x y d e = absurd y
plain_same names (Int i) (Vector' count shape row) tokens a b x y d e = absurd y
plain_same names (Int i) (Struct' shape row) tokens a b x y d e = absurd y
plain_same names (Int i) (Packed' shape row) tokens a b x y d e = absurd y

module _ (names : List NameText) (once : NoNameTwice names) where
  name_same : (x y : Name) (tokens a b : List Lexeme) → type_name names x tokens a → type_name names y tokens b → x ≡ y
  name_same x y tokens a b (l, is, _, (byte_x, (_, at_x))) (m, is', _, (byte_y, (_, at_y))) =
      let same : l ≡ m = same_first l m _ _ (sym is ∙ is') in
      let bytes : x.byte ≡ y.byte = byte_x ∙ ap (λ (t : Lexeme). t.byte) same ∙ sym byte_y in
      ap₂ (λ n k. record { number = n; byte = k }) (once x.number y.number _ at_x (subst (λ (t : Lexeme). slice_get names y.number ≡ Some (record { kind = StructName; spelling = spelling_of (drop 1 t.text) })) (sym same) at_y)) bytes

  -- types of so many tokens are one
  abbrev Same : ℕ → Type 0
  Same n = (t u : LlType) (tokens a b : List Lexeme) → length tokens ≤ n → ty_here names t tokens a → ty_here names u tokens b → t ≡ u

  module _ (n : ℕ) (alike : Same n) where
    behind_same : (ts us : List LlType) (tokens end end' a b : List Lexeme) → length tokens ≤ n → each_behind_comma (ty_here names) ts tokens end → mark 125 end a → each_behind_comma (ty_here names) us tokens end' → mark 125 end' b → ts ≡ us
    unfolding ◌>>◌
    behind_same [] [] tokens end end' a b le d close e close' = refl
    behind_same [] (u ∷ us) tokens end end' a b le same close (k, comma, _) close' = absurd (marks_apart 44 125 tokens k a (λ q. omega arith) comma (subst (λ ls. mark 125 ls a) (sym same) close))
    behind_same (t ∷ ts) [] tokens end end' a b le (k, comma, _) close same close' = absurd (marks_apart 44 125 tokens k b (λ q. omega arith) comma (subst (λ ls. mark 125 ls b) (sym same) close'))
    behind_same (t ∷ ts) (u ∷ us) tokens end end' a b le (k, comma, (l, d, more)) close (k', comma', (l', e, more')) close' =
        let same : k' ≡ k = mark_leaves_one 44 tokens k' k comma' comma in
        let here : ty_here names u k l' = subst (λ ls. ty_here names u ls l') same e in
        let same' : l' ≡ l = type_one names names u t k l' l here d in
        let shorter : length k < length tokens = (token_shortens _ _ tokens k comma).less in
        let less : length l < length k = (type_shortens names t k l d).less in
        ap₂ (λ x xs. x ∷ xs) (alike t u k l l' (omega arith) d here) (behind_same ts us l end end' a b (omega arith) more close (subst (λ ls. each_behind_comma (ty_here names) us ls end') same' more') close')

    members_same : (ts us : List LlType) (tokens a b : List Lexeme) → length tokens ≤ n → members names ts tokens a → members names us tokens b → ts ≡ us
    unfolding ◌>>◌
    members_same [] [] tokens a b le d e = refl
    members_same [] (u ∷ us) tokens a b le (m, same, close) (m', (k, e, more), close') = absurd (type_no_brace names u tokens k a e (subst (λ ls. mark 125 ls a) (sym same) close))
    members_same (t ∷ ts) [] tokens a b le (m, (k, d, more), close) (m', same, close') = absurd (type_no_brace names t tokens k b d (subst (λ ls. mark 125 ls b) (sym same) close'))
    members_same (t ∷ ts) (u ∷ us) tokens a b le (m, (k, d, more), close) (m', (k', e, more'), close') =
        let same : k' ≡ k = type_one names names u t tokens k' k e d in
        let less : length k < length tokens = (type_shortens names t tokens k d).less in
        ap₂ (λ x xs. x ∷ xs) (alike t u tokens k k' le d e) (behind_same ts us k m m' a b (omega arith) more close (subst (λ ls. each_behind_comma (ty_here names) us ls m') same more') close')

    counted_same : (code : ℕ) (c e : Counted) (tokens a b : List Lexeme) → length tokens ≤ n → counted code names c tokens a → counted code names e tokens b → (c.count ≡ e.count) × (c.part ≡ e.part)
    unfolding ◌>>◌
    counted_same code c e tokens a b le (p, n_p, (q, x_q, (r, d, close))) (p', n_p', (q', x_q', (r', d', close'))) =
        let number_same : (c.count ≡ e.count) × (p ≡ p') = one_number c.count e.count tokens p p' n_p n_p' in
        let same_q : q' ≡ q = word_leaves_one _ p q' q (subst (λ ls. word (codes "x") ls q') (sym number_same.1) x_q') x_q in
        let less_p : length p < length tokens = (token_shortens _ _ tokens p n_p).less in
        let less_q : length q < length p = (token_shortens _ _ p q x_q).less in
        (number_same.0, alike c.part e.part q r r' (omega arith) d (subst (λ ls. ty_here names e.part ls r') same_q d'))

    made_same : (o : TypeOpening) (p q : TypeBase) (tokens inside a b : List Lexeme) → length tokens ≤ suc n → opens o tokens inside → made o names p inside a → made o names q inside b → p ≡ q
    unfolding ◌>>◌
    made_same Array p q tokens inside a b le m (c, is, d) (e, is', f) =
        let less : length inside < length tokens = (token_shortens _ _ tokens inside m).less in
        let same : (c.count ≡ e.count) × (c.part ≡ e.part) = counted_same 93 c e inside a b (omega arith) d f in
        is ∙ ap₂ ArrayOf same.0 same.1 ∙ sym is'
    made_same Vector p q tokens inside a b le m (c, is, d) (e, is', f) =
        let less : length inside < length tokens = (token_shortens _ _ tokens inside m.0).less in
        let same : (c.count ≡ e.count) × (c.part ≡ e.part) = counted_same 62 c e inside a b (omega arith) d f in
        is ∙ ap₂ VectorOf same.0 same.1 ∙ sym is'
    made_same Struct p q tokens inside a b le m (ts, is, d) (us, is', f) =
        let less : length inside < length tokens = (token_shortens _ _ tokens inside m).less in
        is ∙ ap StructOf (members_same ts us inside a b (omega arith) d f) ∙ sym is'
    made_same Packed p q tokens inside a b le (k, angle, brace) (ts, is, (x, d, end)) (us, is', (y, f, end')) =
        let less_k : length k < length tokens = (token_shortens _ _ tokens k angle).less in
        let less : length inside < length k = (token_shortens _ _ k inside brace).less in
        is ∙ ap PackedOf (members_same ts us inside x y (omega arith) d f) ∙ sym is'
    made_same Named p q tokens inside a b le m (x, is, d) (y, is', f) = is ∙ ap NamedBase (name_same x y inside a b d f) ∙ sym is'
    made_same Plain p q tokens inside a b le m (x, d) (y, f) = plain_same names p q inside a b x y d f

    base_same : (p q : TypeBase) (tokens a b : List Lexeme) → length tokens ≤ suc n → type_base names p tokens a → type_base names q tokens b → p ≡ q
    base_same p q tokens a b le d e =
        let f : Made names p tokens a = made_of names p tokens a d in
        let g : Made names q tokens b = made_of names q tokens b e in
        let same : (g.opening ≡ f.opening) × (g.inside ≡ f.inside) = opens_one g.opening f.opening tokens g.inside f.inside g.opened f.opened in
        made_same f.opening p q tokens f.inside a b le f.opened f.goes_on (subst (λ o. made o names q f.inside b) same.0 (subst (λ ls. made g.opening names q ls b) same.1 g.goes_on))

  alike_up_to : (n : ℕ) → Same n
  unfolding ◌>>◌
  alike_up_to zero t u tokens a b le d e =
      let less : length a < length tokens = (type_shortens names t tokens a d).less in absurd (omega arith)
  alike_up_to (suc n) t u tokens a b le ((m, base, ps), none) ((m', base', ps'), none') =
      let same : m' ≡ m = base_one (length tokens) (one_at _) names names u.base t.base tokens m' m (omega arith) base' base in
      let pointers : t.pointers ≡ u.pointers = (one_pointer_list t.pointers u.pointers m a b ps none (subst (λ ls. each pointer u.pointers ls b) same ps') none').0 in
      ap₂ (λ x xs. record { base = x; pointers = xs }) (base_same n (alike_up_to n) t.base u.base tokens m m' le base base') pointers

  pub types_alike : (t u : LlType) (tokens a b : List Lexeme) → ty_here names t tokens a → ty_here names u tokens b → (t ≡ u) × (a ≡ b)
  types_alike t u tokens a b d e = (alike_up_to (length tokens) t u tokens a b (omega arith) d e, type_one names names t u tokens a b d e)
