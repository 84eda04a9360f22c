-- What stands behind the opening of a value.
use Rattle.std.proofs.Common.{◌≡◌, ℕ, ◌+◌, ◌*◌, ◌≤◌, ◌⊎◌, Bool, true, false, true≢false, nat_eq, eq-eqb, List, [], ◌∷◌, length, drop, get_or, codes, refl, sym, ap, ◌∙◌, subst, inl, inr, arith}
use Rattle.ll_tokens.specs.declared.kinds.TokenKind.{TokenKind}
use Rattle.ll_tokens.specs.declared.kinds.TokenKind.TheVariants.{Word, Punct, Int as IntToken, Local as LocalToken, Global as GlobalToken, CStr}
use Rattle.ll_tokens.specs.Tokens.{Lexeme}
use Rattle.ll_tree.specs.declared.name.NameText.{NameText}
use Rattle.ll_tree.specs.declared.op.CastKind.{CastKind}
use Rattle.ll_tree.specs.declared.op.CastKind.TheVariants.{Trunc, Zext, Sext, PtrToInt, IntToPtr, Bitcast, AddrSpaceCast}
use Rattle.ll_tree.specs.declared.ty.LlType.{LlType}
use Rattle.ll_tree.specs.declared.value.TypedValue.{TypedValue}
use Rattle.ll_tree.specs.declared.value.Value.{Value, Local, Global, Int, Bytes, Bool as Truth, Null, Zero, Undef, Poison, Vector', Array', Struct', Packed', GetElementPtr', Cast', end_of-TypedValue, more_of-TypedValue}
use Rattle.ll_parser.specs.GrammarTypes.{ty}
use Rattle.ll_parser.specs.GrammarValues.{IsOfConstants, cast_word, if_word, typed, value, values}
use Rattle.ll_parser.specs.NameReading.{any_of}
use Rattle.ll_parser.specs.Pointers.{NoPointer}
use Rattle.ll_parser.specs.Productions.{Production, ◌>>◌, token, word, mark, each_behind_comma}
use Rattle.ll_parser.proofs.PointerFacts.{word_no_mark}
use Rattle.ll_parser.proofs.SpaceFacts.{mark_leaves_one, word_leaves_one}
use Rattle.ll_parser.proofs.TokenFacts.{same_first}
use Rattle.ll_types.specs.declared.values.Conversion.{Conversion}
use Rattle.ll_types.specs.declared.values.Path.{Path}
use Rattle.ll_types.specs.SingleValues.{single}
use Rattle.ll_types.specs.ValueOpenings.{OpensSingle, cast_opening}
use Rattle.ll_types.specs.ValueParts.{conversion, parts, path}
use Rattle.ll_types.proofs.SingleFacts.{kind_of, single_token}
use Rattle.ll_types.proofs.Tokens.{kinds_apart, marks_apart, mark_no_pointer}
use Rattle.ll_types.proofs.ValueRows.{behind_to_list, count_is, values_to_list}

-- what a value begins with
pub data Form : Type 0 where
  arrays : Form
  structs : Form
  angles : Form
  paths : Form
  casts : Form
  singles : Form

abbrev pub forms : Form → Production
forms arrays tokens rest = mark 91 tokens rest
forms structs tokens rest = mark 123 tokens rest
forms angles tokens rest = mark 60 tokens rest
forms paths tokens rest = word (codes "getelementptr") tokens rest
forms casts tokens rest = cast_opening tokens rest
forms singles tokens rest = (tokens ≡ rest) × OpensSingle tokens

-- behind a `<`, whatever value it is
abbrev pub lanes_or_members : List NameText → List Lexeme → List Lexeme → Type 0
lanes_or_members names tokens rest =
    (vs : List TypedValue) × (parts 62 names vs tokens rest ⊎ (mark 123 >> parts 125 names vs >> mark 62) tokens rest)

abbrev pub inside_form : Form → LlType → List NameText → List Lexeme → List Lexeme → Type 0
inside_form arrays t names tokens rest = (vs : List TypedValue) × parts 93 names vs tokens rest
inside_form structs t names tokens rest = (vs : List TypedValue) × parts 125 names vs tokens rest
inside_form angles t names tokens rest = lanes_or_members names tokens rest
inside_form paths t names tokens rest = (p : Path) × path names p tokens rest
inside_form casts t names tokens rest = (c : Conversion) × conversion names c tokens rest
inside_form singles t names tokens rest = (v : Value) × single t names v tokens rest

pub record Formed (t : LlType) (names : List NameText) (tokens rest : List Lexeme) : Type 0 where
  pub form : Form
  pub inside : List Lexeme
  pub formed : forms form tokens inside
  pub goes_on : inside_form form t names inside rest

-- two words that differ in their first byte or in their length
abbrev seen : List ℕ → ℕ
seen text = get_or text 0 0 + 256 * length text

apart : (u w : List ℕ) → nat_eq (seen u) (seen w) ≡ false → u ≡ w → ⊥
apart u w differ e = true≢false (sym (eq-eqb _ _ (ap seen e)) ∙ differ)

words_apart : (u w : List ℕ) (tokens a b : List Lexeme) → (u ≡ w → ⊥) → word u tokens a → word w tokens b → ⊥
words_apart u w tokens a b differ (l, is, _, text_l) (m, is', _, text_m) =
    differ (sym text_l ∙ ap (λ (x : Lexeme). x.text) (same_first l m _ _ (sym is ∙ is')) ∙ text_m)

cast_apart : (text : List ℕ) → (text ≡ codes "ptrtoint" → ⊥) → (text ≡ codes "inttoptr" → ⊥) → (text ≡ codes "bitcast" → ⊥) → (text ≡ codes "addrspacecast" → ⊥) → (tokens a b : List Lexeme) → word text tokens a → cast_opening tokens b → ⊥
cast_apart text p i b s tokens a c w (Trunc, none, x) = none
cast_apart text p i b s tokens a c w (Zext, none, x) = none
cast_apart text p i b s tokens a c w (Sext, none, x) = none
cast_apart text p i b s tokens a c w (PtrToInt, one, x) = words_apart text _ tokens a c p w x
cast_apart text p i b s tokens a c w (IntToPtr, one, x) = words_apart text _ tokens a c i w x
cast_apart text p i b s tokens a c w (Bitcast, one, x) = words_apart text _ tokens a c b w x
cast_apart text p i b s tokens a c w (AddrSpaceCast, one, x) = words_apart text _ tokens a c s w x

-- a word that opens nothing
word_single : (text : List ℕ) → (text ≡ codes "getelementptr" → ⊥) → (text ≡ codes "ptrtoint" → ⊥) → (text ≡ codes "inttoptr" → ⊥) → (text ≡ codes "bitcast" → ⊥) → (text ≡ codes "addrspacecast" → ⊥) → (tokens rest : List Lexeme) → word text tokens rest → OpensSingle tokens
word_single text g p i b s tokens rest w = record {
  no_array = λ r m. word_no_mark text 91 tokens rest r w m;
  no_angle = λ r m. word_no_mark text 60 tokens rest r w m;
  no_brace = λ r m. word_no_mark text 123 tokens rest r w m;
  no_path = λ r x. words_apart text (codes "getelementptr") tokens rest r g w x;
  no_cast = λ r x. cast_apart text p i b s tokens rest r w x;
}

cast_kind : (tokens a : List Lexeme) → cast_opening tokens a → any_of Word tokens a
cast_kind tokens a (kind, one, (l, is, k, text)) = (l, is, k, tt)

-- a token that is neither a word nor a mark
other_single : (k : TokenKind) (test : Lexeme → Type 0) (tokens rest : List Lexeme) → (k ≡ Punct → ⊥) → (k ≡ Word → ⊥) → token k test tokens rest → OpensSingle tokens
other_single k test tokens rest punct word_kind d = record {
  no_array = λ r m. kinds_apart k Punct _ _ tokens rest r punct d m;
  no_angle = λ r m. kinds_apart k Punct _ _ tokens rest r punct d m;
  no_brace = λ r m. kinds_apart k Punct _ _ tokens rest r punct d m;
  no_path = λ r m. kinds_apart k Word _ _ tokens rest r word_kind d m;
  no_cast = λ r m. kinds_apart k Word _ _ tokens rest r word_kind d (cast_kind tokens r m);
}

word_no_pointer : (text : List ℕ) (tokens rest : List Lexeme) → (text ≡ codes "addrspace" → ⊥) → word text tokens rest → NoPointer tokens
word_no_pointer text tokens rest differ w = record {
  no_space = λ r s. words_apart text (codes "addrspace") tokens rest r differ w s;
  no_star = λ r m. word_no_mark text 42 tokens rest r w m;
}

other_no_pointer : (k : TokenKind) (test : Lexeme → Type 0) (tokens rest : List Lexeme) → (k ≡ Punct → ⊥) → (k ≡ Word → ⊥) → token k test tokens rest → NoPointer tokens
other_no_pointer k test tokens rest punct word_kind d = record {
  no_space = λ r m. kinds_apart k Word _ _ tokens rest r word_kind d m;
  no_star = λ r m. kinds_apart k Punct _ _ tokens rest r punct d m;
}

single_no_pointer : (t : LlType) (names : List NameText) (v : Value) (tokens rest : List Lexeme) → single t names v tokens rest → NoPointer tokens
single_no_pointer t names (Local name) tokens rest d = other_no_pointer LocalToken _ tokens rest (λ e. cc) (λ e. cc) d.1
single_no_pointer t names (Global name) tokens rest d = other_no_pointer GlobalToken _ tokens rest (λ e. cc) (λ e. cc) d.1
single_no_pointer t names (Int number) tokens rest d = other_no_pointer IntToken _ tokens rest (λ e. cc) (λ e. cc) d.1
single_no_pointer t names (Bytes bytes) tokens rest d = other_no_pointer CStr _ tokens rest (λ e. cc) (λ e. cc) d.1
single_no_pointer t names (Truth true) tokens rest d = word_no_pointer (codes "true") tokens rest (apart _ _ refl) d.1
single_no_pointer t names (Truth false) tokens rest d = word_no_pointer (codes "false") tokens rest (apart _ _ refl) d.1
single_no_pointer t names Null tokens rest d = word_no_pointer (codes "null") tokens rest (apart _ _ refl) d.1
single_no_pointer t names Zero tokens rest d = word_no_pointer (codes "zeroinitializer") tokens rest (apart _ _ refl) d.1
single_no_pointer t names Undef tokens rest d = word_no_pointer (codes "undef") tokens rest (apart _ _ refl) d.1
single_no_pointer t names Poison tokens rest d = word_no_pointer (codes "poison") tokens rest (apart _ _ refl) d.1
single_no_pointer t names (Vector' shape row) tokens rest d = absurd d.0
single_no_pointer t names (Array' shape row) tokens rest d = absurd d.0
single_no_pointer t names (Struct' shape row) tokens rest d = absurd d.0
single_no_pointer t names (Packed' shape row) tokens rest d = absurd d.0
single_no_pointer t names (GetElementPtr' inbounds through shape row) tokens rest d = absurd d.0
single_no_pointer t names (Cast' kind shape row to) tokens rest d = absurd d.0

-- no value begins where a pointer could go on
pub form_no_pointer : (t : LlType) (names : List NameText) (f : Form) (tokens inside rest : List Lexeme) → forms f tokens inside → inside_form f t names inside rest → NoPointer tokens
form_no_pointer t names arrays tokens inside rest m d = mark_no_pointer 91 tokens inside (λ e. omega arith) m
form_no_pointer t names structs tokens inside rest m d = mark_no_pointer 123 tokens inside (λ e. omega arith) m
form_no_pointer t names angles tokens inside rest m d = mark_no_pointer 60 tokens inside (λ e. omega arith) m
form_no_pointer t names paths tokens inside rest w d = word_no_pointer (codes "getelementptr") tokens inside (apart _ _ refl) w
form_no_pointer t names casts tokens inside rest (kind, one, w) d = of_cast kind one w
  where
    of_cast : (kind : CastKind) → IsOfConstants kind → word (cast_word kind) tokens inside → NoPointer tokens
    of_cast Trunc one w = absurd one
    of_cast Zext one w = absurd one
    of_cast Sext one w = absurd one
    of_cast PtrToInt one w = word_no_pointer (codes "ptrtoint") tokens inside (apart _ _ refl) w
    of_cast IntToPtr one w = word_no_pointer (codes "inttoptr") tokens inside (apart _ _ refl) w
    of_cast Bitcast one w = word_no_pointer (codes "bitcast") tokens inside (apart _ _ refl) w
    of_cast AddrSpaceCast one w = word_no_pointer (codes "addrspacecast") tokens inside (apart _ _ refl) w
form_no_pointer t names singles tokens inside rest (same, none) (v, d) = subst NoPointer (sym same) (single_no_pointer t names v inside rest d)

-- an operand of a conversion
cast_inside : (names : List NameText) (v : Value) (u to : LlType) (tokens a b c d rest : List Lexeme) → mark 40 tokens a → (ty names u >> value names v u) a b → word (codes "to") b c → ty names to c d → mark 41 d rest → conversion names (record { operand = record { ty = u; value = v }; to = to }) tokens rest
unfolding ◌>>◌
cast_inside names v u to tokens a b c d rest bracket operand w target close =
    (a, bracket, (b, operand, (c, w, (d, (target, mark_no_pointer 41 d rest (λ e. omega arith) close), close))))

at_least : (m n k : ℕ) → m ≡ n → k ≤ m → k ≤ n
at_least m n k e le = omega arith

-- the operands of a `getelementptr`
follows_type : (names : List NameText) (vs : List TypedValue) (tokens end rest : List Lexeme) → each_behind_comma (typed names) vs tokens end → mark 41 end rest → NoPointer tokens
unfolding ◌>>◌
follows_type names [] tokens end rest same close = mark_no_pointer 41 tokens rest (λ e. omega arith) (subst (λ ls. mark 41 ls rest) (sym same) close)
follows_type names (v ∷ vs) tokens end rest (a, comma, _) close = mark_no_pointer 44 tokens a (λ e. omega arith) comma

path_inside : (names : List NameText) (inbounds : Bool) (through : LlType) (vs : List TypedValue) (tokens a b c d rest : List Lexeme) → if_word (codes "inbounds") inbounds tokens a → mark 40 a b → ty names through b c → 2 ≤ length vs → each_behind_comma (typed names) vs c d → mark 41 d rest → path names (record { inbounds = inbounds; through = through; operands = vs }) tokens rest
unfolding ◌>>◌
path_inside names inbounds through vs tokens a b c d rest w bracket t two more close =
    (a, w, (b, bracket, (c, (t, follows_type names vs c d rest more close), (d, (two, more), close))))

cast_one : (names : List NameText) (u : LlType) (v : Value) (to : LlType) (tokens a b c d rest : List Lexeme) → mark 40 tokens a → values names (more_of-TypedValue u v end_of-TypedValue) a b → word (codes "to") b c → ty names to c d → mark 41 d rest → conversion names (record { operand = record { ty = u; value = v }; to = to }) tokens rest
unfolding ◌>>◌
cast_one names u v to tokens a b c d rest bracket (p, t, (q, x, same)) w target close =
    cast_inside names v u to tokens a b c d rest bracket (p, t, subst (λ ls. value names v u p ls) same x) w target close

pub formed_value : (t : LlType) (names : List NameText) (v : Value) (tokens rest : List Lexeme) → value names v t tokens rest → Formed t names tokens rest
unfolding ◌>>◌
formed_value t names (Local name) tokens rest d = record { form = singles; inside = tokens; formed = (refl, other_single LocalToken _ tokens rest (λ e. cc) (λ e. cc) d); goes_on = ((Local name), (tt, d)) }
formed_value t names (Global name) tokens rest d = record { form = singles; inside = tokens; formed = (refl, other_single GlobalToken _ tokens rest (λ e. cc) (λ e. cc) d); goes_on = ((Global name), (tt, d)) }
formed_value t names (Int number) tokens rest d = record { form = singles; inside = tokens; formed = (refl, other_single IntToken _ tokens rest (λ e. cc) (λ e. cc) d); goes_on = ((Int number), (tt, d)) }
formed_value t names (Bytes bytes) tokens rest d = record { form = singles; inside = tokens; formed = (refl, other_single CStr _ tokens rest (λ e. cc) (λ e. cc) d); goes_on = ((Bytes bytes), (tt, d)) }
formed_value t names (Truth true) tokens rest d = record { form = singles; inside = tokens; formed = (refl, word_single (codes "true") (apart _ _ refl) (apart _ _ refl) (apart _ _ refl) (apart _ _ refl) (apart _ _ refl) tokens rest d); goes_on = ((Truth true), (tt, d)) }
formed_value t names (Truth false) tokens rest d = record { form = singles; inside = tokens; formed = (refl, word_single (codes "false") (apart _ _ refl) (apart _ _ refl) (apart _ _ refl) (apart _ _ refl) (apart _ _ refl) tokens rest d); goes_on = ((Truth false), (tt, d)) }
formed_value t names Null tokens rest d = record { form = singles; inside = tokens; formed = (refl, word_single (codes "null") (apart _ _ refl) (apart _ _ refl) (apart _ _ refl) (apart _ _ refl) (apart _ _ refl) tokens rest d); goes_on = (Null, (tt, d)) }
formed_value t names Zero tokens rest d = record { form = singles; inside = tokens; formed = (refl, word_single (codes "zeroinitializer") (apart _ _ refl) (apart _ _ refl) (apart _ _ refl) (apart _ _ refl) (apart _ _ refl) tokens rest d); goes_on = (Zero, (tt, d)) }
formed_value t names Undef tokens rest d = record { form = singles; inside = tokens; formed = (refl, word_single (codes "undef") (apart _ _ refl) (apart _ _ refl) (apart _ _ refl) (apart _ _ refl) (apart _ _ refl) tokens rest d); goes_on = (Undef, (tt, d)) }
formed_value t names Poison tokens rest d = record { form = singles; inside = tokens; formed = (refl, word_single (codes "poison") (apart _ _ refl) (apart _ _ refl) (apart _ _ refl) (apart _ _ refl) (apart _ _ refl) tokens rest d); goes_on = (Poison, (tt, d)) }
formed_value t names (Array' shape row) tokens rest (a, bracket, (e, more, close)) =
    record { form = arrays; inside = a; formed = bracket; goes_on = (_, (e, values_to_list names row a e more, close)) }
formed_value t names (Struct' shape row) tokens rest (a, bracket, (e, more, close)) =
    record { form = structs; inside = a; formed = bracket; goes_on = (_, (e, values_to_list names row a e more, close)) }
formed_value t names (Vector' shape row) tokens rest (a, bracket, (e, more, close)) =
    record { form = angles; inside = a; formed = bracket; goes_on = (_, inl (e, values_to_list names row a e more, close)) }
formed_value t names (Packed' shape row) tokens rest (a, bracket, (b, brace, (e, more, (f, close, end)))) =
    record { form = angles; inside = a; formed = bracket; goes_on = (_, inr (b, brace, (f, (e, values_to_list names row b e more, close), end))) }
formed_value t names (GetElementPtr' inbounds through shape row) tokens rest (a, w, (b, i, (c, bracket, (d, ty_d, (e, more, close))))) =
    record { form = paths; inside = a; formed = w; goes_on = (_, path_inside names inbounds through _ a b c d e rest i bracket ty_d (at_least _ _ 2 (count_is row) more.0) (behind_to_list names row d e more.1) close) }
formed_value t names (Cast' kind shape (more_of-TypedValue u v end_of-TypedValue) to) tokens rest (a, w, (b, bracket, (c, operand, (d, to_word, (e, target, close))))) =
    record { form = casts; inside = a; formed = (kind, w.0, w.1); goes_on = (_, cast_one names u v to a b c d e rest bracket operand to_word target close) }

arrays_no_structs : (tokens a b : List Lexeme) → forms arrays tokens a → forms structs tokens b → ⊥
arrays_no_structs tokens a b d e = marks_apart 91 123 tokens a b (λ q. omega arith) d e

arrays_no_angles : (tokens a b : List Lexeme) → forms arrays tokens a → forms angles tokens b → ⊥
arrays_no_angles tokens a b d e = marks_apart 91 60 tokens a b (λ q. omega arith) d e

arrays_no_paths : (tokens a b : List Lexeme) → forms arrays tokens a → forms paths tokens b → ⊥
arrays_no_paths tokens a b d e = word_no_mark _ 91 tokens b a e d

arrays_no_casts : (tokens a b : List Lexeme) → forms arrays tokens a → forms casts tokens b → ⊥
arrays_no_casts tokens a b d (kind, one, w) = word_no_mark _ 91 tokens b a w d

arrays_no_singles : (tokens a b : List Lexeme) → forms arrays tokens a → forms singles tokens b → ⊥
arrays_no_singles tokens a b d (same, none) = none.no_array a d

structs_no_angles : (tokens a b : List Lexeme) → forms structs tokens a → forms angles tokens b → ⊥
structs_no_angles tokens a b d e = marks_apart 123 60 tokens a b (λ q. omega arith) d e

structs_no_paths : (tokens a b : List Lexeme) → forms structs tokens a → forms paths tokens b → ⊥
structs_no_paths tokens a b d e = word_no_mark _ 123 tokens b a e d

structs_no_casts : (tokens a b : List Lexeme) → forms structs tokens a → forms casts tokens b → ⊥
structs_no_casts tokens a b d (kind, one, w) = word_no_mark _ 123 tokens b a w d

structs_no_singles : (tokens a b : List Lexeme) → forms structs tokens a → forms singles tokens b → ⊥
structs_no_singles tokens a b d (same, none) = none.no_brace a d

angles_no_paths : (tokens a b : List Lexeme) → forms angles tokens a → forms paths tokens b → ⊥
angles_no_paths tokens a b d e = word_no_mark _ 60 tokens b a e d

angles_no_casts : (tokens a b : List Lexeme) → forms angles tokens a → forms casts tokens b → ⊥
angles_no_casts tokens a b d (kind, one, w) = word_no_mark _ 60 tokens b a w d

angles_no_singles : (tokens a b : List Lexeme) → forms angles tokens a → forms singles tokens b → ⊥
angles_no_singles tokens a b d (same, none) = none.no_angle a d

paths_no_casts : (tokens a b : List Lexeme) → forms paths tokens a → forms casts tokens b → ⊥
paths_no_casts tokens a b d e = cast_apart (codes "getelementptr") (apart _ _ refl) (apart _ _ refl) (apart _ _ refl) (apart _ _ refl) tokens a b d e

paths_no_singles : (tokens a b : List Lexeme) → forms paths tokens a → forms singles tokens b → ⊥
paths_no_singles tokens a b d (same, none) = none.no_path a d

casts_no_singles : (tokens a b : List Lexeme) → forms casts tokens a → forms singles tokens b → ⊥
casts_no_singles tokens a b d (same, none) = none.no_cast a d

cast_leaves_one : (tokens a b : List Lexeme) → cast_opening tokens a → cast_opening tokens b → a ≡ b
cast_leaves_one tokens a b (k, one, (l, is, _, _)) (k', one', (m, is', _, _)) = ap (λ (ls : List Lexeme). drop 1 ls) (sym is ∙ is')

pub forms_one : (f g : Form) (tokens a b : List Lexeme) → forms f tokens a → forms g tokens b → (f ≡ g) × (a ≡ b)
forms_one arrays arrays tokens a b d e = (refl, mark_leaves_one 91 tokens a b d e)
forms_one structs structs tokens a b d e = (refl, mark_leaves_one 123 tokens a b d e)
forms_one angles angles tokens a b d e = (refl, mark_leaves_one 60 tokens a b d e)
forms_one paths paths tokens a b d e = (refl, word_leaves_one _ tokens a b d e)
forms_one casts casts tokens a b d e = (refl, cast_leaves_one tokens a b d e)
forms_one singles singles tokens a b d e = (refl, sym d.0 ∙ e.0)
forms_one arrays structs tokens a b d e = absurd (arrays_no_structs tokens a b d e)
forms_one arrays angles tokens a b d e = absurd (arrays_no_angles tokens a b d e)
forms_one arrays paths tokens a b d e = absurd (arrays_no_paths tokens a b d e)
forms_one arrays casts tokens a b d e = absurd (arrays_no_casts tokens a b d e)
forms_one arrays singles tokens a b d e = absurd (arrays_no_singles tokens a b d e)
forms_one structs arrays tokens a b d e = absurd (arrays_no_structs tokens b a e d)
forms_one structs angles tokens a b d e = absurd (structs_no_angles tokens a b d e)
forms_one structs paths tokens a b d e = absurd (structs_no_paths tokens a b d e)
forms_one structs casts tokens a b d e = absurd (structs_no_casts tokens a b d e)
forms_one structs singles tokens a b d e = absurd (structs_no_singles tokens a b d e)
forms_one angles arrays tokens a b d e = absurd (arrays_no_angles tokens b a e d)
forms_one angles structs tokens a b d e = absurd (structs_no_angles tokens b a e d)
forms_one angles paths tokens a b d e = absurd (angles_no_paths tokens a b d e)
forms_one angles casts tokens a b d e = absurd (angles_no_casts tokens a b d e)
forms_one angles singles tokens a b d e = absurd (angles_no_singles tokens a b d e)
forms_one paths arrays tokens a b d e = absurd (arrays_no_paths tokens b a e d)
forms_one paths structs tokens a b d e = absurd (structs_no_paths tokens b a e d)
forms_one paths angles tokens a b d e = absurd (angles_no_paths tokens b a e d)
forms_one paths casts tokens a b d e = absurd (paths_no_casts tokens a b d e)
forms_one paths singles tokens a b d e = absurd (paths_no_singles tokens a b d e)
forms_one casts arrays tokens a b d e = absurd (arrays_no_casts tokens b a e d)
forms_one casts structs tokens a b d e = absurd (structs_no_casts tokens b a e d)
forms_one casts angles tokens a b d e = absurd (angles_no_casts tokens b a e d)
forms_one casts paths tokens a b d e = absurd (paths_no_casts tokens b a e d)
forms_one casts singles tokens a b d e = absurd (casts_no_singles tokens a b d e)
forms_one singles arrays tokens a b d e = absurd (arrays_no_singles tokens b a e d)
forms_one singles structs tokens a b d e = absurd (structs_no_singles tokens b a e d)
forms_one singles angles tokens a b d e = absurd (angles_no_singles tokens b a e d)
forms_one singles paths tokens a b d e = absurd (paths_no_singles tokens b a e d)
forms_one singles casts tokens a b d e = absurd (casts_no_singles tokens b a e d)

-- what stands inside a form that is known
pub inside_known : (f : Form) (t : LlType) (names : List NameText) (v : Value) (tokens inside rest : List Lexeme) → forms f tokens inside → value names v t tokens rest → inside_form f t names inside rest
inside_known f t names v tokens inside rest known d =
    let found : Formed t names tokens rest = formed_value t names v tokens rest d in
    let same : (found.form ≡ f) × (found.inside ≡ inside) = forms_one found.form f tokens found.inside inside found.formed known in
    subst (λ x. inside_form x t names inside rest) same.0 (subst (λ ls. inside_form found.form t names ls rest) same.1 found.goes_on)

pub value_no_pointer : (t : LlType) (names : List NameText) (v : Value) (tokens rest : List Lexeme) → value names v t tokens rest → NoPointer tokens
value_no_pointer t names v tokens rest d =
    let found : Formed t names tokens rest = formed_value t names v tokens rest d in form_no_pointer t names found.form tokens found.inside rest found.formed found.goes_on

-- no value begins with another mark than an opening one
not_punct : (v : Value) → kind_of v ≡ Punct → ⊥
unfolding kind_of
not_punct (Local name) e = cc
not_punct v e = cc

mark_no_form : (c : ℕ) (t : LlType) (names : List NameText) (f : Form) (tokens inside a b : List Lexeme) → (91 ≡ c → ⊥) → (60 ≡ c → ⊥) → (123 ≡ c → ⊥) → forms f tokens inside → inside_form f t names inside a → mark c tokens b → ⊥
mark_no_form c t names arrays tokens inside a b no91 no60 no123 d e m = marks_apart 91 c tokens inside b no91 d m
mark_no_form c t names structs tokens inside a b no91 no60 no123 d e m = marks_apart 123 c tokens inside b no123 d m
mark_no_form c t names angles tokens inside a b no91 no60 no123 d e m = marks_apart 60 c tokens inside b no60 d m
mark_no_form c t names paths tokens inside a b no91 no60 no123 d e m = word_no_mark _ c tokens inside b d m
mark_no_form c t names casts tokens inside a b no91 no60 no123 (kind, one, w) e m = word_no_mark _ c tokens inside b w m
mark_no_form c t names singles tokens inside a b no91 no60 no123 (same, none) (v, d) m =
    kinds_apart (kind_of v) Punct _ _ inside a b (not_punct v) (single_token t names v inside a d) (subst (λ ls. mark c ls b) same m)

pub value_no_mark : (c : ℕ) (t : LlType) (names : List NameText) (v : Value) (tokens a b : List Lexeme) → (91 ≡ c → ⊥) → (60 ≡ c → ⊥) → (123 ≡ c → ⊥) → value names v t tokens a → mark c tokens b → ⊥
value_no_mark c t names v tokens a b no91 no60 no123 d m =
    let found : Formed t names tokens a = formed_value t names v tokens a d in mark_no_form c t names found.form tokens found.inside a b no91 no60 no123 found.formed found.goes_on m
