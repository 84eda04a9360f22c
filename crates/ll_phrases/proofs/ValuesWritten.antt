-- Values are read as they are written.
use Rattle.std.proofs.Common.{◌≡◌, ℕ, ◌+◌, ◌^◌, ◌-◌, ◌<◌, ◌≤◌, ℤ, pos, negsuc, neg_ℤ, ◌≤ℤ◌, suc, Bool, true, false, ◌&&◌, List, ◌∷◌, Option, Some, None, codes, drop, refl, sym, ◌∙◌, ap, subst, arith}
use Rattle.std.specs.Prelude.{if◌then◌else◌, nat_lt}
use Rattle.std.proofs.Math.Pow.{pow_mono}
use Rattle.std.proofs.lemmas.Bool.{and_parts}
use Rattle.std.proofs.lemmas.Bool.Decides.{nat_tests}
use Rattle.std.proofs.lemmas.Int.{ints}
use Rattle.std.specs.Fmt.{signed_decimal}
use Rattle.ll_tokens.specs.declared.kinds.TokenKind.TheVariants.{CStr, Int as IntToken, Word}
use Rattle.ll_tokens.specs.Forms.{has_form}
use Rattle.ll_tokens.specs.Tokens.{Lexeme, has_kind}
use Rattle.ll_tree.specs.declared.name.NameText.{NameText}
use Rattle.ll_tree.specs.declared.op.CastKind.{CastKind}
use Rattle.ll_tree.specs.declared.op.CastKind.TheVariants.{Trunc, Zext, Sext, PtrToInt, IntToPtr, Bitcast, AddrSpaceCast}
use Rattle.ll_tree.specs.declared.ty.LlType.{LlType}
use Rattle.ll_tree.specs.declared.ty.TypeBase.{TypeBase, Void, Int as IntType, Half, Float, Double, Named, Array' as ArrayType, Vector' as VectorType, Struct' as StructType, Packed' as PackedType}
use Rattle.ll_tree.specs.declared.value.TypedValue.{TypedValue}
use Rattle.ll_tree.specs.declared.value.Value.{Value, Local, Global, Int, Bytes, Bool as Truth, Null, Zero, Undef, Poison, Vector', Array', Struct', Packed', GetElementPtr', Cast', Row_of-TypedValue, end_of-TypedValue, more_of-TypedValue}
use Rattle.ll_tree.specs.Names.{name_unplaced}
use Rattle.ll_tree.specs.Types.{base_changed, base_width, int_width, type_changed}
use Rattle.ll_tree.specs.Values.{row_changed, typed_changed, value_changed}
use Rattle.ll_parser.specs.GrammarTypes.{ty}
use Rattle.ll_parser.specs.GrammarValues.{IsInRange, bits_of_numbers, cast_word, count_of, if_word, integer, only, typed, value, values, values_behind}
use Rattle.ll_parser.specs.Productions.{Production, ◌>>◌, token}
use Rattle.ll_parser.specs.Spellings.{between_quotes, integer_value}
use Rattle.ll_phrases.specs.Phrases.{Phrase, Solid}
use Rattle.ll_phrases.specs.Texts.{quoted}
use Rattle.ll_phrases.specs.ValuePhrases.{fields_phrase, typed_phrase, value_phrase, values_behind as behind_phrase, values_phrase, word_behind}
use Rattle.ll_phrases.proofs.NameTexts.{IsIntegerText, bytes-kind, minus-text, number-text}
use Rattle.ll_phrases.proofs.NamesWritten.{global-written, local-written}
use Rattle.ll_phrases.proofs.QuotedTexts.{quotes-read}
use Rattle.ll_phrases.proofs.TypesWritten.{type-written}
use Rattle.ll_phrases.proofs.Written.{Fixed, Written, any-written, before-blank, behind-blank, comma-then, constant, fixed-as, fixed-behind-blank, fixed-both, fixed-then, loose-written, made, made-same, mark-fixed, nothing-fixed, nothing-written, pair, solid-laid, then-fixed, word-fixed}

-- the places of a type and of a value left out
abbrev pub bare_type : LlType → LlType
bare_type = type_changed name_unplaced

abbrev pub bare_value : Value → Value
bare_value = value_changed name_unplaced bare_type

abbrev pub bare_typed : TypedValue → TypedValue
bare_typed = typed_changed name_unplaced bare_type

-- a number in its range is written with few digits
bounded : (low high : ℕ) (n : ℤ) → low < 10 ^ 60 → high < 10 ^ 60 → neg_ℤ (pos low) ≤ℤ n → n ≤ℤ pos high → IsIntegerText n (signed_decimal n)
bounded low high (pos n) one two least most = number-text n (below n most)
  where
    below : (k : ℕ) → pos k ≤ℤ pos high → k < 10 ^ 64
    below k le = grind (arith, ints)
bounded low high (negsuc n) one two least most = minus-text n (below n least)
  where
    below : (k : ℕ) → neg_ℤ (pos low) ≤ℤ negsuc k → suc k < 10 ^ 64
    below k le = grind (arith, ints)

power-small : (bits : ℕ) → bits < 65 → 2 ^ bits < 10 ^ 60
power-small bits lt = omega (arith, pow_mono {i = bits} {j = 64} (omega (arith, lt)))

bits-below : (width : Option ℕ) (bits : ℕ) → bits_of_numbers width ≡ Some bits → bits < 65
bits-below None bits is = absurd cc
bits-below (Some n) bits is = by-test (nat_lt 0 n && nat_lt n 65) refl is
  where
    by-test : (test : Bool) → (nat_lt 0 n && nat_lt n 65) ≡ test → (if test then Some n else None) ≡ Some bits → bits < 65
    by-test true fits same = let small = (and_parts (nat_lt 0 n) (nat_lt n 65) fits).1 in subst (λ (k : ℕ). k < 65) (ap (λ o. elim o [ None ↦ 0 | Some k ↦ k ]) same) (below-test small)
      where
        below-test : nat_lt n 65 ≡ true → n < 65
        below-test h = grind (arith, nat_tests)
    by-test false fits same = absurd cc

in-range-text : (width : Option ℕ) (bits : Option ℕ) (n : ℤ) → bits_of_numbers width ≡ bits → IsInRange bits n → IsIntegerText n (signed_decimal n)
in-range-text width None n is (least, most) = bounded (2 ^ 63) (2 ^ 64 - 1) n (omega arith) (omega arith) least most
in-range-text width (Some bits) n is (least, most) =
    let lt = bits-below width bits is in
    bounded (2 ^ (bits - 1)) (2 ^ bits - 1) n (power-small (bits - 1) (omega (arith, lt))) (omega (arith, power-small bits lt)) least most

pub integer-fixed : (t : LlType) (n : ℤ) (tokens rest : List Lexeme) → integer t n tokens rest → Fixed false false (integer t n) (Solid IntToken (signed_decimal n))
integer-fixed t n tokens rest (l, is, kind, (value_is, in_range)) =
    let text = in-range-text (int_width t) (bits_of_numbers (int_width t)) n refl in_range in
    record {
      laid = solid-laid IntToken (signed_decimal n) text.kind;
      reads = λ ts rs (k, at, of, same). (k, at, of, (ap integer_value same ∙ text.value, in_range));
    }

pub if-word-fixed : (text : List ℕ) (is : Bool) → has_kind Word text ≡ true → Fixed true false (if_word text is) (word_behind text is)
if-word-fixed text true has = fixed-behind-blank (word-fixed text has)
if-word-fixed text false has = nothing-fixed

bytes-fixed : (bytes : List ℕ) → Fixed false false (token CStr (λ lexeme. between_quotes (drop 1 lexeme.text) ≡ bytes)) (Solid CStr (99 ∷ quoted bytes))
bytes-fixed bytes = record {
  laid = solid-laid CStr (99 ∷ quoted bytes) (bytes-kind bytes);
  reads = λ ts rs (k, at, of, same). (k, at, of, ap (λ t. between_quotes (drop 1 t)) same ∙ quotes-read bytes);
}

pub cast-kind : (kind : CastKind) → has_kind Word (cast_word kind) ≡ true
unfolding has_form
cast-kind Trunc = refl
cast-kind Zext = refl
cast-kind Sext = refl
cast-kind PtrToInt = refl
cast-kind IntToPtr = refl
cast-kind Bitcast = refl
cast-kind AddrSpaceCast = refl

-- how many values a list has doesn't hang on places
count-same : {n : _} (row : Row_of-TypedValue n) → count_of (row_changed name_unplaced bare_type row) ≡ count_of row
count-same end_of-TypedValue = refl
count-same (more_of-TypedValue t v row) = ap (λ n. n + 1) (count-same row)

count-kept : {n : _} (found row : Row_of-TypedValue n) → row_changed name_unplaced bare_type found ≡ row_changed name_unplaced bare_type row → 2 ≤ count_of row → 2 ≤ count_of found
count-kept found row same le = subst (λ (k : ℕ). 2 ≤ k) (sym (sym (count-same found) ∙ (ap count_of same ∙ count-same row))) le

-- a production under a condition that what is found keeps
only-written : {A : Type 0} {a b : Bool} {bare : A → A} {production : A → Production} {p : Phrase} {value : A} (holds : A → Type 0) → ((found : A) → bare found ≡ bare value → holds found)
    → Written a b bare production p value → Written a b bare (λ x. only (holds x) (production x)) p value
only-written holds kept w = record {
  laid = w.laid;
  reads = λ tokens rest is. let (found, same, has) = w.reads tokens rest is in (found, same, (kept found same, has));
}

-- what bounds a number is the same for types that are the same, places aside
base-width-same : (b : TypeBase) (ps : List ℕ) → base_width ps (base_changed name_unplaced b) ≡ base_width ps b
base-width-same Void ps = refl
base-width-same (IntType bits) ps = refl
base-width-same Half ps = refl
base-width-same Float ps = refl
base-width-same Double ps = refl
base-width-same (Named name) ps = refl
base-width-same (ArrayType count shape part) ps = refl
base-width-same (VectorType lanes shape part) ps = refl
base-width-same (StructType shape members) ps = refl
base-width-same (PackedType shape members) ps = refl

pub width-kept : (found t : LlType) → bare_type found ≡ bare_type t → int_width t ≡ int_width found
width-kept found t same = sym (base-width-same t.base t.pointers) ∙ (ap int_width (sym same) ∙ base-width-same found.base found.pointers)

-- only the width of its type matters to a value
pub retyped : (names : List NameText) (v : Value) (t u : LlType) (tokens rest : List Lexeme) → int_width t ≡ int_width u → value names v t tokens rest → value names v u tokens rest
retyped names (Int number) t u tokens rest e (l, is, kind, (reads, range)) = (l, is, kind, (reads, subst (λ w. IsInRange (bits_of_numbers w) number) e range))
retyped names (Local name) t u tokens rest e d = d
retyped names (Global name) t u tokens rest e d = d
retyped names (Bytes bytes) t u tokens rest e d = d
retyped names (Truth true) t u tokens rest e d = d
retyped names (Truth false) t u tokens rest e d = d
retyped names Null t u tokens rest e d = d
retyped names Zero t u tokens rest e d = d
retyped names Undef t u tokens rest e d = d
retyped names Poison t u tokens rest e d = d
retyped names (Vector' shape row) t u tokens rest e d = d
retyped names (Array' shape row) t u tokens rest e d = d
retyped names (Struct' shape row) t u tokens rest e d = d
retyped names (Packed' shape row) t u tokens rest e d = d
retyped names (GetElementPtr' inbounds through shape row) t u tokens rest e d = d
retyped names (Cast' kind shape row to) t u tokens rest e d = d

module _ (names : List NameText) where
  -- a value behind its type, and what stands behind both, for a type that is the same
  behind-type : (t u : LlType) (v : Value) (after : Production) (tokens rest : List Lexeme) → bare_type u ≡ bare_type t → (ty names u >> value names v t >> after) tokens rest → (ty names u >> value names v u >> after) tokens rest
  unfolding ◌>>◌
  behind-type t u v after tokens rest same (m, is, (k, has, more)) = (m, is, (k, retyped names v t u m k (width-kept u t same) has, more))

  mutual
    unfolding ◌>>◌ has_form

    pub value-written : (v : Value) (t : LlType) (tokens rest : List Lexeme) → value names v t tokens rest → Written false false bare_value (λ x. value names x t) (value_phrase names v) v
    value-written (Local name) t tokens rest d = made (λ n. Local n) (λ n. Local n) (λ n. refl) (λ n ts rs is. is) (local-written names name tokens rest d)
    value-written (Global name) t tokens rest d = made (λ n. Global n) (λ n. Global n) (λ n. refl) (λ n ts rs is. is) (global-written names name tokens rest d)
    value-written (Int number) t tokens rest d = constant _ (λ x. value names x t) (Int number) (integer-fixed t number tokens rest d)
    value-written (Bytes bytes) t tokens rest d = constant _ (λ x. value names x t) (Bytes bytes) (bytes-fixed bytes)
    value-written (Truth true) t tokens rest d = constant _ (λ x. value names x t) (Truth true) (word-fixed (codes "true") refl)
    value-written (Truth false) t tokens rest d = constant _ (λ x. value names x t) (Truth false) (word-fixed (codes "false") refl)
    value-written Null t tokens rest d = constant _ (λ x. value names x t) Null (word-fixed (codes "null") refl)
    value-written Zero t tokens rest d = constant _ (λ x. value names x t) Zero (word-fixed (codes "zeroinitializer") refl)
    value-written Undef t tokens rest d = constant _ (λ x. value names x t) Undef (word-fixed (codes "undef") refl)
    value-written Poison t tokens rest d = constant _ (λ x. value names x t) Poison (word-fixed (codes "poison") refl)
    value-written (Vector' shape parts) t tokens rest (a, opens, (b, inside, closes)) =
        any-written (made (λ r. Vector' shape r) (λ r. Vector' shape r) (λ r. refl) (λ r ts rs is. is)
        (fixed-then (mark-fixed 60 refl) (then-fixed (values-written parts a b inside) (mark-fixed 62 refl) refl) refl))
    value-written (Array' shape parts) t tokens rest (a, opens, (b, inside, closes)) =
        any-written (made (λ r. Array' shape r) (λ r. Array' shape r) (λ r. refl) (λ r ts rs is. is)
        (fixed-then (mark-fixed 91 refl) (then-fixed (values-written parts a b inside) (mark-fixed 93 refl) refl) refl))
    value-written (Struct' shape parts) t tokens rest (a, opens, (b, inside, closes)) =
        any-written (made (λ r. Struct' shape r) (λ r. Struct' shape r) (λ r. refl) (λ r ts rs is. is)
        (fixed-then (mark-fixed 123 refl) (then-fixed (fields-written parts a b inside) (mark-fixed 125 refl) refl) refl))
    value-written (Packed' shape parts) t tokens rest (z, less, (a, opens, (b, inside, (c, closes, more)))) =
        any-written (made (λ r. Packed' shape r) (λ r. Packed' shape r) (λ r. refl) (λ r ts rs is. is)
        (fixed-then (mark-fixed 60 refl)
        (fixed-then (mark-fixed 123 refl) (then-fixed (fields-written parts a b inside) (fixed-both (mark-fixed 125 refl) (mark-fixed 62 refl) refl) refl) refl) refl))
    value-written (GetElementPtr' inbounds through shape operands) t tokens rest (a, w, (b, i, (c, opens, (e, steps, (f, (enough, inside), closes))))) =
        any-written (made (λ z. GetElementPtr' inbounds z.0 shape z.1) (λ z. GetElementPtr' inbounds z.0 shape z.1) (λ z. refl) (λ z ts rs is. is)
        (fixed-then (word-fixed (codes "getelementptr") refl)
        (fixed-then (if-word-fixed (codes "inbounds") inbounds refl)
        (behind-blank (fixed-then (mark-fixed 40 refl)
        (pair (type-written names through c e steps)
        (then-fixed (only-written (λ r. 2 ≤ count_of r) (λ found same. count-kept found operands same enough) (values-behind-written operands e f inside)) (mark-fixed 41 refl) refl) refl) refl)) refl) refl))
    value-written (Cast' kind shape operand to) t tokens rest (a, (allowed, w), (b, opens, (c, inside, (e, word_to, (f, is, closes))))) =
        any-written (made (λ z. Cast' kind shape z.0 z.1) (λ z. Cast' kind shape z.0 z.1) (λ z. refl) (λ z ts rs is. is)
        (fixed-then (fixed-as (λ ts rs is. (allowed, is)) (word-fixed (cast_word kind) (cast-kind kind)))
        (behind-blank (fixed-then (mark-fixed 40 refl)
        (pair (values-written operand b c inside)
        (behind-blank (fixed-then (word-fixed (codes "to") refl) (behind-blank (then-fixed (type-written names to e f is) (mark-fixed 41 refl) refl)) refl)) refl) refl)) refl))

    pub values-written : {n : _} (row : Row_of-TypedValue n) (tokens rest : List Lexeme) → values names row tokens rest → Written false false (row_changed name_unplaced bare_type) (values names) (values_phrase names row) row
    values-written end_of-TypedValue tokens rest d = any-written (nothing-written _ _ end_of-TypedValue (λ ts rs is. is))
    values-written (more_of-TypedValue t v row) tokens rest (a, is, (b, has, more)) =
        made-same (λ z. more_of-TypedValue z.0 z.1.0 z.1.1) (λ z. more_of-TypedValue z.0 z.1.0 z.1.1) (λ z. refl)
        (λ z same ts rs d. behind-type t z.0 z.1.0 (values_behind names z.1.1) ts rs (ap (λ y. y.0) same) d)
        (pair (type-written names t tokens a is) (behind-blank (pair (value-written v t a b has) (values-behind-written row b rest more) refl)) refl)

    fields-written : {n : _} (row : Row_of-TypedValue n) (tokens rest : List Lexeme) → values names row tokens rest → Written true false (row_changed name_unplaced bare_type) (values names) (fields_phrase names row) row
    fields-written end_of-TypedValue tokens rest d = nothing-written _ _ end_of-TypedValue (λ ts rs is. is)
    fields-written (more_of-TypedValue t v row) tokens rest (a, is, (b, has, more)) =
        loose-written (made-same (λ z. more_of-TypedValue z.0 z.1.0 z.1.1) (λ z. more_of-TypedValue z.0 z.1.0 z.1.1) (λ z. refl)
        (λ z same ts rs d. behind-type t z.0 z.1.0 (values_behind names z.1.1) ts rs (ap (λ y. y.0) same) d)
        (behind-blank (pair (type-written names t tokens a is) (behind-blank (pair (value-written v t a b has) (before-blank (values-behind-written row b rest more)) refl)) refl)))

    values-behind-written : {n : _} (row : Row_of-TypedValue n) (tokens rest : List Lexeme) → values_behind names row tokens rest → Written true false (row_changed name_unplaced bare_type) (values_behind names) (behind_phrase names row) row
    values-behind-written end_of-TypedValue tokens rest d = nothing-written _ _ end_of-TypedValue (λ ts rs is. is)
    values-behind-written (more_of-TypedValue t v row) tokens rest (k, comma_is, (a, is, (b, has, more))) =
        made-same (λ z. more_of-TypedValue z.0 z.1.0 z.1.1) (λ z. more_of-TypedValue z.0 z.1.0 z.1.1) (λ z. refl)
        (λ z same ts rs (m, c, d). (m, c, behind-type t z.0 z.1.0 (values_behind names z.1.1) m rs (ap (λ y. y.0) same) d))
        (comma-then (pair (type-written names t k a is) (behind-blank (pair (value-written v t a b has) (values-behind-written row b rest more) refl)) refl))

  pub typed-written : (v : TypedValue) (tokens rest : List Lexeme) → typed names v tokens rest → Written false false bare_typed (typed names) (typed_phrase names v) v
  unfolding ◌>>◌
  typed-written v tokens rest (m, is, has) =
      made-same (λ z. record { ty = z.0; value = z.1 }) (λ z. record { ty = z.0; value = z.1 }) (λ z. refl)
      (λ z same ts rs (k, t, d). (k, t, retyped names z.1 v.ty z.0 k rs (width-kept z.0 v.ty (ap (λ y. y.0) same)) d))
      (pair (type-written names v.ty tokens m is) (behind-blank (value-written v.value v.ty m rest has)) refl)
