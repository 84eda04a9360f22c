-- Attributes of functions: what they leave of the tokens, and that refused tokens begin with none.
use Rattle.std.proofs.Common.{◌≡◌, ℕ, Contains, Bool, IsTrue, ◌↔◌, slice_index_or, true, false, true≢false, refl, List, [], ◌∷◌, sym, ap, ◌∙◌, subst, inl, inr, arith}
use Rattle.std.specs.Cmp.Lexicographic.{bytes_decides}
use Rattle.std.specs.List.{list_any}
use Rattle.std.specs.Str.{bytes_eq}
use Rattle.std.proofs.lemmas.List.Folds.{Any-from_list_any, list_any_at}
use Rattle.ll_tokens.specs.declared.kinds.TokenKind.{TokenKind}
use Rattle.ll_tokens.specs.declared.kinds.TokenKind.TheVariants.{Attr, Punct, Str, Word}
use Rattle.ll_tokens.specs.Tokens.{Lexeme}
use Rattle.ll_parser.specs.declared.refusal.Refusal.{Refusal}
use Rattle.ll_parser.specs.GrammarAttributes.{any_function_attributes, attribute_group, function_attribute, function_words}
use Rattle.ll_parser.specs.NameReading.{any_of}
use Rattle.ll_parser.specs.Productions.{◌>>◌, token, word, mark, each}
use Rattle.ll_parser.specs.Reading.{EndsNowhere}
use Rattle.ll_parser.proofs.EndFacts.{ends_same}
use Rattle.ll_parser.proofs.TokenFacts.{same_first, token_nowhere_in_nil}
use Rattle.ll_types.proofs.Tokens.{EndsBy, Shortens, kinds_apart, seq_ends, seq_shortens, shortens_ends, token_end, token_shortens}
use Rattle.ll_attributes.specs.FunctionAttributes.{FunctionAttributeFails, FunctionAttributesFail, NoFunctionAttribute, function_attribute_here, function_attributes_here, function_word, in_group, in_text, text_here, value_here}
use Rattle.ll_attributes.proofs.ListFacts.{LeaveOne, each_ends, seq_one, skips_none, skips_one, token_one}

pub group_no_text : Attr ≡ Str → ⊥
group_no_text e = cc

pub group_no_word : Attr ≡ Word → ⊥
group_no_word e = cc

pub text_no_word : Str ≡ Word → ⊥
text_no_word e = cc

pub punct_no_group : Punct ≡ Attr → ⊥
punct_no_group e = cc

pub punct_no_text : Punct ≡ Str → ⊥
punct_no_text e = cc

pub punct_no_word : Punct ≡ Word → ⊥
punct_no_word e = cc

no_value : (tokens rest : List Lexeme) → (mark 61 >> any_of Str) tokens rest → EndsNowhere (mark 61) tokens → ⊥
unfolding ◌>>◌
no_value tokens rest (m, sign, _) nowhere = nowhere m sign

value_one : LeaveOne value_here value_here
value_one tokens a b (inl d) (inl e) = seq_one (mark 61) (mark 61) (any_of Str) (any_of Str) (token_one _ _ _ _) (token_one _ _ _ _) tokens a b d e
value_one tokens a b (inl d) (inr (_, nowhere)) = absurd (no_value tokens a d nowhere)
value_one tokens a b (inr (_, nowhere)) (inl d) = absurd (no_value tokens b d nowhere)
value_one tokens a b (inr (same, _)) (inr (same', _)) = sym same ∙ same'

text_one : LeaveOne text_here text_here
text_one = seq_one (any_of Str) (any_of Str) value_here value_here (token_one _ _ _ _) value_one

text_begins : (tokens rest : List Lexeme) → text_here tokens rest → (m : List Lexeme) × any_of Str tokens m
unfolding ◌>>◌
text_begins tokens rest (m, t, _) = (m, t)

group_and_text : (tokens a b : List Lexeme) → attribute_group tokens a → text_here tokens b → ⊥
group_and_text tokens a b g t = let s = text_begins tokens b t in kinds_apart Attr Str _ _ tokens a s.0 group_no_text g s.1

text_and_word : (tokens a b : List Lexeme) → text_here tokens a → function_word tokens b → ⊥
text_and_word tokens a b t w = let s = text_begins tokens a t in kinds_apart Str Word _ _ tokens s.0 b text_no_word s.1 w

pub function_attribute_one : LeaveOne function_attribute_here function_attribute_here
function_attribute_one tokens a b (inl g) (inl g') = token_one Attr Attr _ _ tokens a b g g'
function_attribute_one tokens a b (inl g) (inr (inl t)) = absurd (group_and_text tokens a b g t)
function_attribute_one tokens a b (inl g) (inr (inr w)) = absurd (kinds_apart Attr Word _ _ tokens a b group_no_word g w)
function_attribute_one tokens a b (inr (inl t)) (inl g) = absurd (group_and_text tokens b a g t)
function_attribute_one tokens a b (inr (inl t)) (inr (inl t')) = text_one tokens a b t t'
function_attribute_one tokens a b (inr (inl t)) (inr (inr w)) = absurd (text_and_word tokens a b t w)
function_attribute_one tokens a b (inr (inr w)) (inl g) = absurd (kinds_apart Attr Word _ _ tokens b a group_no_word g w)
function_attribute_one tokens a b (inr (inr w)) (inr (inl t)) = absurd (text_and_word tokens b a t w)
function_attribute_one tokens a b (inr (inr w)) (inr (inr w')) = token_one Word Word _ _ tokens a b w w'

pub function_attribute_begins : (tokens rest : List Lexeme) → function_attribute_here tokens rest → NoFunctionAttribute tokens → ⊥
function_attribute_begins tokens rest (inl (l, is, kind, _)) none = none.no_group rest (l, is, kind, tt)
function_attribute_begins tokens rest (inr (inl t)) none = let s = text_begins tokens rest t in none.no_text s.0 s.1
function_attribute_begins tokens rest (inr (inr w)) none = none.no_word rest w

-- before a token of another kind there is no attribute of a function
pub no_function_attribute_at : (kind : TokenKind) (test : Lexeme → Type 0) (tokens rest : List Lexeme) → (kind ≡ Attr → ⊥) → (kind ≡ Str → ⊥) → (kind ≡ Word → ⊥) → token kind test tokens rest → NoFunctionAttribute tokens
no_function_attribute_at kind test tokens rest no_attr no_str no_word t = record {
  no_group = λ other d. kinds_apart kind Attr _ _ tokens rest other no_attr t d;
  no_text = λ other d. kinds_apart kind Str _ _ tokens rest other no_str t d;
  no_word = λ other d. kinds_apart kind Word _ _ tokens rest other no_word t d;
}

-- nor is there one before a word that is none
no_function_word : (text : List ℕ) → list_any (bytes_eq text) function_words ≡ false → Contains function_words text → ⊥
no_function_word text off (k, lt, at) =
    true≢false (sym (list_any_at (bytes_eq text) function_words k text lt (ap (bytes_eq text) at ∙ (bytes_decides text text).1 refl)) ∙ off)

is_true : (b : Bool) → IsTrue b → b ≡ true
is_true b holding = grind arith

holds : (b : Bool) → b ≡ true → IsTrue b
holds b e = grind arith

-- a test of the words by search
pub word_decides : (test : Bool) (text : List ℕ) → test ≡ list_any (λ y. bytes_eq y text) function_words → IsTrue test ↔ Contains function_words text
word_decides test text is = (found, there)
  where
    found : IsTrue test → Contains function_words text
    found holding =
        let any = Any-from_list_any (λ y. bytes_eq y text) function_words (sym is ∙ is_true test holding) in
        (any.0, any.2, subst (λ (z : List ℕ). slice_index_or function_words any.0 z ≡ z) ((bytes_decides any.1 text).0 any.4) any.3)

    there : Contains function_words text → IsTrue test
    there (k, lt, at) = holds test (is ∙ list_any_at (λ y. bytes_eq y text) function_words k text lt (ap (λ y. bytes_eq y text) at ∙ (bytes_decides text text).1 refl))

not_contained : (text : List ℕ) (tokens rest other : List Lexeme) → (Contains function_words text → ⊥) → word text tokens rest → function_word tokens other → ⊥
not_contained text tokens rest other none (l, is, _, same) (m, is', _, contained) =
    none (subst (Contains function_words) (ap (λ (t : Lexeme). t.text) (same_first m l _ _ (sym is' ∙ is)) ∙ same) contained)

pub no_function_attribute_at_other_word : (text : List ℕ) (tokens rest : List Lexeme) → (Contains function_words text → ⊥) → word text tokens rest → NoFunctionAttribute tokens
no_function_attribute_at_other_word text tokens rest none w = record {
  no_group = λ other d. kinds_apart Attr Word _ _ tokens other rest group_no_word d w;
  no_text = λ other d. kinds_apart Str Word _ _ tokens other rest text_no_word d w;
  no_word = λ other d. not_contained text tokens rest other none w d;
}

-- the same by a test that computes
pub no_function_attribute_at_word : (text : List ℕ) (tokens rest : List Lexeme) → list_any (bytes_eq text) function_words ≡ false → word text tokens rest → NoFunctionAttribute tokens
no_function_attribute_at_word text tokens rest off w = no_function_attribute_at_other_word text tokens rest (no_function_word text off) w

pub no_function_attribute_in_nil : NoFunctionAttribute []
no_function_attribute_in_nil = record {
  no_group = token_nowhere_in_nil Attr _ [] refl;
  no_text = token_nowhere_in_nil Str _ [] refl;
  no_word = token_nowhere_in_nil Word _ [] refl;
}

-- refused tokens begin with none, and yet one begins
text_none : (tokens behind end : List Lexeme) → any_of Str tokens behind → mark 61 behind end → EndsNowhere (any_of Str) end → EndsNowhere text_here tokens
unfolding ◌>>◌
text_none tokens behind end t sign nowhere rest (m, t', inl (p, sign', s)) =
    let same : m ≡ behind = token_one Str Str _ _ tokens m behind t' t in
    let same' : p ≡ end = token_one Punct Punct _ _ behind p end (subst (λ ls. mark 61 ls p) same sign') sign in
    nowhere rest (subst (λ ls. any_of Str ls rest) same' s)
text_none tokens behind end t sign nowhere rest (m, t', inr (same', no_sign)) =
    let same : m ≡ behind = token_one Str Str _ _ tokens m behind t' t in
    no_sign end (subst (λ ls. mark 61 ls end) (sym same) sign)

pub function_attribute_none : {tokens : List Lexeme} {refusal : Refusal} → FunctionAttributeFails tokens refusal → EndsNowhere function_attribute_here tokens
function_attribute_none {tokens} (in_group behind g none) rest (inl d) = none.0 rest d
function_attribute_none {tokens} (in_group behind g none) rest (inr (inl t)) =
    let s = text_begins tokens rest t in kinds_apart Attr Str _ _ tokens behind s.0 group_no_text g s.1
function_attribute_none {tokens} (in_group behind g none) rest (inr (inr w)) = kinds_apart Attr Word _ _ tokens behind rest group_no_word g w
function_attribute_none {tokens} (in_text behind end t sign none) rest (inl g) = kinds_apart Attr Str _ _ tokens rest behind group_no_text g t
function_attribute_none {tokens} (in_text behind end t sign none) rest (inr (inl d)) = text_none tokens behind end t sign none.0 rest d
function_attribute_none {tokens} (in_text behind end t sign none) rest (inr (inr w)) = kinds_apart Str Word _ _ tokens behind rest text_no_word t w

refused_begins : {tokens : List Lexeme} {refusal : Refusal} → FunctionAttributeFails tokens refusal → NoFunctionAttribute tokens → ⊥
refused_begins (in_group behind g none) lacks = lacks.no_group behind g
refused_begins (in_text behind end t sign none) lacks = lacks.no_text behind t

pub function_attributes_none : (tokens : List Lexeme) (refusal : Refusal) → FunctionAttributesFail tokens refusal → EndsNowhere function_attributes_here tokens
function_attributes_none tokens refusal stops =
    skips_none (λ (_ : Unit {0}). function_attribute_here) (λ (_ : Unit {0}). function_attribute_here) NoFunctionAttribute
    (λ x y. function_attribute_one) (λ x ls r. function_attribute_begins ls r) (λ x ls r. function_attribute_begins ls r)
    tokens stops.middle stops.before (refused_begins stops.fails) (λ x. function_attribute_none stops.fails)

pub function_attributes_one : LeaveOne function_attributes_here function_attributes_here
function_attributes_one =
    skips_one (λ (_ : Unit {0}). function_attribute_here) (λ (_ : Unit {0}). function_attribute_here) NoFunctionAttribute
    (λ x y. function_attribute_one) (λ x ls r. function_attribute_begins ls r) (λ x ls r. function_attribute_begins ls r)

-- what is left is shorter
value_end : EndsBy value_here
value_end tokens rest (inl d) = seq_ends (mark 61) (any_of Str) (token_end _ _) (token_end _ _) tokens rest d
value_end tokens rest (inr (same, _)) = ends_same tokens rest same

pub function_attribute_shortens : Shortens function_attribute_here
function_attribute_shortens tokens rest (inl g) = token_shortens _ _ tokens rest g
function_attribute_shortens tokens rest (inr (inl t)) = seq_shortens (any_of Str) value_here (token_shortens _ _) value_end tokens rest t
function_attribute_shortens tokens rest (inr (inr w)) = token_shortens _ _ tokens rest w

pub function_attributes_end : EndsBy function_attributes_here
function_attributes_end tokens rest d =
    each_ends (λ (_ : Unit {0}). function_attribute_here) (λ x. shortens_ends _ function_attribute_shortens) d.skipped.0 tokens rest d.skipped.1

-- the grammar's attributes before a token that goes on with none of them are those that are read
starts_without_sign : (count : List (Unit {0})) (tokens rest : List Lexeme) → each (λ (_ : Unit {0}). function_attribute) count tokens rest → EndsNowhere (mark 61) rest → EndsNowhere (mark 61) tokens
unfolding ◌>>◌
starts_without_sign [] tokens rest same nowhere other sign = nowhere other (subst (λ ls. mark 61 ls other) same sign)
starts_without_sign (_ ∷ count) tokens rest (m, inl g, more) nowhere other sign = kinds_apart Punct Attr _ _ tokens other m punct_no_group sign g
starts_without_sign (_ ∷ count) tokens rest (m, inr (inl (p, t, _)), more) nowhere other sign = kinds_apart Punct Str _ _ tokens other p punct_no_text sign t
starts_without_sign (_ ∷ count) tokens rest (m, inr (inr w), more) nowhere other sign = kinds_apart Punct Word _ _ tokens other m punct_no_word sign w

whole_attribute : (tokens rest : List Lexeme) → function_attribute tokens rest → EndsNowhere (mark 61) rest → function_attribute_here tokens rest
unfolding ◌>>◌
whole_attribute tokens rest (inl g) nowhere = inl g
whole_attribute tokens rest (inr (inl (m, t, inl value))) nowhere = inr (inl (m, t, inl value))
whole_attribute tokens rest (inr (inl (m, t, inr same))) nowhere = inr (inl (m, t, inr (same, subst (EndsNowhere (mark 61)) (sym same) nowhere)))
whole_attribute tokens rest (inr (inr w)) nowhere = inr (inr w)

whole_each : (count : List (Unit {0})) (tokens rest : List Lexeme) → each (λ (_ : Unit {0}). function_attribute) count tokens rest → EndsNowhere (mark 61) rest → each (λ (_ : Unit {0}). function_attribute_here) count tokens rest
unfolding ◌>>◌
whole_each [] tokens rest same nowhere = same
whole_each (_ ∷ count) tokens rest (m, d, more) nowhere =
    (m, whole_attribute tokens m d (starts_without_sign count m rest more nowhere), whole_each count m rest more nowhere)

pub function_attributes_whole : (tokens rest : List Lexeme) → any_function_attributes tokens rest → NoFunctionAttribute rest → EndsNowhere (mark 61) rest → function_attributes_here tokens rest
function_attributes_whole tokens rest (count, d) none nowhere = record { skipped = (count, whole_each count tokens rest d nowhere); all = none }

-- and what is read is of the grammar
right_attribute : (tokens rest : List Lexeme) → function_attribute_here tokens rest → function_attribute tokens rest
unfolding ◌>>◌
right_attribute tokens rest (inl g) = inl g
right_attribute tokens rest (inr (inl (m, t, inl value))) = inr (inl (m, t, inl value))
right_attribute tokens rest (inr (inl (m, t, inr (same, _)))) = inr (inl (m, t, inr same))
right_attribute tokens rest (inr (inr w)) = inr (inr w)

right_each : (count : List (Unit {0})) (tokens rest : List Lexeme) → each (λ (_ : Unit {0}). function_attribute_here) count tokens rest → each (λ (_ : Unit {0}). function_attribute) count tokens rest
unfolding ◌>>◌
right_each [] tokens rest same = same
right_each (_ ∷ count) tokens rest (m, d, more) = (m, right_attribute tokens m d, right_each count m rest more)

pub function_attributes_right : (tokens rest : List Lexeme) → function_attributes_here tokens rest → any_function_attributes tokens rest
function_attributes_right tokens rest d = (d.skipped.0, right_each d.skipped.0 tokens rest d.skipped.1)
