-- Attributes: what they leave of the tokens, that they are read in one way, and that refused tokens begin with none.
use Rattle.std.proofs.Common.{◌≡◌, ℕ, ◌⊎◌, false, List, [], ◌∷◌, Option, None, Some, codes, refl, sym, ap, ap₂, ◌∙◌, subst, inl, inr, arith}
use Rattle.ll_tokens.specs.declared.kinds.TokenKind.{TokenKind}
use Rattle.ll_tokens.specs.declared.kinds.TokenKind.TheVariants.{Word}
use Rattle.ll_tokens.specs.Tokens.{Lexeme}
use Rattle.ll_tree.specs.declared.module.Attribute.{Attribute}
use Rattle.ll_tree.specs.declared.module.AttributeKind.{AttributeKind}
use Rattle.ll_tree.specs.declared.module.AttributeKind.TheVariants.{ZeroExt, SignExt, NoAlias, NoCapture, ReadOnly, ReadNone, WriteOnly, NoUndef, NonNull, InReg, Returned, NoFree, ImmArg, ByVal, SRet, Align, Dereferenceable, DereferenceableOrNull}
use Rattle.ll_tree.specs.declared.name.NameText.{NameText}
use Rattle.ll_tree.specs.declared.ty.LlType.{LlType}
use Rattle.ll_parser.specs.declared.refusal.Refusal.{Refusal}
use Rattle.ll_parser.specs.GrammarAttributes.{attribute, attribute_word, behind_word}
use Rattle.ll_parser.specs.GrammarTypes.{number}
use Rattle.ll_parser.specs.NameReading.{DerivesNoneWith}
use Rattle.ll_parser.specs.Pointers.{NoPointer}
use Rattle.ll_parser.specs.Productions.{◌>>◌, token, word, mark, each}
use Rattle.ll_parser.specs.Reading.{EndsNowhere, DerivesNone}
use Rattle.ll_parser.specs.Spaces.{IsNoBracketed, bracketed_number}
use Rattle.ll_parser.specs.Tables.{NoNameTwice}
use Rattle.ll_parser.proofs.EndFacts.{ends_same}
use Rattle.ll_parser.proofs.OneReading.{one_number}
use Rattle.ll_parser.proofs.PointerFacts.{word_no_mark}
use Rattle.ll_parser.proofs.SpaceFacts.{mark_leaves_one, number_leaves_one, bracketed_none_at_open, bracketed_none_at_number, bracketed_none_at_close}
use Rattle.ll_parser.proofs.TokenFacts.{same_first, same_rest}
use Rattle.ll_types.specs.TypeParts.{ty_here}
use Rattle.ll_types.proofs.NoTypes.{none_type}
use Rattle.ll_types.proofs.OneType.{type_one, type_shortens}
use Rattle.ll_types.proofs.Tokens.{EndsBy, Shortens, kinds_apart, mark_no_pointer, seq_ends, seq_shortens, shortens_ends, token_end, token_shortens}
use Rattle.ll_types.proofs.TypesAlike.{types_alike}
use Rattle.ll_attributes.specs.AttributeParts.{NoAttribute, attribute_here, attributes_here, behind_word_here, brackets_here}
use Rattle.ll_attributes.specs.AttributeRefusals.{AttributeFails, AttributesFail, BracketsFail, KindFails, in_align, in_bytes, in_type, no_close, no_type}
use Rattle.ll_attributes.proofs.AttributeWords.{Form, Bare, Typed, Numbered, Bracketed, behind_form, bytes_in, form_of, in_form, is_attribute_word, made, made_of_word, other_word, type_in}
use Rattle.ll_attributes.proofs.ListFacts.{LeaveOne, all_none, all_one, all_same, each_ends, seq_one, token_one}

-- which tokens an attribute begins
pub attribute_begins : (names : List NameText) (a : Attribute) (tokens rest : List Lexeme) → attribute_here names a tokens rest → NoAttribute tokens → ⊥
unfolding ◌>>◌
attribute_begins names a tokens rest (m, (l, is, kind, (text, byte)), d) none = none a.kind m (l, is, kind, text)

-- a token that is no word begins no attribute, nor does another word
pub no_attribute_at_token : (kind : TokenKind) (test : Lexeme → Type 0) (tokens rest : List Lexeme) → (kind ≡ Word → ⊥) → token kind test tokens rest → NoAttribute tokens
no_attribute_at_token kind test tokens rest differ t k other w = kinds_apart kind Word _ _ tokens rest other differ t w

pub no_attribute_at_word : (text : List ℕ) (tokens rest : List Lexeme) → is_attribute_word text ≡ false → word text tokens rest → NoAttribute tokens
no_attribute_at_word text tokens rest off (l, is, _, text_l) kind other (m, is', _, text_m) =
    other_word text off kind (sym text_m ∙ ap (λ (t : Lexeme). t.text) (same_first m l _ _ (sym is' ∙ is)) ∙ text_l)

pub no_attribute_in_nil : NoAttribute []
no_attribute_in_nil kind rest (l, is, _, _) = absurd cc

-- before an attribute there is no pointer
pub attribute_no_pointer : (names : List NameText) (a : Attribute) (tokens rest : List Lexeme) → attribute names a tokens rest → NoPointer tokens
unfolding ◌>>◌ is_attribute_word
attribute_no_pointer names a tokens rest (m, (l, is, kind, (text, byte)), d) = record {
  no_space = λ other w. no_attribute_at_word (codes "addrspace") tokens other refl w a.kind m (l, is, kind, text);
  no_star = λ other star. word_no_mark (attribute_word a.kind) 42 tokens m other (l, is, kind, text) star;
}

-- brackets
brackets_one : (names other : List NameText) (t u : Option LlType) → LeaveOne (brackets_here names t) (brackets_here other u)
unfolding ◌>>◌
brackets_one names other None None tokens a b (same, _) (same', _) = sym same ∙ same'
brackets_one names other None (Some u) tokens a b (_, nowhere) (m, bracket, _) = absurd (nowhere m bracket)
brackets_one names other (Some t) None tokens a b (m, bracket, _) (_, nowhere) = absurd (nowhere m bracket)
brackets_one names other (Some t) (Some u) tokens a b d e =
    seq_one (mark 40) (mark 40) (ty_here names t >> mark 41) (ty_here other u >> mark 41) (token_one _ _ _ _)
    (seq_one (ty_here names t) (ty_here other u) (mark 41) (mark 41) (type_one names other t u) (token_one _ _ _ _)) tokens a b d e

bracketed_one : (n m : ℕ) → LeaveOne (bracketed_number n) (bracketed_number m)
bracketed_one n m =
    seq_one (mark 40) (mark 40) (number n >> mark 41) (number m >> mark 41) (token_one _ _ _ _)
    (seq_one (number n) (number m) (mark 41) (mark 41) (token_one _ _ _ _) (token_one _ _ _ _))

bracketed_same : (n m : ℕ) (tokens a b : List Lexeme) → bracketed_number n tokens a → bracketed_number m tokens b → n ≡ m
unfolding ◌>>◌
bracketed_same n m tokens a b (p, bracket, (q, d, _)) (p', bracket', (q', d', _)) =
    (one_number n m p q q' d (subst (λ ls. number m ls q') (mark_leaves_one 40 tokens p' p bracket' bracket) d')).0

form_one : (f : Form) (names other : List NameText) (t u : Option LlType) (n m : ℕ) → LeaveOne (behind_form names f t n) (behind_form other f u m)
form_one Bare names other t u n m tokens a b (_, _, same) (_, _, same') = sym same ∙ same'
form_one Typed names other t u n m tokens a b (_, d) (_, e) = brackets_one names other t u tokens a b d e
form_one Numbered names other t u n m tokens a b (_, d) (_, e) = number_leaves_one n m tokens a b d e
form_one Bracketed names other t u n m tokens a b (_, d) (_, e) = bracketed_one n m tokens a b d e

pub attribute_one : (names other : List NameText) (a b : Attribute) → LeaveOne (attribute_here names a) (attribute_here other b)
unfolding ◌>>◌
attribute_one names other a b tokens x y (m, (l, is, kind_l, (text_l, byte_l)), d) (m', (l', is', kind_l', (text_l', byte_l')), d') =
    let words : attribute_word b.kind ≡ attribute_word a.kind = sym text_l' ∙ ap (λ (t : Lexeme). t.text) (same_first l' l _ _ (sym is' ∙ is)) ∙ text_l in
    let same : m' ≡ m = same_rest l' l m' m (sym is' ∙ is) in
    let here : behind_word_here other b.kind m y = subst (λ ls. behind_word_here other b.kind ls y) same d' in
    form_one (form_of (attribute_word a.kind)) names other (type_in a.kind) (type_in b.kind) (bytes_in a.kind) (bytes_in b.kind) m x y
    (in_form names a.kind m x d)
    (subst (λ (w : List ℕ). behind_form other (form_of w) (type_in b.kind) (bytes_in b.kind) m y) words (in_form other b.kind m y here))

-- attributes of one table are one
module _ (names : List NameText) (once : NoNameTwice names) where
  brackets_same : (t u : Option LlType) (tokens a b : List Lexeme) → brackets_here names t tokens a → brackets_here names u tokens b → t ≡ u
  unfolding ◌>>◌
  brackets_same None None tokens a b d e = refl
  brackets_same None (Some u) tokens a b (_, nowhere) (m, bracket, _) = absurd (nowhere m bracket)
  brackets_same (Some t) None tokens a b (m, bracket, _) (_, nowhere) = absurd (nowhere m bracket)
  brackets_same (Some t) (Some u) tokens a b (m, bracket, (p, d, _)) (m', bracket', (p', d', _)) =
      ap (λ (x : LlType). Some x) (types_alike names once t u m p p' d (subst (λ ls. ty_here names u ls p') (mark_leaves_one 40 tokens m' m bracket' bracket) d')).0

  form_same : (f : Form) (t u : Option LlType) (n m : ℕ) (tokens a b : List Lexeme) → behind_form names f t n tokens a → behind_form names f u m tokens b → (t ≡ u) × (n ≡ m)
  form_same Bare t u n m tokens a b (no_t, no_n, _) (no_u, no_m, _) = (no_t ∙ sym no_u, no_n ∙ sym no_m)
  form_same Typed t u n m tokens a b (no_n, d) (no_m, e) = (brackets_same t u tokens a b d e, no_n ∙ sym no_m)
  form_same Numbered t u n m tokens a b (no_t, d) (no_u, e) = (no_t ∙ sym no_u, (one_number n m tokens a b d e).0)
  form_same Bracketed t u n m tokens a b (no_t, d) (no_u, e) = (no_t ∙ sym no_u, bracketed_same n m tokens a b d e)

  pub attribute_same : (a b : Attribute) (tokens x y : List Lexeme) → attribute_here names a tokens x → attribute_here names b tokens y → a ≡ b
  unfolding ◌>>◌
  attribute_same a b tokens x y (m, (l, is, kind_l, (text_l, byte_l)), d) (m', (l', is', kind_l', (text_l', byte_l')), d') =
      let lexemes : l ≡ l' = same_first l l' _ _ (sym is ∙ is') in
      let words : attribute_word a.kind ≡ attribute_word b.kind = sym text_l ∙ ap (λ (t : Lexeme). t.text) lexemes ∙ text_l' in
      let same : m' ≡ m = same_rest l' l m' m (sym is' ∙ is) in
      let here : behind_word_here names b.kind m y = subst (λ ls. behind_word_here names b.kind ls y) same d' in
      let parts : (type_in a.kind ≡ type_in b.kind) × (bytes_in a.kind ≡ bytes_in b.kind) =
      form_same (form_of (attribute_word a.kind)) (type_in a.kind) (type_in b.kind) (bytes_in a.kind) (bytes_in b.kind) m x y
      (in_form names a.kind m x d)
      (subst (λ (w : List ℕ). behind_form names (form_of w) (type_in b.kind) (bytes_in b.kind) m y) (sym words) (in_form names b.kind m y here)) in
      let kinds : a.kind ≡ b.kind =
      sym (made_of_word a.kind) ∙ ap (λ (w : List ℕ). made w (type_in a.kind) (bytes_in a.kind)) words ∙
      ap₂ (λ (t : Option LlType) (n : ℕ). made (attribute_word b.kind) t n) parts.0 parts.1 ∙ made_of_word b.kind in
      let bytes : a.byte ≡ b.byte = sym byte_l ∙ ap (λ (t : Lexeme). t.byte) lexemes ∙ byte_l' in
      ap₂ (λ (k : AttributeKind) (n : ℕ). record { kind = k; byte = n }) kinds bytes

  pub attributes_same : (xs ys : List Attribute) (tokens a b : List Lexeme) → attributes_here names xs tokens a → attributes_here names ys tokens b → xs ≡ ys
  attributes_same = all_same (attribute_here names) NoAttribute (attribute_one names names) (attribute_begins names) attribute_same

pub attributes_one : (names other : List NameText) (xs ys : List Attribute) → LeaveOne (attributes_here names xs) (attributes_here other ys)
attributes_one names other = all_one (attribute_here names) (attribute_here other) NoAttribute (attribute_one names other) (attribute_begins names) (attribute_begins other)

-- what an attribute leaves is shorter
bracketed_end : (n : ℕ) → EndsBy (bracketed_number n)
bracketed_end n = seq_ends _ _ (token_end _ _) (seq_ends _ _ (token_end _ _) (token_end _ _))

form_end : (names : List NameText) (f : Form) (t : Option LlType) (n : ℕ) → EndsBy (behind_form names f t n)
form_end names Bare t n tokens rest (_, _, same) = ends_same tokens rest same
form_end names Typed None n tokens rest (_, (same, _)) = ends_same tokens rest same
form_end names Typed (Some t) n tokens rest (_, d) =
    seq_ends (mark 40) (ty_here names t >> mark 41) (token_end _ _) (seq_ends (ty_here names t) (mark 41) (shortens_ends _ (type_shortens names t)) (token_end _ _)) tokens rest d
form_end names Numbered t n tokens rest (_, d) = token_end _ _ tokens rest d
form_end names Bracketed t n tokens rest (_, d) = bracketed_end n tokens rest d

pub attribute_shortens : (names : List NameText) (a : Attribute) → Shortens (attribute_here names a)
attribute_shortens names a =
    seq_shortens _ _ (token_shortens _ _) (λ tokens rest d. form_end names (form_of (attribute_word a.kind)) (type_in a.kind) (bytes_in a.kind) tokens rest (in_form names a.kind tokens rest d))

pub attributes_end : (names : List NameText) (xs : List Attribute) → EndsBy (attributes_here names xs)
attributes_end names xs tokens rest d = each_ends (attribute_here names) (λ a. shortens_ends _ (attribute_shortens names a)) xs tokens rest d.items

-- refused tokens derive nothing
brackets_none : {tokens : List Lexeme} {refusal : Refusal} → BracketsFail tokens refusal → (names : List NameText) (t : Option LlType) (rest : List Lexeme) → brackets_here names t tokens rest → ⊥
unfolding ◌>>◌
brackets_none (no_type inside bracket fails) names None rest (_, nowhere) = nowhere inside bracket
brackets_none {tokens} (no_type inside bracket fails) names (Some t) rest (m, bracket', (p, d, _)) =
    none_type fails names t p (subst (λ ls. ty_here names t ls p) (mark_leaves_one 40 tokens m inside bracket' bracket) d)
brackets_none (no_close other u inside end bracket d unexpected) names None rest (_, nowhere) = nowhere inside bracket
brackets_none {tokens} (no_close other u inside end bracket d unexpected) names (Some t) rest (m, bracket', (p, d', close)) =
    let here : ty_here names t inside p = subst (λ ls. ty_here names t ls p) (mark_leaves_one 40 tokens m inside bracket' bracket) d' in
    unexpected.0 rest (subst (λ ls. mark 41 ls rest) (type_one names other t u inside p end here d) close)

pub bracketed_none : (tokens : List Lexeme) (refusal : Refusal) → IsNoBracketed tokens refusal → DerivesNone bracketed_number tokens
bracketed_none tokens refusal (inl unexpected) = bracketed_none_at_open tokens unexpected.0
bracketed_none tokens refusal (inr (inside, bracket, inl none)) = bracketed_none_at_number tokens inside bracket none.0
bracketed_none tokens refusal (inr (inside, bracket, inr (value, behind, d, unexpected))) = bracketed_none_at_close value tokens inside behind bracket d unexpected.0

known_form : (names : List NameText) (kind : AttributeKind) (f : Form) (text : List ℕ) (tokens rest : List Lexeme) → form_of text ≡ f → attribute_word kind ≡ text → behind_word_here names kind tokens rest → behind_form names f (type_in kind) (bytes_in kind) tokens rest
known_form names kind f text tokens rest is same d =
    subst (λ (g : Form). behind_form names g (type_in kind) (bytes_in kind) tokens rest) (ap form_of same ∙ is) (in_form names kind tokens rest d)

typed_form : (text : List ℕ) → (text ≡ codes "byval") ⊎ (text ≡ codes "sret") → form_of text ≡ Typed
unfolding form_of
typed_form text (inl e) = ap form_of e
typed_form text (inr e) = ap form_of e

numbered_form : (text : List ℕ) → text ≡ codes "align" → form_of text ≡ Numbered
unfolding form_of
numbered_form text e = ap form_of e

bracketed_form : (text : List ℕ) → (text ≡ codes "dereferenceable") ⊎ (text ≡ codes "dereferenceable_or_null") → form_of text ≡ Bracketed
unfolding form_of
bracketed_form text (inl e) = ap form_of e
bracketed_form text (inr e) = ap form_of e

pub kind_none : {text : List ℕ} {tokens : List Lexeme} {refusal : Refusal} → KindFails text tokens refusal → (names : List NameText) (kind : AttributeKind) (rest : List Lexeme) → attribute_word kind ≡ text → behind_word_here names kind tokens rest → ⊥
kind_none {text} {tokens} (in_type e fails) names kind rest same d =
    brackets_none fails names (type_in kind) rest (known_form names kind Typed text tokens rest (typed_form text e) same d).1
kind_none {text} {tokens} (in_align e none) names kind rest same d =
    none.0 (bytes_in kind) rest (known_form names kind Numbered text tokens rest (numbered_form text e) same d).1
kind_none {text} {tokens} {refusal} (in_bytes e fails) names kind rest same d =
    bracketed_none tokens refusal fails (bytes_in kind) rest (known_form names kind Bracketed text tokens rest (bracketed_form text e) same d).1

pub attribute_none : (tokens : List Lexeme) (refusal : Refusal) → AttributeFails tokens refusal → DerivesNoneWith attribute_here tokens
unfolding ◌>>◌
attribute_none tokens refusal fails names a rest (m, (l, is, kind, (text, byte)), d) = from fails.begins
  where
    from : word fails.text tokens fails.behind → ⊥
    from (l', is', kind', text') =
        let words : attribute_word a.kind ≡ fails.text = sym text ∙ ap (λ (t : Lexeme). t.text) (same_first l l' _ _ (sym is ∙ is')) ∙ text' in
        let same : m ≡ fails.behind = same_rest l l' m fails.behind (sym is ∙ is') in
        kind_none fails.fails names a.kind rest words (subst (λ ls. behind_word_here names a.kind ls rest) same d)

-- and yet one begins
kind_begins : (text : List ℕ) (tokens behind : List Lexeme) (refusal : Refusal) → word text tokens behind → KindFails text behind refusal → NoAttribute tokens → ⊥
kind_begins text tokens behind refusal w (in_type (inl e) fails) none = none (ByVal None) behind (subst (λ (t : List ℕ). word t tokens behind) e w)
kind_begins text tokens behind refusal w (in_type (inr e) fails) none = none (SRet None) behind (subst (λ (t : List ℕ). word t tokens behind) e w)
kind_begins text tokens behind refusal w (in_align e fails) none = none (Align 0) behind (subst (λ (t : List ℕ). word t tokens behind) e w)
kind_begins text tokens behind refusal w (in_bytes (inl e) fails) none = none (Dereferenceable 0) behind (subst (λ (t : List ℕ). word t tokens behind) e w)
kind_begins text tokens behind refusal w (in_bytes (inr e) fails) none = none (DereferenceableOrNull 0) behind (subst (λ (t : List ℕ). word t tokens behind) e w)

pub refused_attribute_begins : (tokens : List Lexeme) (refusal : Refusal) → AttributeFails tokens refusal → NoAttribute tokens → ⊥
refused_attribute_begins tokens refusal fails none = kind_begins fails.text tokens fails.behind refusal fails.begins fails.fails none

pub attributes_none : (tokens : List Lexeme) (refusal : Refusal) → AttributesFail tokens refusal → DerivesNoneWith attributes_here tokens
attributes_none tokens refusal stops names =
    all_none (attribute_here stops.before.0) (attribute_here names) NoAttribute (attribute_one stops.before.0 names) (attribute_begins stops.before.0) (attribute_begins names)
    tokens stops.middle stops.before.1 (refused_attribute_begins stops.middle refusal stops.fails) (attribute_none stops.middle refusal stops.fails names)

-- the grammar's attributes before a token that goes on with none of them are those that are read
whole_brackets : (names : List NameText) (t : Option LlType) (tokens rest : List Lexeme) → behind_word names (ByVal t) tokens rest → EndsNowhere (mark 40) rest → brackets_here names t tokens rest
unfolding ◌>>◌
whole_brackets names None tokens rest same nowhere = (same, subst (EndsNowhere (mark 40)) (sym same) nowhere)
whole_brackets names (Some t) tokens rest (m, bracket, (p, d, close)) nowhere =
    (m, bracket, (p, (d, mark_no_pointer 41 p rest (λ e. omega arith) close), close))

whole_kind : (names : List NameText) (kind : AttributeKind) (tokens rest : List Lexeme) → behind_word names kind tokens rest → EndsNowhere (mark 40) rest → behind_word_here names kind tokens rest
whole_kind names (ByVal t) tokens rest d nowhere = whole_brackets names t tokens rest d nowhere
whole_kind names (SRet t) tokens rest d nowhere = whole_brackets names t tokens rest d nowhere
whole_kind names ZeroExt tokens rest d nowhere = d
whole_kind names SignExt tokens rest d nowhere = d
whole_kind names NoAlias tokens rest d nowhere = d
whole_kind names NoCapture tokens rest d nowhere = d
whole_kind names ReadOnly tokens rest d nowhere = d
whole_kind names ReadNone tokens rest d nowhere = d
whole_kind names WriteOnly tokens rest d nowhere = d
whole_kind names NoUndef tokens rest d nowhere = d
whole_kind names NonNull tokens rest d nowhere = d
whole_kind names InReg tokens rest d nowhere = d
whole_kind names Returned tokens rest d nowhere = d
whole_kind names NoFree tokens rest d nowhere = d
whole_kind names ImmArg tokens rest d nowhere = d
whole_kind names (Align n) tokens rest d nowhere = d
whole_kind names (Dereferenceable n) tokens rest d nowhere = d
whole_kind names (DereferenceableOrNull n) tokens rest d nowhere = d

begins_no_bracket : (names : List NameText) (xs : List Attribute) (tokens rest : List Lexeme) → each (attribute names) xs tokens rest → EndsNowhere (mark 40) rest → EndsNowhere (mark 40) tokens
unfolding ◌>>◌
begins_no_bracket names [] tokens rest same nowhere other bracket = nowhere other (subst (λ ls. mark 40 ls other) same bracket)
begins_no_bracket names (a ∷ xs) tokens rest (m, (p, (l, is, kind, (text, byte)), d), more) nowhere other bracket =
    word_no_mark (attribute_word a.kind) 40 tokens p other (l, is, kind, text) bracket

whole_each : (names : List NameText) (xs : List Attribute) (tokens rest : List Lexeme) → each (attribute names) xs tokens rest → EndsNowhere (mark 40) rest → each (attribute_here names) xs tokens rest
unfolding ◌>>◌
whole_each names [] tokens rest same nowhere = same
whole_each names (a ∷ xs) tokens rest (m, (p, w, d), more) nowhere =
    (m, (p, w, whole_kind names a.kind p m d (begins_no_bracket names xs m rest more nowhere)), whole_each names xs m rest more nowhere)

pub attributes_whole : (names : List NameText) (xs : List Attribute) (tokens rest : List Lexeme) → each (attribute names) xs tokens rest → NoAttribute rest → EndsNowhere (mark 40) rest → attributes_here names xs tokens rest
attributes_whole names xs tokens rest d none nowhere = record { items = whole_each names xs tokens rest d nowhere; all = none }

-- and what is read is of the grammar
right_brackets : (names : List NameText) (t : Option LlType) (tokens rest : List Lexeme) → brackets_here names t tokens rest → behind_word names (ByVal t) tokens rest
unfolding ◌>>◌
right_brackets names None tokens rest (same, _) = same
right_brackets names (Some t) tokens rest (m, bracket, (p, d, close)) = (m, bracket, (p, d.0, close))

right_kind : (names : List NameText) (kind : AttributeKind) (tokens rest : List Lexeme) → behind_word_here names kind tokens rest → behind_word names kind tokens rest
right_kind names (ByVal t) tokens rest d = right_brackets names t tokens rest d
right_kind names (SRet t) tokens rest d = right_brackets names t tokens rest d
right_kind names ZeroExt tokens rest d = d
right_kind names SignExt tokens rest d = d
right_kind names NoAlias tokens rest d = d
right_kind names NoCapture tokens rest d = d
right_kind names ReadOnly tokens rest d = d
right_kind names ReadNone tokens rest d = d
right_kind names WriteOnly tokens rest d = d
right_kind names NoUndef tokens rest d = d
right_kind names NonNull tokens rest d = d
right_kind names InReg tokens rest d = d
right_kind names Returned tokens rest d = d
right_kind names NoFree tokens rest d = d
right_kind names ImmArg tokens rest d = d
right_kind names (Align n) tokens rest d = d
right_kind names (Dereferenceable n) tokens rest d = d
right_kind names (DereferenceableOrNull n) tokens rest d = d

pub attribute_right : (names : List NameText) (a : Attribute) (tokens rest : List Lexeme) → attribute_here names a tokens rest → attribute names a tokens rest
unfolding ◌>>◌
attribute_right names a tokens rest (p, w, d) = (p, w, right_kind names a.kind p rest d)

right_each : (names : List NameText) (xs : List Attribute) (tokens rest : List Lexeme) → each (attribute_here names) xs tokens rest → each (attribute names) xs tokens rest
unfolding ◌>>◌
right_each names [] tokens rest same = same
right_each names (a ∷ xs) tokens rest (m, d, more) = (m, attribute_right names a tokens m d, right_each names xs m rest more)

pub attributes_right : (names : List NameText) (xs : List Attribute) (tokens rest : List Lexeme) → attributes_here names xs tokens rest → each (attribute names) xs tokens rest
attributes_right names xs tokens rest d = right_each names xs tokens rest d.items
