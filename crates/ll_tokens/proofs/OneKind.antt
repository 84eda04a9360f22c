-- No text is of two kinds: a label ends with a colon and no other token does, and the first two bytes
-- tell the other kinds apart.
use Rattle.std.proofs.Common.{◌≡◌, ℕ, ◌+◌, ◌-◌, ◌<◌, Bool, true, false, not, ◌&&◌, ◌||◌, cond, eqb, List, [], ◌∷◌, ◌++◌, length, get_or, take, sym, refl, ap, ◌∙◌, subst, ⊎_elim, arith, ◌⊎◌, inl, inr}
use Rattle.std.specs.List.{list_all}
use Rattle.std.proofs.lemmas.Bool.{and_parts, or_cases, false≢true, cases_Bool, eqb-true, ltb-true, agree_below_at, cond-true, cond-false, not_from_false, not-true}
use Rattle.std.proofs.lemmas.Bool.Decides.{nat_tests}
use Rattle.std.proofs.lemmas.List.{take_more, take_all}
use Rattle.ll_tokens.specs.declared.bytes.ByteClass.{ByteClass}
use Rattle.ll_tokens.specs.declared.bytes.ByteClass.TheVariants.{Digit, NameStart, Punctuation, Word as WordByte, WordStart}
use Rattle.ll_tokens.specs.declared.kinds.TokenKind.{TokenKind}
use Rattle.ll_tokens.specs.declared.kinds.TokenKind.TheVariants.{Label, Local, Global, Mdn, MdName, MdStr, Bang, Attr, Str, CStr, Int, Word, Punct}
use Rattle.ll_tokens.specs.Forms.{in_class, End, has_form}
use Rattle.ll_tokens.specs.Tokens.{form_of, has_kind, digits, name, quoted}
use Rattle.ll_tokens.proofs.Ends.{ends_pass, last_passes, kind_not_empty, ascii_class, class_is_ascii}

-- what the first byte of a token that is no label says of its kind
data Lead : Type 0 where
  Percent : Lead
  At : Lead
  Exclamation : Lead
  Hash : Lead
  Quote : Lead
  Numeric : Lead
  Letter : Lead
  Other : Lead

abbrev lead : ℕ → Lead
lead b =
    cond (eqb b 37) Percent (cond (eqb b 64) At (cond (eqb b 33) Exclamation (cond (eqb b 35) Hash (cond (eqb b 34) Quote
    (cond (in_class Digit b || eqb b 45) Numeric (cond (in_class WordStart b) Letter Other))))))

abbrev metadata_kind : List ℕ → TokenKind
metadata_kind [] = Bang
metadata_kind (b ∷ bs) = cond (in_class Digit b) Mdn (cond (eqb b 34) MdStr MdName)

abbrev word_kind : List ℕ → TokenKind
word_kind [] = Word
word_kind (b ∷ bs) = cond (eqb b 34) CStr Word

abbrev by_lead : Lead → List ℕ → TokenKind
by_lead Percent bs = Local
by_lead At bs = Global
by_lead Exclamation bs = metadata_kind bs
by_lead Hash bs = Attr
by_lead Quote bs = Str
by_lead Numeric bs = Int
by_lead Letter bs = word_kind bs
by_lead Other bs = Punct

-- the kind of a text that is no label
abbrev kind_at : ℕ → List ℕ → TokenKind
kind_at b bs = by_lead (lead b) bs

abbrev is_numeric : Lead → Bool
is_numeric Numeric = true
is_numeric _ = false

abbrev is_letter : Lead → Bool
is_letter Letter = true
is_letter _ = false

abbrev is_other : Lead → Bool
is_other Other = true
is_other _ = false

numeric_is : (l : Lead) → is_numeric l ≡ true → l ≡ Numeric
numeric_is Numeric h = refl
numeric_is _ h = absurd (false≢true h)

letter_is : (l : Lead) → is_letter l ≡ true → l ≡ Letter
letter_is Letter h = refl
letter_is _ h = absurd (false≢true h)

other_is : (l : Lead) → is_other l ≡ true → l ≡ Other
other_is Other h = refl
other_is _ h = absurd (false≢true h)

-- a fact of each byte of a class, by a look at each byte below 128
by_table : (c : ByteClass) (p : ℕ → Bool) → ascii_class c ≡ true → ((b : ℕ) → b < 128 → in_class c b ≡ (in_class c b && p b)) → (b : ℕ) → in_class c b ≡ true → p b ≡ true
by_table c p ascii table b h =
    (and_parts (in_class c b) (p b) (sym (table b (ltb-true b 128 (class_is_ascii c b ascii h))) ∙ h)).1

digit_lead : (b : ℕ) → in_class Digit b ≡ true → lead b ≡ Numeric
digit_lead b h =
    numeric_is (lead b) (by_table Digit (λ d. is_numeric (lead d)) refl (λ d. agree_below_at (in_class Digit) (λ k. in_class Digit k && is_numeric (lead k)) 128 d refl) b h)

letter_lead : (b : ℕ) → in_class WordStart b ≡ true → lead b ≡ Letter
letter_lead b h =
    letter_is (lead b) (by_table WordStart (λ d. is_letter (lead d)) refl (λ d. agree_below_at (in_class WordStart) (λ k. in_class WordStart k && is_letter (lead k)) 128 d refl) b h)

punctuation_lead : (b : ℕ) → in_class Punctuation b ≡ true → lead b ≡ Other
punctuation_lead b h =
    other_is (lead b) (by_table Punctuation (λ d. is_other (lead d)) refl (λ d. agree_below_at (in_class Punctuation) (λ k. in_class Punctuation k && is_other (lead k)) 128 d refl) b h)

-- a token that begins with a given byte
at_byte : (x b : ℕ) (bs : List ℕ) → eqb b x ≡ true → kind_at b bs ≡ kind_at x bs
at_byte x b bs e = ap (λ y. kind_at y bs) (eqb-true b x e)

digits_metadata : (bs : List ℕ) → has_form digits bs ≡ true → metadata_kind bs ≡ Mdn
unfolding has_form
digits_metadata [] h = absurd (false≢true h)
digits_metadata (b ∷ bs) h = cond-true (in_class Digit b) _ _ (and_parts (in_class Digit b) _ h).0

name_no_digit : (b : ℕ) → in_class NameStart b ≡ true → in_class Digit b ≡ false
name_no_digit b h = grind (arith, nat_tests)

name_no_quote : (b : ℕ) → in_class NameStart b ≡ true → eqb b 34 ≡ false
name_no_quote b h = grind (arith, nat_tests)

word_no_quote : (b : ℕ) → in_class WordByte b ≡ true → eqb b 34 ≡ false
word_no_quote b h = grind (arith, nat_tests)

name_metadata : (bs : List ℕ) → has_form name bs ≡ true → metadata_kind bs ≡ MdName
unfolding has_form
name_metadata [] h = absurd (false≢true h)
name_metadata (b ∷ bs) h =
    let start = (and_parts (in_class NameStart b) _ h).0 in
    cond-false (in_class Digit b) _ _ (name_no_digit b start) ∙ cond-false (eqb b 34) _ _ (name_no_quote b start)

string_metadata : (bs : List ℕ) → has_form (quoted End) bs ≡ true → metadata_kind bs ≡ MdStr
unfolding has_form
string_metadata [] h = absurd (false≢true h)
string_metadata (b ∷ bs) h = ap (λ y. metadata_kind (y ∷ bs)) (eqb-true b 34 (and_parts (eqb b 34) _ h).0)

no_metadata : (bs : List ℕ) → has_form End bs ≡ true → metadata_kind bs ≡ Bang
unfolding has_form
no_metadata [] h = refl
no_metadata (b ∷ bs) h = absurd (false≢true h)

string_word : (bs : List ℕ) → has_form (quoted End) bs ≡ true → word_kind bs ≡ CStr
unfolding has_form
string_word [] h = absurd (false≢true h)
string_word (b ∷ bs) h = ap (λ y. word_kind (y ∷ bs)) (eqb-true b 34 (and_parts (eqb b 34) _ h).0)

word_word : (bs : List ℕ) → list_all (in_class WordByte) bs ≡ true → word_kind bs ≡ Word
word_word [] h = refl
word_word (b ∷ bs) h = cond-false (eqb b 34) _ _ (word_no_quote b (and_parts (in_class WordByte b) _ h).0)

int_kind : (b : ℕ) (bs : List ℕ) → (in_class Digit b ≡ true) ⊎ (eqb b 45 ≡ true) → kind_at b bs ≡ Int
int_kind b bs h = ⊎_elim (λ digit. ap (λ l. by_lead l bs) (digit_lead b digit)) (λ minus. at_byte 45 b bs minus) h

kind_from_text : (kind : TokenKind) (b : ℕ) (bs : List ℕ) → (kind ≡ Label → ⊥) → has_kind kind (b ∷ bs) ≡ true → kind_at b bs ≡ kind
unfolding has_form
kind_from_text Label b bs other h = absurd (other refl)
kind_from_text Local b bs other h = at_byte 37 b bs (and_parts (eqb b 37) _ h).0
kind_from_text Global b bs other h = at_byte 64 b bs (and_parts (eqb b 64) _ h).0
kind_from_text Mdn b bs other h = at_byte 33 b bs (and_parts (eqb b 33) _ h).0 ∙ digits_metadata bs (and_parts (eqb b 33) _ h).1
kind_from_text MdName b bs other h = at_byte 33 b bs (and_parts (eqb b 33) _ h).0 ∙ name_metadata bs (and_parts (eqb b 33) _ h).1
kind_from_text MdStr b bs other h = at_byte 33 b bs (and_parts (eqb b 33) _ h).0 ∙ string_metadata bs (and_parts (eqb b 33) _ h).1
kind_from_text Bang b bs other h = at_byte 33 b bs (and_parts (eqb b 33) _ h).0 ∙ no_metadata bs (and_parts (eqb b 33) _ h).1
kind_from_text Attr b bs other h = at_byte 35 b bs (and_parts (eqb b 35) _ h).0
kind_from_text Str b bs other h = at_byte 34 b bs (and_parts (eqb b 34) _ h).0
kind_from_text CStr b bs other h = at_byte 99 b bs (and_parts (eqb b 99) _ h).0 ∙ string_word bs (and_parts (eqb b 99) _ h).1
kind_from_text Int b bs other h =
    int_kind b bs (⊎_elim (λ d. inl (and_parts (in_class Digit b) _ d).0) (λ m. inr (and_parts (eqb b 45) _ m).0) (or_cases (has_form digits (b ∷ bs)) _ h))
kind_from_text Word b bs other h =
    ap (λ l. by_lead l bs) (letter_lead b (and_parts (in_class WordStart b) _ h).0) ∙ word_word bs (and_parts (in_class WordStart b) _ h).1
kind_from_text Punct b bs other h = ap (λ l. by_lead l bs) (punctuation_lead b (and_parts (in_class Punctuation b) _ h).0)

-- a label ends with a colon, and no other token does
no_class : (q : ℕ → Bool) (c : ByteClass) (b : ℕ) → false ≡ true → in_class c b ≡ true → q b ≡ true
no_class q c b e h = absurd (false≢true e)

label_ends : (t : List ℕ) (b : ℕ) → has_kind Label (t ++ b ∷ []) ≡ true → eqb b 58 ≡ true
unfolding has_form
label_ends t b h = last_passes (λ y. eqb y 58) (λ _. false) (no_class (λ y. eqb y 58)) (form_of Label) refl t b h

abbrev lacks_colon : ByteClass → Bool
lacks_colon c = not (in_class c 58)

class_lacks_colon : (c : ByteClass) (b : ℕ) → lacks_colon c ≡ true → in_class c b ≡ true → not (eqb b 58) ≡ true
class_lacks_colon c b lacks h =
    ⊎_elim (λ e. absurd (false≢true (sym (not-true (in_class c 58) lacks) ∙ ap (in_class c) (sym (eqb-true b 58 e)) ∙ h))) (λ e. not_from_false (eqb b 58) e) (cases_Bool (eqb b 58))

ends_without_colon : (kind : TokenKind) → (kind ≡ Label → ⊥) → ends_pass (λ y. not (eqb y 58)) lacks_colon (form_of kind) ≡ true
unfolding has_form
ends_without_colon Label other = absurd (other refl)
ends_without_colon Local other = refl
ends_without_colon Global other = refl
ends_without_colon Mdn other = refl
ends_without_colon MdName other = refl
ends_without_colon MdStr other = refl
ends_without_colon Bang other = refl
ends_without_colon Attr other = refl
ends_without_colon Str other = refl
ends_without_colon CStr other = refl
ends_without_colon Int other = refl
ends_without_colon Word other = refl
ends_without_colon Punct other = refl

-- the bytes before the last one, and that
snoc : (text : List ℕ) → 0 < length text → text ≡ take (length text - 1) text ++ get_or text (length text - 1) 0 ∷ []
snoc text h =
    let back : length text - 1 + 1 ≡ length text = omega arith in
    sym (take_all (length text) text (omega arith)) ∙ ap (λ k. take k text) (sym back) ∙ take_more text (length text - 1) 0 (omega arith)

no_other_label : (kind : TokenKind) → (kind ≡ Label → ⊥) → (text : List ℕ) → 0 < length text → has_kind Label text ≡ true → has_kind kind text ≡ true → ⊥
no_other_label kind other text some label h =
    let split = snoc text some in
    let ends = label_ends _ _ (ap (has_kind Label) (sym split) ∙ label) in
    let ends_not = last_passes (λ y. not (eqb y 58)) lacks_colon class_lacks_colon (form_of kind) (ends_without_colon kind other) _ _ (ap (has_kind kind) (sym split) ∙ h) in
    false≢true (sym (ap not ends) ∙ ends_not)

is_label : (kind : TokenKind) → (kind ≡ Label) ⊎ (kind ≡ Label → ⊥)
is_label Label = inl refl
is_label Local = inr (λ e. cc)
is_label Global = inr (λ e. cc)
is_label Mdn = inr (λ e. cc)
is_label MdName = inr (λ e. cc)
is_label MdStr = inr (λ e. cc)
is_label Bang = inr (λ e. cc)
is_label Attr = inr (λ e. cc)
is_label Str = inr (λ e. cc)
is_label CStr = inr (λ e. cc)
is_label Int = inr (λ e. cc)
is_label Word = inr (λ e. cc)
is_label Punct = inr (λ e. cc)

-- no text is of two kinds
pub one_kind_lem : (k j : TokenKind) (text : List ℕ) → has_kind k text ≡ true → has_kind j text ≡ true → k ≡ j
one_kind_lem k j [] hk hj = absurd (false≢true (sym (kind_not_empty k) ∙ hk))
one_kind_lem k j (b ∷ bs) hk hj =
    ⊎_elim
    (λ k_is. ⊎_elim (λ j_is. k_is ∙ sym j_is) (λ j_not. absurd (no_other_label j j_not (b ∷ bs) (omega arith) (subst (λ x. has_kind x (b ∷ bs) ≡ true) k_is hk) hj)) (is_label j))
    (λ k_not. ⊎_elim
    (λ j_is. absurd (no_other_label k k_not (b ∷ bs) (omega arith) (subst (λ x. has_kind x (b ∷ bs) ≡ true) j_is hj) hk))
    (λ j_not. sym (kind_from_text k b bs k_not hk) ∙ kind_from_text j b bs j_not hj)
    (is_label j))
    (is_label k)
