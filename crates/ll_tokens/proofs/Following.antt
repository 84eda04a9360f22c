-- Punctuation is a token whatever follows it, and what a token or a blank before a text adds to the
-- text's tokens.
use Rattle.std.proofs.Common.{◌≡◌, ℕ, zero, suc, ◌+◌, ◌≤◌, Bool, true, false, not, ◌&&◌, ◌||◌, cond, eqb, List, [], ◌∷◌, ◌++◌, length, take, drop, sym, refl, ap, ◌∙◌, subst, ⊎_elim, arith, ◌⊎◌, inl, inr, length-take-le}
use Rattle.std.proofs.lemmas.Bool.{and_parts, or_cases, or_right, false≢true, cond-true, cond-false, not-true, and_from, eqb-true}
use Rattle.std.proofs.lemmas.Bool.Decides.{nat_tests}
use Rattle.std.proofs.lemmas.List.{take_at, drop_at}
use Rattle.ll_tokens.specs.declared.bytes.ByteClass.{ByteClass}
use Rattle.ll_tokens.specs.declared.bytes.ByteClass.TheVariants.{Blank, Digit, Name, NameStart, Punctuation, Unquoted, Word as WordByte, WordStart}
use Rattle.ll_tokens.specs.declared.kinds.TokenKind.{TokenKind}
use Rattle.ll_tokens.specs.declared.kinds.TokenKind.TheVariants.{Label, Local, Global, Mdn, MdName, MdStr, Bang, Attr, Str, CStr, Int, Word, Punct}
use Rattle.ll_tokens.specs.Forms.{in_class, Form, End, Run, One, Byte, Until, Either, has_form, has_until}
use Rattle.ll_tokens.specs.Tokens.{form_of, has_kind, behind, behind_gap, Lexeme, IsLongestFront, BeginsWith, Reads}
use Rattle.ll_tokens.proofs.Blanks.{behind_cons}
use Rattle.ll_tokens.proofs.Ends.{kind_not_empty}

-- whether each text of a form begins with a byte that passes `q`, where the classes of which each byte
-- does are `ok`
abbrev begins_pass : (ℕ → Bool) → (ByteClass → Bool) → Form → Bool
begins_pass q ok End = true
begins_pass q ok (Run c) = ok c
begins_pass q ok (One c f) = ok c
begins_pass q ok (Byte x f) = q x
begins_pass q ok (Until c x f) = q x && ok c
begins_pass q ok (Either f g) = begins_pass q ok f && begins_pass q ok g

until_begins : (c : ByteClass) (x : ℕ) (p : List ℕ → Bool) (b : ℕ) (bs : List ℕ) → has_until c x p (b ∷ bs) ≡ true → (eqb b x ≡ true) ⊎ (in_class c b ≡ true)
until_begins c x p b bs h = by_byte (eqb b x) refl
  where
    by_byte : (t : Bool) → eqb b x ≡ t → (eqb b x ≡ true) ⊎ (in_class c b ≡ true)
    by_byte true e = inl e
    by_byte false e = inr (and_parts (in_class c b) _ (ap (λ s. cond s (p bs) (in_class c b && has_until c x p bs)) (sym e) ∙ h)).0

first_passes : (q : ℕ → Bool) (ok : ByteClass → Bool) → ((c : ByteClass) (b : ℕ) → ok c ≡ true → in_class c b ≡ true → q b ≡ true) → (f : Form) → begins_pass q ok f ≡ true → (b : ℕ) (bs : List ℕ) → has_form f (b ∷ bs) ≡ true → q b ≡ true
unfolding has_form
first_passes q ok class End e b bs h = absurd (false≢true h)
first_passes q ok class (Run c) e b bs h = class c b e (and_parts (in_class c b) _ h).0
first_passes q ok class (One c f) e b bs h = class c b e (and_parts (in_class c b) _ h).0
first_passes q ok class (Byte x f) e b bs h = ap q (eqb-true b x (and_parts (eqb b x) _ h).0) ∙ e
first_passes q ok class (Until c x f) e b bs h =
    ⊎_elim (λ same. ap q (eqb-true b x same) ∙ (and_parts (q x) _ e).0) (λ within. class c b (and_parts (q x) _ e).1 within) (until_begins c x (has_form f) b bs h)
first_passes q ok class (Either f g) e b bs h =
    ⊎_elim (λ left. first_passes q ok class f (and_parts (begins_pass q ok f) _ e).0 b bs left)
    (λ right. first_passes q ok class g (and_parts (begins_pass q ok f) _ e).1 b bs right)
    (or_cases (has_form f (b ∷ bs)) (has_form g (b ∷ bs)) h)

-- whether no blank or comment begins with a byte
abbrev is_solid : ℕ → Bool
is_solid b = not (eqb b 59 || in_class Blank b)

abbrev solid : ByteClass → Bool
solid Blank = false
solid Unquoted = false
solid _ = true

class_is_solid : (c : ByteClass) (b : ℕ) → solid c ≡ true → in_class c b ≡ true → is_solid b ≡ true
class_is_solid Blank b e h = absurd (false≢true e)
class_is_solid Digit b e h = grind (arith, nat_tests)
class_is_solid Name b e h = grind (arith, nat_tests)
class_is_solid NameStart b e h = grind (arith, nat_tests)
class_is_solid Punctuation b e h = grind (arith, nat_tests)
class_is_solid Unquoted b e h = absurd (false≢true e)
class_is_solid WordByte b e h = grind (arith, nat_tests)
class_is_solid WordStart b e h = grind (arith, nat_tests)

kind_begins_solid : (kind : TokenKind) → begins_pass is_solid solid (form_of kind) ≡ true
kind_begins_solid Label = refl
kind_begins_solid Local = refl
kind_begins_solid Global = refl
kind_begins_solid Mdn = refl
kind_begins_solid MdName = refl
kind_begins_solid MdStr = refl
kind_begins_solid Bang = refl
kind_begins_solid Attr = refl
kind_begins_solid Str = refl
kind_begins_solid CStr = refl
kind_begins_solid Int = refl
kind_begins_solid Word = refl
kind_begins_solid Punct = refl

-- a token begins with no blank or comment
no_gap_before : (kind : TokenKind) (w rest : List ℕ) → has_kind kind w ≡ true → behind_gap (w ++ rest) ≡ w ++ rest
no_gap_before kind [] rest h = absurd (false≢true (sym (kind_not_empty kind) ∙ h))
no_gap_before kind (b ∷ w) rest h =
    behind_cons false b (w ++ rest)
    ∙ cond-false _ _ _ (not-true _ (first_passes is_solid solid class_is_solid (form_of kind) (kind_begins_solid kind) b w h))

-- a token before a text is the first of its tokens
pub token_then_text_lem : (total : ℕ) (token : Lexeme) (rest after : List ℕ) (tokens : List Lexeme) → IsLongestFront token.kind (length token.text) (token.text ++ rest) → token.byte + length (token.text ++ rest) ≡ total → Reads total tokens rest after → Reads total (token ∷ tokens) (token.text ++ rest) after
token_then_text_lem total token rest after tokens front place reads =
    let whole : has_kind token.kind token.text ≡ true = ap (has_kind token.kind) (sym (take_at token.text rest (length token.text) refl)) ∙ front.of_kind in
    let here = no_gap_before token.kind token.text rest whole in
    let begins : BeginsWith total token (token.text ++ rest) = record {
      text = sym (take_at token.text rest (length token.text) refl);
      front = front;
      place = place;
    } in
    let left : rest ≡ drop (length token.text) (behind_gap (token.text ++ rest)) = sym (drop_at token.text rest (length token.text) refl) ∙ ap (drop (length token.text)) (sym here) in
    (subst (BeginsWith total token) (sym here) begins, subst (λ r. Reads total tokens r after) left reads)

-- a blank before a text leaves its tokens as they are
same_behind : (total : ℕ) (rest other after : List ℕ) (tokens : List Lexeme) → behind_gap other ≡ behind_gap rest → Reads total tokens rest after → Reads total tokens other after
same_behind total rest other after [] same reads = same ∙ reads
same_behind total rest other after (t ∷ ts) same reads =
    (subst (BeginsWith total t) (sym same) reads.0, subst (λ r. Reads total ts (drop (length t.text) r) after) (sym same) reads.1)

blank_starts_no_comment : (b : ℕ) → in_class Blank b ≡ true → eqb b 59 ≡ false
blank_starts_no_comment b h = grind (arith, nat_tests)

pub blank_then_text_lem : (total b : ℕ) (rest after : List ℕ) (tokens : List Lexeme) → in_class Blank b ≡ true → Reads total tokens rest after → Reads total tokens (b ∷ rest) after
blank_then_text_lem total b rest after tokens blank reads =
    same_behind total rest (b ∷ rest) after tokens
    (behind_cons false b rest ∙ cond-true _ _ _ (or_right (eqb b 59) (in_class Blank b) blank) ∙ ap (λ c. behind c rest) (blank_starts_no_comment b blank)) reads

-- no token but punctuation begins with a byte of it
abbrev is_no_punctuation : ℕ → Bool
is_no_punctuation b = not (in_class Punctuation b)

abbrev unpunctuated : ByteClass → Bool
unpunctuated Blank = true
unpunctuated Punctuation = false
unpunctuated Unquoted = false
unpunctuated _ = true

class_is_unpunctuated : (c : ByteClass) (b : ℕ) → unpunctuated c ≡ true → in_class c b ≡ true → is_no_punctuation b ≡ true
class_is_unpunctuated Blank b e h = grind (arith, nat_tests)
class_is_unpunctuated Digit b e h = grind (arith, nat_tests)
class_is_unpunctuated Name b e h = grind (arith, nat_tests)
class_is_unpunctuated NameStart b e h = grind (arith, nat_tests)
class_is_unpunctuated Punctuation b e h = absurd (false≢true e)
class_is_unpunctuated Unquoted b e h = absurd (false≢true e)
class_is_unpunctuated WordByte b e h = grind (arith, nat_tests)
class_is_unpunctuated WordStart b e h = grind (arith, nat_tests)

punctuation_len : (b : ℕ) (bs : List ℕ) (n : ℕ) → has_kind Punct (b ∷ bs) ≡ true → n ≤ length (b ∷ bs) → n ≤ 1
unfolding has_form
punctuation_len b [] n h le = le
punctuation_len b (c ∷ bs) n h le = absurd (false≢true (and_parts (in_class Punctuation b) false h).1)

one_front : (b : ℕ) (bs : List ℕ) (other : TokenKind) (m : ℕ) → in_class Punctuation b ≡ true → has_kind other (take m (b ∷ bs)) ≡ true → m ≤ suc (length bs) → m ≤ 1
one_front b bs other zero punct h le = omega arith
one_front b bs other (suc m) punct h le = by_kind other h
  where
    unlike : (k : TokenKind) → begins_pass is_no_punctuation unpunctuated (form_of k) ≡ true → has_kind k (b ∷ take m bs) ≡ true → suc m ≤ 1
    unlike k e has = absurd (false≢true (sym (ap not punct) ∙ first_passes is_no_punctuation unpunctuated class_is_unpunctuated (form_of k) e b (take m bs) has))

    by_kind : (k : TokenKind) → has_kind k (b ∷ take m bs) ≡ true → suc m ≤ 1
    by_kind Label has = unlike Label refl has
    by_kind Local has = unlike Local refl has
    by_kind Global has = unlike Global refl has
    by_kind Mdn has = unlike Mdn refl has
    by_kind MdName has = unlike MdName refl has
    by_kind MdStr has = unlike MdStr refl has
    by_kind Bang has = unlike Bang refl has
    by_kind Attr has = unlike Attr refl has
    by_kind Str has = unlike Str refl has
    by_kind CStr has = unlike CStr refl has
    by_kind Int has = unlike Int refl has
    by_kind Word has = unlike Word refl has
    by_kind Punct has = punctuation_len b (take m bs) (suc m) has (omega (arith, length-take-le m bs (omega arith)))

-- punctuation is a token whatever stands behind it
pub punctuation_lem : (b : ℕ) (rest : List ℕ) → in_class Punctuation b ≡ true → IsLongestFront Punct 1 (b ∷ rest)
unfolding has_form
punctuation_lem b rest punct = record {
  in_range = omega arith;
  of_kind = and_from (in_class Punctuation b) true punct refl;
  longest = λ other m le h. one_front b rest other m punct h le;
}
