-- With which bytes the texts of a form end.
use Rattle.std.proofs.Common.{◌≡◌, ℕ, ◌+◌, ◌-◌, ◌<◌, ◌≤◌, Bool, true, false, not, ◌&&◌, ◌||◌, cond, eqb, ltb, List, [], ◌∷◌, ◌++◌, get_or, take, IsUtf8, sym, refl, ap, ◌∙◌, subst, ⊎_elim, arith}
use Rattle.std.specs.List.{list_all}
use Rattle.std.specs.Str.{IsCharBoundary}
use Rattle.std.proofs.lemmas.Bool.{and_parts, or_cases, false≢true, cases_Bool, eqb-true, ltb-true, cases_lt}
use Rattle.std.proofs.lemmas.Bool.Decides.{nat_tests}
use Rattle.std.proofs.lemmas.List.{take_more}
use Rattle.std.proofs.lemmas.Str.{IsCharBoundary-after_ascii}
use Rattle.ll_tokens.specs.declared.bytes.ByteClass.{ByteClass}
use Rattle.ll_tokens.specs.declared.bytes.ByteClass.TheVariants.{Blank, Digit, Name, NameStart, Punctuation, Unquoted, Word as WordByte, WordStart}
use Rattle.ll_tokens.specs.declared.kinds.TokenKind.{TokenKind}
use Rattle.ll_tokens.specs.declared.kinds.TokenKind.TheVariants.{Label, Local, Global, Mdn, MdName, MdStr, Bang, Attr, Str, CStr, Int, Word, Punct}
use Rattle.ll_tokens.specs.Forms.{in_class, Form, End, Run, One, Byte, Until, Either, has_form, has_until}
use Rattle.ll_tokens.specs.Tokens.{form_of, has_kind, IsLongestFront}

-- whether each text of a form that has a byte ends with one that passes `q`, where the classes of which
-- each byte does are `ok`
abbrev pub ends_pass : (ℕ → Bool) → (ByteClass → Bool) → Form → Bool
ends_pass q ok End = true
ends_pass q ok (Run c) = ok c
ends_pass q ok (One c f) = ends_pass q ok f && (not (has_form f []) || ok c)
ends_pass q ok (Byte x f) = ends_pass q ok f && (not (has_form f []) || q x)
ends_pass q ok (Until c x f) = ends_pass q ok f && (not (has_form f []) || q x)
ends_pass q ok (Either f g) = ends_pass q ok f && ends_pass q ok g

list_all_last : (p : ℕ → Bool) (t : List ℕ) (b : ℕ) → list_all p (t ++ b ∷ []) ≡ true → p b ≡ true
list_all_last p [] b h = (and_parts (p b) true h).0
list_all_last p (y ∷ t) b h = list_all_last p t b (and_parts (p y) _ h).1

-- of "not x, or y", where x holds
second : (x y : Bool) → (not x || y) ≡ true → x ≡ true → y ≡ true
second true y h e = h
second false y h e = absurd (false≢true e)

until_last : (q : ℕ → Bool) (c : ByteClass) (x : ℕ) (p : List ℕ → Bool) → (p [] ≡ true → q x ≡ true) → ((t : List ℕ) (b : ℕ) → p (t ++ b ∷ []) ≡ true → q b ≡ true) → (t : List ℕ) (b : ℕ) → has_until c x p (t ++ b ∷ []) ≡ true → q b ≡ true
until_last q c x p at_x behind [] b h =
    ⊎_elim
    (λ e. ap q (eqb-true b x e) ∙ at_x (ap (λ s. cond s (p []) (in_class c b && false)) (sym e) ∙ h))
    (λ e. absurd (false≢true (and_parts (in_class c b) false (ap (λ s. cond s (p []) (in_class c b && false)) (sym e) ∙ h)).1))
    (cases_Bool (eqb b x))
until_last q c x p at_x behind (y ∷ t) b h =
    ⊎_elim
    (λ e. behind t b (ap (λ s. cond s (p (t ++ b ∷ [])) (in_class c y && has_until c x p (t ++ b ∷ []))) (sym e) ∙ h))
    (λ e. until_last q c x p at_x behind t b (and_parts (in_class c y) _ (ap (λ s. cond s (p (t ++ b ∷ [])) (in_class c y && has_until c x p (t ++ b ∷ []))) (sym e) ∙ h)).1)
    (cases_Bool (eqb y x))

pub last_passes : (q : ℕ → Bool) (ok : ByteClass → Bool) → ((c : ByteClass) (b : ℕ) → ok c ≡ true → in_class c b ≡ true → q b ≡ true) → (f : Form) → ends_pass q ok f ≡ true → (t : List ℕ) (b : ℕ) → has_form f (t ++ b ∷ []) ≡ true → q b ≡ true
unfolding has_form
last_passes q ok class End e [] b h = absurd (false≢true h)
last_passes q ok class End e (y ∷ t) b h = absurd (false≢true h)
last_passes q ok class (Run c) e t b h = class c b e (list_all_last (in_class c) t b h)
last_passes q ok class (One c f) e [] b h =
    let parts = and_parts (in_class c b) (has_form f []) h in
    class c b (second (has_form f []) (ok c) (and_parts (ends_pass q ok f) _ e).1 parts.1) parts.0
last_passes q ok class (One c f) e (y ∷ t) b h =
    last_passes q ok class f (and_parts (ends_pass q ok f) _ e).0 t b (and_parts (in_class c y) _ h).1
last_passes q ok class (Byte x f) e [] b h =
    let parts = and_parts (eqb b x) (has_form f []) h in
    ap q (eqb-true b x parts.0) ∙ second (has_form f []) (q x) (and_parts (ends_pass q ok f) _ e).1 parts.1
last_passes q ok class (Byte x f) e (y ∷ t) b h =
    last_passes q ok class f (and_parts (ends_pass q ok f) _ e).0 t b (and_parts (eqb y x) _ h).1
last_passes q ok class (Until c x f) e t b h =
    until_last q c x (has_form f) (second (has_form f []) (q x) (and_parts (ends_pass q ok f) _ e).1)
    (λ s d. last_passes q ok class f (and_parts (ends_pass q ok f) _ e).0 s d) t b h
last_passes q ok class (Either f g) e t b h =
    ⊎_elim (λ left. last_passes q ok class f (and_parts (ends_pass q ok f) _ e).0 t b left)
    (λ right. last_passes q ok class g (and_parts (ends_pass q ok f) _ e).1 t b right)
    (or_cases (has_form f (t ++ b ∷ [])) (has_form g (t ++ b ∷ [])) h)

-- the classes of bytes below 128
abbrev pub ascii_class : ByteClass → Bool
ascii_class Unquoted = false
ascii_class _ = true

pub class_is_ascii : (c : ByteClass) (b : ℕ) → ascii_class c ≡ true → in_class c b ≡ true → ltb b 128 ≡ true
class_is_ascii Blank b e h = grind (arith, nat_tests)
class_is_ascii Digit b e h = grind (arith, nat_tests)
class_is_ascii Name b e h = grind (arith, nat_tests)
class_is_ascii NameStart b e h = grind (arith, nat_tests)
class_is_ascii Punctuation b e h = grind (arith, nat_tests)
class_is_ascii Unquoted b e h = absurd (false≢true e)
class_is_ascii WordByte b e h = grind (arith, nat_tests)
class_is_ascii WordStart b e h = grind (arith, nat_tests)

kind_ends_in_ascii : (kind : TokenKind) → ends_pass (λ b. ltb b 128) ascii_class (form_of kind) ≡ true
unfolding has_form
kind_ends_in_ascii Label = refl
kind_ends_in_ascii Local = refl
kind_ends_in_ascii Global = refl
kind_ends_in_ascii Mdn = refl
kind_ends_in_ascii MdName = refl
kind_ends_in_ascii MdStr = refl
kind_ends_in_ascii Bang = refl
kind_ends_in_ascii Attr = refl
kind_ends_in_ascii Str = refl
kind_ends_in_ascii CStr = refl
kind_ends_in_ascii Int = refl
kind_ends_in_ascii Word = refl
kind_ends_in_ascii Punct = refl

-- no kind has the empty text
pub kind_not_empty : (kind : TokenKind) → has_kind kind [] ≡ false
unfolding has_form
kind_not_empty Label = refl
kind_not_empty Local = refl
kind_not_empty Global = refl
kind_not_empty Mdn = refl
kind_not_empty MdName = refl
kind_not_empty MdStr = refl
kind_not_empty Bang = refl
kind_not_empty Attr = refl
kind_not_empty Str = refl
kind_not_empty CStr = refl
kind_not_empty Int = refl
kind_not_empty Word = refl
kind_not_empty Punct = refl

module _ {kind : TokenKind} {n : ℕ} {rest : List ℕ} (front : IsLongestFront kind n rest) where
  pub front_not_empty : 0 < n
  front_not_empty = ⊎_elim (λ positive. positive) (λ none. absurd (false≢true (sym (kind_not_empty kind) ∙ ap (λ k. has_kind kind (take k rest)) (at_most_zero none) ∙ front.of_kind))) (cases_lt 0 n)
    where
      at_most_zero : n ≤ 0 → 0 ≡ n
      at_most_zero h = omega arith

  -- behind a token the text may be cut
  pub boundary_behind_front : IsUtf8 rest → IsCharBoundary rest n
  boundary_behind_front utf8 =
      let positive = front_not_empty in
      let in_range = front.in_range in
      let back : n - 1 + 1 ≡ n = omega arith in
      let split : take n rest ≡ take (n - 1) rest ++ get_or rest (n - 1) 0 ∷ [] = ap (λ k. take k rest) (sym back) ∙ take_more rest (n - 1) 0 (omega arith) in
      let ascii = ltb-true _ 128 (last_passes (λ b. ltb b 128) ascii_class class_is_ascii (form_of kind) (kind_ends_in_ascii kind) (take (n - 1) rest) (get_or rest (n - 1) 0) (ap (has_kind kind) (sym split) ∙ front.of_kind)) in
      subst (IsCharBoundary rest) back (IsCharBoundary-after_ascii rest (n - 1) utf8 (omega arith) ascii)
