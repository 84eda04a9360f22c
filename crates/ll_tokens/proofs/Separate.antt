-- A token is the longest front where a blank, a comment or punctuation stands behind it: those stand
-- inside a token between quotes only, and each token has closed its quotes.
use Rattle.std.proofs.Common.{◌≡◌, ℕ, zero, suc, ◌-◌, ◌<◌, ◌≤◌, Bool, true, false, not, ◌&&◌, ◌||◌, cond, eqb, List, [], ◌∷◌, ◌++◌, length, take, sym, refl, ap, ◌∙◌, subst, ⊎_elim, arith, length-append}
use Rattle.std.specs.List.{list_all}
use Rattle.std.proofs.lemmas.Bool.{and_parts, or_cases, false≢true, cases_Bool, eqb-true, not-true, cond-false, cases_lt}
use Rattle.std.proofs.lemmas.Bool.Decides.{nat_tests}
use Rattle.std.proofs.lemmas.List.{take_at}
use Rattle.ll_tokens.specs.declared.bytes.ByteClass.{ByteClass}
use Rattle.ll_tokens.specs.declared.bytes.ByteClass.TheVariants.{Blank, Digit, Name, NameStart, Punctuation, Unquoted, Word as WordByte, WordStart}
use Rattle.ll_tokens.specs.declared.kinds.TokenKind.{TokenKind}
use Rattle.ll_tokens.specs.declared.kinds.TokenKind.TheVariants.{Label, Local, Global, Mdn, MdName, MdStr, Bang, Attr, Str, CStr, Int, Word, Punct}
use Rattle.ll_tokens.specs.Forms.{in_class, Form, End, Run, One, Byte, Until, Either, has_form, has_until}
use Rattle.ll_tokens.specs.Breaks.{is_break, begins_with_break}
use Rattle.ll_tokens.specs.Tokens.{form_of, has_kind, IsLongestFront}
use Rattle.ll_tokens.proofs.Ends.{kind_not_empty}

-- whether a quote is open behind a byte, where it was or wasn't before it
abbrev toggled : ℕ → Bool → Bool
toggled b quoting = cond (eqb b 34) (not quoting) quoting

-- whether a quote is open behind a text
abbrev quoting_behind : Bool → List ℕ → Bool
quoting_behind quoting [] = quoting
quoting_behind quoting (b ∷ bs) = quoting_behind (toggled b quoting) bs

-- a quote is of no class
quote_in_no_class : (c : ByteClass) → in_class c 34 ≡ false
quote_in_no_class Blank = refl
quote_in_no_class Digit = refl
quote_in_no_class Name = refl
quote_in_no_class NameStart = refl
quote_in_no_class Punctuation = refl
quote_in_no_class Unquoted = refl
quote_in_no_class WordByte = refl
quote_in_no_class WordStart = refl

class_keeps : (c : ByteClass) (b : ℕ) (quoting : Bool) → in_class c b ≡ true → quoting ≡ toggled b quoting
class_keeps c b quoting h =
    ⊎_elim
    (λ e. absurd (false≢true (sym (quote_in_no_class c) ∙ ap (in_class c) (sym (eqb-true b 34 e)) ∙ h)))
    (λ e. sym (cond-false (eqb b 34) _ _ e))
    (cases_Bool (eqb b 34))

byte_toggles : (x b : ℕ) (quoting : Bool) → eqb b x ≡ true → toggled x quoting ≡ toggled b quoting
byte_toggles x b quoting e = ap (λ y. toggled y quoting) (sym (eqb-true b x e))

-- whether no text of a form leaves a quote open
abbrev closes : Bool → Form → Bool
closes quoting End = not quoting
closes quoting (Run c) = not quoting
closes quoting (One c f) = closes quoting f
closes quoting (Byte x f) = closes (toggled x quoting) f
closes quoting (Until c x f) = closes (toggled x quoting) f
closes quoting (Either f g) = closes quoting f && closes quoting g

run_closes : (c : ByteClass) (quoting : Bool) (t : List ℕ) → quoting ≡ false → list_all (in_class c) t ≡ true → quoting_behind quoting t ≡ false
run_closes c quoting [] e h = e
run_closes c quoting (b ∷ t) e h =
    let parts = and_parts (in_class c b) _ h in
    run_closes c (toggled b quoting) t (sym (class_keeps c b quoting parts.0) ∙ e) parts.1

until_closes : (c : ByteClass) (x : ℕ) (p : List ℕ → Bool) (quoting : Bool) → ((t : List ℕ) → p t ≡ true → quoting_behind (toggled x quoting) t ≡ false) → (t : List ℕ) → has_until c x p t ≡ true → quoting_behind quoting t ≡ false
until_closes c x p quoting after [] h = absurd (false≢true h)
until_closes c x p quoting after (b ∷ t) h =
    ⊎_elim
    (λ e. subst (λ q. quoting_behind q t ≡ false) (byte_toggles x b quoting e) (after t (ap (λ s. cond s (p t) (in_class c b && has_until c x p t)) (sym e) ∙ h)))
    (λ e. let parts = and_parts (in_class c b) _ (ap (λ s. cond s (p t) (in_class c b && has_until c x p t)) (sym e) ∙ h) in
    subst (λ q. quoting_behind q t ≡ false) (class_keeps c b quoting parts.0) (until_closes c x p quoting after t parts.1))
    (cases_Bool (eqb b x))

form_closes : (f : Form) (quoting : Bool) → closes quoting f ≡ true → (t : List ℕ) → has_form f t ≡ true → quoting_behind quoting t ≡ false
unfolding has_form
form_closes End quoting e [] h = not-true quoting e
form_closes End quoting e (b ∷ t) h = absurd (false≢true h)
form_closes (Run c) quoting e t h = run_closes c quoting t (not-true quoting e) h
form_closes (One c f) quoting e [] h = absurd (false≢true h)
form_closes (One c f) quoting e (b ∷ t) h =
    let parts = and_parts (in_class c b) _ h in
    subst (λ q. quoting_behind q t ≡ false) (class_keeps c b quoting parts.0) (form_closes f quoting e t parts.1)
form_closes (Byte x f) quoting e [] h = absurd (false≢true h)
form_closes (Byte x f) quoting e (b ∷ t) h =
    let parts = and_parts (eqb b x) _ h in
    subst (λ q. quoting_behind q t ≡ false) (byte_toggles x b quoting parts.0) (form_closes f (toggled x quoting) e t parts.1)
form_closes (Until c x f) quoting e t h = until_closes c x (has_form f) quoting (λ s hs. form_closes f (toggled x quoting) e s hs) t h
form_closes (Either f g) quoting e t h =
    ⊎_elim (λ left. form_closes f quoting (and_parts (closes quoting f) _ e).0 t left)
    (λ right. form_closes g quoting (and_parts (closes quoting f) _ e).1 t right)
    (or_cases (has_form f t) (has_form g t) h)

-- the classes that no break is of
abbrev breakless : ByteClass → Bool
breakless Blank = false
breakless Punctuation = false
breakless Unquoted = false
breakless _ = true

class_breakless : (c : ByteClass) (b : ℕ) → breakless c ≡ true → in_class c b ≡ true → is_break b ≡ false
class_breakless Blank b e h = absurd (false≢true e)
class_breakless Digit b e h = grind (arith, nat_tests)
class_breakless Name b e h = grind (arith, nat_tests)
class_breakless NameStart b e h = grind (arith, nat_tests)
class_breakless Punctuation b e h = absurd (false≢true e)
class_breakless Unquoted b e h = absurd (false≢true e)
class_breakless WordByte b e h = grind (arith, nat_tests)
class_breakless WordStart b e h = grind (arith, nat_tests)

-- whether a break stands in a text of a form between quotes only
abbrev quotes_breaks : Bool → Form → Bool
quotes_breaks quoting End = true
quotes_breaks quoting (Run c) = breakless c
quotes_breaks quoting (One c f) = breakless c && quotes_breaks quoting f
quotes_breaks quoting (Byte x f) = not (is_break x) && quotes_breaks (toggled x quoting) f
quotes_breaks quoting (Until c x f) = (quoting || breakless c) && (not (is_break x) && quotes_breaks (toggled x quoting) f)
quotes_breaks quoting (Either f g) = quotes_breaks quoting f && quotes_breaks quoting g

no_break_in : (c : ByteClass) (b : ℕ) → breakless c ≡ true → is_break b ≡ true → in_class c b ≡ true → ⊥
no_break_in c b e is h = false≢true (sym (class_breakless c b e h) ∙ is)

no_break_at : (x b : ℕ) → not (is_break x) ≡ true → is_break b ≡ true → eqb b x ≡ true → ⊥
no_break_at x b e is same = false≢true (sym (not-true (is_break x) e) ∙ ap is_break (sym (eqb-true b x same)) ∙ is)

break_in_run : (c : ByteClass) (u : List ℕ) (b : ℕ) (zs : List ℕ) → list_all (in_class c) (u ++ b ∷ zs) ≡ true → in_class c b ≡ true
break_in_run c [] b zs h = (and_parts (in_class c b) _ h).0
break_in_run c (y ∷ u) b zs h = break_in_run c u b zs (and_parts (in_class c y) _ h).1

until_quotes : (c : ByteClass) (x : ℕ) (p : List ℕ → Bool) (quoting : Bool) → (quoting || breakless c) ≡ true → not (is_break x) ≡ true → (b : ℕ) → is_break b ≡ true → (zs : List ℕ) → ((u : List ℕ) → p (u ++ b ∷ zs) ≡ true → quoting_behind (toggled x quoting) u ≡ true) → (u : List ℕ) → has_until c x p (u ++ b ∷ zs) ≡ true → quoting_behind quoting u ≡ true
until_quotes c x p quoting inside at_x b is zs after [] h =
    ⊎_elim
    (λ e. absurd (no_break_at x b at_x is e))
    (λ e. ⊎_elim (λ quoted. quoted)
    (λ none. absurd (no_break_in c b none is (and_parts (in_class c b) _ (ap (λ s. cond s (p zs) (in_class c b && has_until c x p zs)) (sym e) ∙ h)).0))
    (or_cases quoting (breakless c) inside))
    (cases_Bool (eqb b x))
until_quotes c x p quoting inside at_x b is zs after (y ∷ u) h =
    ⊎_elim
    (λ e. subst (λ q. quoting_behind q u ≡ true) (byte_toggles x y quoting e) (after u (ap (λ s. cond s (p (u ++ b ∷ zs)) (in_class c y && has_until c x p (u ++ b ∷ zs))) (sym e) ∙ h)))
    (λ e. let parts = and_parts (in_class c y) _ (ap (λ s. cond s (p (u ++ b ∷ zs)) (in_class c y && has_until c x p (u ++ b ∷ zs))) (sym e) ∙ h) in
    subst (λ q. quoting_behind q u ≡ true) (class_keeps c y quoting parts.0) (until_quotes c x p quoting inside at_x b is zs after u parts.1))
    (cases_Bool (eqb y x))

form_quotes : (f : Form) (quoting : Bool) → quotes_breaks quoting f ≡ true → (b : ℕ) → is_break b ≡ true → (zs u : List ℕ) → has_form f (u ++ b ∷ zs) ≡ true → quoting_behind quoting u ≡ true
unfolding has_form
form_quotes End quoting e b is zs [] h = absurd (false≢true h)
form_quotes End quoting e b is zs (y ∷ u) h = absurd (false≢true h)
form_quotes (Run c) quoting e b is zs u h = absurd (no_break_in c b e is (break_in_run c u b zs h))
form_quotes (One c f) quoting e b is zs [] h =
    absurd (no_break_in c b (and_parts (breakless c) _ e).0 is (and_parts (in_class c b) _ h).0)
form_quotes (One c f) quoting e b is zs (y ∷ u) h =
    let parts = and_parts (in_class c y) _ h in
    subst (λ q. quoting_behind q u ≡ true) (class_keeps c y quoting parts.0) (form_quotes f quoting (and_parts (breakless c) _ e).1 b is zs u parts.1)
form_quotes (Byte x f) quoting e b is zs [] h =
    absurd (no_break_at x b (and_parts (not (is_break x)) _ e).0 is (and_parts (eqb b x) _ h).0)
form_quotes (Byte x f) quoting e b is zs (y ∷ u) h =
    let parts = and_parts (eqb y x) _ h in
    subst (λ q. quoting_behind q u ≡ true) (byte_toggles x y quoting parts.0) (form_quotes f (toggled x quoting) (and_parts (not (is_break x)) _ e).1 b is zs u parts.1)
form_quotes (Until c x f) quoting e b is zs u h =
    let parts = and_parts (quoting || breakless c) _ e in
    let others = and_parts (not (is_break x)) _ parts.1 in
    until_quotes c x (has_form f) quoting parts.0 others.0 b is zs (λ v hv. form_quotes f (toggled x quoting) others.1 b is zs v hv) u h
form_quotes (Either f g) quoting e b is zs u h =
    ⊎_elim (λ left. form_quotes f quoting (and_parts (quotes_breaks quoting f) _ e).0 b is zs u left)
    (λ right. form_quotes g quoting (and_parts (quotes_breaks quoting f) _ e).1 b is zs u right)
    (or_cases (has_form f (u ++ b ∷ zs)) (has_form g (u ++ b ∷ zs)) h)

kind_closes : (kind : TokenKind) → closes false (form_of kind) ≡ true
kind_closes Label = refl
kind_closes Local = refl
kind_closes Global = refl
kind_closes Mdn = refl
kind_closes MdName = refl
kind_closes MdStr = refl
kind_closes Bang = refl
kind_closes Attr = refl
kind_closes Str = refl
kind_closes CStr = refl
kind_closes Int = refl
kind_closes Word = refl
kind_closes Punct = refl

-- punctuation is one byte
one_byte : (w : List ℕ) (b : ℕ) (zs : List ℕ) → 0 < length w → has_kind Punct (w ++ b ∷ zs) ≡ true → ⊥
unfolding has_form
one_byte [] b zs some h = omega arith
one_byte (y ∷ []) b zs some h = false≢true (and_parts (in_class Punctuation y) false h).1
one_byte (y ∷ z ∷ w) b zs some h = false≢true (and_parts (in_class Punctuation y) false h).1

-- no text of a kind goes on behind a token with a break
no_break_behind : (kind other : TokenKind) (w : List ℕ) (b : ℕ) (zs : List ℕ) → is_break b ≡ true → has_kind kind w ≡ true → 0 < length w → has_kind other (w ++ b ∷ zs) ≡ true → ⊥
no_break_behind kind other w b zs is whole some h = by_other other h
  where
    closed : quoting_behind false w ≡ false
    closed = form_closes (form_of kind) false (kind_closes kind) w whole

    opened : (k : TokenKind) → quotes_breaks false (form_of k) ≡ true → has_kind k (w ++ b ∷ zs) ≡ true → ⊥
    opened k e has = false≢true (sym closed ∙ form_quotes (form_of k) false e b is zs w has)

    by_other : (k : TokenKind) → has_kind k (w ++ b ∷ zs) ≡ true → ⊥
    by_other Label has = opened Label refl has
    by_other Local has = opened Local refl has
    by_other Global has = opened Global refl has
    by_other Mdn has = opened Mdn refl has
    by_other MdName has = opened MdName refl has
    by_other MdStr has = opened MdStr refl has
    by_other Bang has = opened Bang refl has
    by_other Attr has = opened Attr refl has
    by_other Str has = opened Str refl has
    by_other CStr has = opened CStr refl has
    by_other Int has = opened Int refl has
    by_other Word has = opened Word refl has
    by_other Punct has = one_byte w b zs some has

take_past : (w rest : List ℕ) (m : ℕ) → length w ≤ m → take m (w ++ rest) ≡ w ++ take (m - length w) rest
take_past [] rest m le = ap (λ k. take k rest) (omega arith)
take_past (x ∷ w) rest zero le = absurd (omega arith)
take_past (x ∷ w) rest (suc m) le = ap (λ l. x ∷ l) (take_past w rest m (omega arith) ∙ ap (λ k. w ++ take k rest) (omega arith))

take_one : (b : ℕ) (bs : List ℕ) (m j : ℕ) → m ≡ suc j → take m (b ∷ bs) ≡ b ∷ take j bs
take_one b bs m j e = ap (λ k. take k (b ∷ bs)) e

some_bytes : (kind : TokenKind) (w : List ℕ) → has_kind kind w ≡ true → 0 < length w
some_bytes kind [] h = absurd (false≢true (sym (kind_not_empty kind) ∙ h))
some_bytes kind (b ∷ w) h = omega arith

longest_if : (kind other : TokenKind) (w rest : List ℕ) → begins_with_break rest ≡ true → has_kind kind w ≡ true → (m : ℕ) → m ≤ length (w ++ rest) → length w < m → has_kind other (take m (w ++ rest)) ≡ true → ⊥
longest_if kind other w [] is whole m le lt h = omega (arith, length-append w [])
longest_if kind other w (b ∷ bs) is whole m le lt h =
    let j = m - length w - 1 in
    let parts : take m (w ++ b ∷ bs) ≡ w ++ b ∷ take j bs = take_past w (b ∷ bs) m (omega arith) ∙ ap (λ l. w ++ l) (take_one b bs (m - length w) j (omega arith)) in
    no_break_behind kind other w b (take j bs) is whole (some_bytes kind w whole) (ap (has_kind other) (sym parts) ∙ h)

-- a token with a break behind it, or nothing, is the longest front
pub token_before_break_lem : (kind : TokenKind) (w rest : List ℕ) → has_kind kind w ≡ true → begins_with_break rest ≡ true → IsLongestFront kind (length w) (w ++ rest)
token_before_break_lem kind w rest whole is = record {
  in_range = omega (arith, length-append w rest);
  of_kind = ap (has_kind kind) (take_at w rest (length w) refl) ∙ whole;
  longest = λ other m le h. ⊎_elim (λ lt. absurd (longest_if kind other w rest is whole m le lt h)) (λ ge. ge) (cases_lt (length w) m);
}
