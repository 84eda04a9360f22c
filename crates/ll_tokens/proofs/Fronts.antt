-- A form's reach is the length of the longest front that has the form, and the longest front of all
-- kinds is the best of their reaches.
use Rattle.std.proofs.Common.{◌≡◌, ℕ, zero, suc, ◌+◌, ◌<◌, ◌≤◌, max, Bool, true, false, ◌&&◌, ◌||◌, cond, eqb, ltb, List, [], ◌∷◌, length, get_or, take, Option, Some, None, IfSome, IsSomeAnd, sym, refl, ap, ◌∙◌, subst, ⊎_elim, arith, one-add, ◌⊎◌, inl, inr, ap₂}
use Rattle.std.specs.List.{prefix_len, list_all, fold}
use Rattle.std.proofs.lemmas.Bool.{and_parts, and_from, or_cases, or_left, or_right, false≢true, cases_Bool, ltb-true, ltb-false, cases_lt}
use Rattle.std.proofs.lemmas.List.Sums.{fold_more}
use Rattle.ll_tokens.specs.declared.bytes.ByteClass.{ByteClass}
use Rattle.ll_tokens.specs.declared.kinds.TokenKind.{TokenKind}
use Rattle.ll_tokens.specs.declared.kinds.TokenKind.TheVariants.{Label, Local, Global, Mdn, MdName, MdStr, Bang, Attr, Str, CStr, Int, Word, Punct}
use Rattle.ll_tokens.specs.declared.longest.Front.{Front}
use Rattle.ll_tokens.specs.Forms.{in_class, Form, End, Run, One, Byte, Until, Either, has_form, has_until}
use Rattle.ll_tokens.specs.Longest.{keep_longer, better, IsLongestOf}
use Rattle.ll_tokens.specs.Reach.{reach, reach_until, one_more, longer}
use Rattle.ll_tokens.specs.Tokens.{form_of, has_kind}
use Rattle.ll_tokens.proofs.Reaches.{reach_le}

-- the front of a text with one byte more
take_one_more : (n b : ℕ) (bs : List ℕ) → take (1 + n) (b ∷ bs) ≡ b ∷ take n bs
take_one_more n b bs = ap (λ k. take k (b ∷ bs)) (one-add n)

-- where a test holds of the front behind the first byte, another holds with that byte
front_behind : (p q : List ℕ → Bool) (b : ℕ) (bs : List ℕ) → ((t : List ℕ) → p t ≡ true → q (b ∷ t) ≡ true) → (r : Option ℕ) → IfSome r (λ n. p (take n bs) ≡ true) → IfSome (one_more r) (λ n. q (take n (b ∷ bs)) ≡ true)
front_behind p q b bs h None f = tt
front_behind p q b bs h (Some n) f = ap q (take_one_more n b bs) ∙ h (take n bs) f

front_if : (q : List ℕ → Bool) (bs : List ℕ) (t : Bool) (r s : Option ℕ) → (t ≡ true → IfSome r (λ n. q (take n bs) ≡ true)) → (t ≡ false → IfSome s (λ n. q (take n bs) ≡ true)) → IfSome (cond t r s) (λ n. q (take n bs) ≡ true)
front_if q bs true r s at_true at_false = at_true refl
front_if q bs false r s at_true at_false = at_false refl

run_step : (p : ℕ → Bool) (b : ℕ) (bs : List ℕ) (n : ℕ) → list_all p (take n bs) ≡ true → (t : Bool) → p b ≡ t → list_all p (take (cond t (1 + n) 0) (b ∷ bs)) ≡ true
run_step p b bs n rest true e = ap (list_all p) (take_one_more n b bs) ∙ and_from _ _ e rest
run_step p b bs n rest false e = refl

run_front : (p : ℕ → Bool) (bs : List ℕ) → list_all p (take (prefix_len p bs) bs) ≡ true
run_front p [] = refl
run_front p (b ∷ bs) = run_step p b bs (prefix_len p bs) (run_front p bs) (p b) refl

until_front : (c : ByteClass) (x : ℕ) (p : List ℕ → Bool) (r : List ℕ → Option ℕ) → ((bs : List ℕ) → IfSome (r bs) (λ n. p (take n bs) ≡ true)) → (bs : List ℕ) → IfSome (reach_until c x r bs) (λ n. has_until c x p (take n bs) ≡ true)
until_front c x p r h [] = tt
until_front c x p r h (b ∷ bs) =
    front_if (has_until c x p) (b ∷ bs) (eqb b x) _ _
    (λ e. front_behind p (has_until c x p) b bs (λ t pt. ap (λ s. cond s (p t) (in_class c b && has_until c x p t)) e ∙ pt) (r bs) (h bs))
    (λ e. front_if (has_until c x p) (b ∷ bs) (in_class c b) _ None
    (λ i. front_behind (has_until c x p) (has_until c x p) b bs (λ t pt. ap (λ s. cond s (p t) (in_class c b && has_until c x p t)) e ∙ and_from _ _ i pt) (reach_until c x r bs) (until_front c x p r h bs))
    (λ _. tt))

max_cases : (m n : ℕ) → (max m n ≡ m) ⊎ (max m n ≡ n)
max_cases m n = ⊎_elim (λ lt. inr (omega arith)) (λ ge. inl (omega arith)) (cases_lt m n)

either_front : (p q : List ℕ → Bool) (bs : List ℕ) (r s : Option ℕ) → IfSome r (λ n. p (take n bs) ≡ true) → IfSome s (λ n. q (take n bs) ≡ true) → IfSome (longer r s) (λ n. (p (take n bs) || q (take n bs)) ≡ true)
either_front p q bs None None hr hs = tt
either_front p q bs None (Some n) hr hs = or_right _ _ hs
either_front p q bs (Some m) None hr hs = or_left _ _ hr
either_front p q bs (Some m) (Some n) hr hs =
    ⊎_elim (λ e. subst (λ k. (p (take k bs) || q (take k bs)) ≡ true) (sym e) (or_left _ _ hr))
    (λ e. subst (λ k. (p (take k bs) || q (take k bs)) ≡ true) (sym e) (or_right _ _ hs)) (max_cases m n)

-- the front of a form's reach has the form
pub reach_front : (f : Form) (bs : List ℕ) → IfSome (reach f bs) (λ n. has_form f (take n bs) ≡ true)
unfolding reach has_form
reach_front End bs = refl
reach_front (Run c) bs = run_front (in_class c) bs
reach_front (One c f) [] = tt
reach_front (One c f) (b ∷ bs) =
    front_if (has_form (One c f)) (b ∷ bs) (in_class c b) _ None
    (λ i. front_behind (has_form f) (has_form (One c f)) b bs (λ t ft. and_from _ _ i ft) (reach f bs) (reach_front f bs)) (λ _. tt)
reach_front (Byte x f) [] = tt
reach_front (Byte x f) (b ∷ bs) =
    front_if (has_form (Byte x f)) (b ∷ bs) (eqb b x) _ None
    (λ i. front_behind (has_form f) (has_form (Byte x f)) b bs (λ t ft. and_from _ _ i ft) (reach f bs) (reach_front f bs)) (λ _. tt)
reach_front (Until c x f) bs = until_front c x (has_form f) (reach f) (λ ds. reach_front f ds) bs
reach_front (Either f g) bs = either_front (has_form f) (has_form g) bs (reach f bs) (reach g bs) (reach_front f bs) (reach_front g bs)

-- where a front of m bytes has a form, the form reaches m bytes at least
Reaches : Option ℕ → ℕ → Type 0
Reaches r m = IsSomeAnd r (λ n. m ≤ n)

reaches_one_more : (r : Option ℕ) (m : ℕ) → Reaches r m → Reaches (one_more r) (suc m)
unfolding Reaches
reaches_one_more None m h = h
reaches_one_more (Some n) m h = omega arith

reaches_if_true : (t : Bool) (r s : Option ℕ) (m : ℕ) → t ≡ true → Reaches r m → Reaches (cond t r s) m
reaches_if_true true r s m e h = h
reaches_if_true false r s m e h = absurd (false≢true e)

reaches_if_false : (t : Bool) (r s : Option ℕ) (m : ℕ) → t ≡ false → Reaches s m → Reaches (cond t r s) m
reaches_if_false true r s m e h = absurd (false≢true (sym e))
reaches_if_false false r s m e h = h

reaches_left : (r s : Option ℕ) (m : ℕ) → Reaches r m → Reaches (longer r s) m
unfolding Reaches
reaches_left None s m h = elim h [ ]
reaches_left (Some k) None m h = h
reaches_left (Some k) (Some n) m h = omega arith

reaches_right : (r s : Option ℕ) (m : ℕ) → Reaches s m → Reaches (longer r s) m
unfolding Reaches
reaches_right None s m h = h
reaches_right (Some k) None m h = elim h [ ]
reaches_right (Some k) (Some n) m h = omega arith

run_reaches : (p : ℕ → Bool) (bs : List ℕ) (m : ℕ) → m ≤ length bs → list_all p (take m bs) ≡ true → m ≤ prefix_len p bs
run_reaches p bs zero le h = omega arith
run_reaches p [] (suc m) le h = absurd (omega arith)
run_reaches p (b ∷ bs) (suc m) le h =
    let parts = and_parts (p b) (list_all p (take m bs)) h in
    let rest = run_reaches p bs m (omega arith) parts.1 in
    subst (λ t. suc m ≤ cond t (1 + prefix_len p bs) 0) (sym parts.0) (omega arith)

until_reaches : (c : ByteClass) (x : ℕ) (p : List ℕ → Bool) (r : List ℕ → Option ℕ) → ((bs : List ℕ) (m : ℕ) → m ≤ length bs → p (take m bs) ≡ true → Reaches (r bs) m) → (bs : List ℕ) (m : ℕ) → m ≤ length bs → has_until c x p (take m bs) ≡ true → Reaches (reach_until c x r bs) m
until_reaches c x p r h [] zero le has = absurd (false≢true has)
until_reaches c x p r h [] (suc m) le has = absurd (false≢true has)
until_reaches c x p r h (b ∷ bs) zero le has = absurd (false≢true has)
until_reaches c x p r h (b ∷ bs) (suc m) le has =
    ⊎_elim
    (λ e. reaches_if_true (eqb b x) _ _ _ e (reaches_one_more (r bs) m (h bs m (omega arith) (ap (λ t. cond t (p (take m bs)) (in_class c b && has_until c x p (take m bs))) (sym e) ∙ has))))
    (λ e. let parts = and_parts (in_class c b) (has_until c x p (take m bs)) (ap (λ t. cond t (p (take m bs)) (in_class c b && has_until c x p (take m bs))) (sym e) ∙ has) in
    reaches_if_false (eqb b x) _ _ _ e (reaches_if_true (in_class c b) _ None _ parts.0 (reaches_one_more (reach_until c x r bs) m (until_reaches c x p r h bs m (omega arith) parts.1))))
    (cases_Bool (eqb b x))

-- no front that has the form is longer than the form's reach
reach_longest : (f : Form) (bs : List ℕ) (m : ℕ) → m ≤ length bs → has_form f (take m bs) ≡ true → Reaches (reach f bs) m
unfolding reach has_form Reaches
reach_longest End bs zero le h = omega arith
reach_longest End [] (suc m) le h = absurd (omega arith)
reach_longest End (b ∷ bs) (suc m) le h = absurd (false≢true h)
reach_longest (Run c) bs m le h = run_reaches (in_class c) bs m le h
reach_longest (One c f) [] zero le h = absurd (false≢true h)
reach_longest (One c f) [] (suc m) le h = absurd (false≢true h)
reach_longest (One c f) (b ∷ bs) zero le h = absurd (false≢true h)
reach_longest (One c f) (b ∷ bs) (suc m) le h =
    let parts = and_parts (in_class c b) (has_form f (take m bs)) h in
    reaches_if_true (in_class c b) _ None _ parts.0 (reaches_one_more (reach f bs) m (reach_longest f bs m (omega arith) parts.1))
reach_longest (Byte x f) [] zero le h = absurd (false≢true h)
reach_longest (Byte x f) [] (suc m) le h = absurd (false≢true h)
reach_longest (Byte x f) (b ∷ bs) zero le h = absurd (false≢true h)
reach_longest (Byte x f) (b ∷ bs) (suc m) le h =
    let parts = and_parts (eqb b x) (has_form f (take m bs)) h in
    reaches_if_true (eqb b x) _ None _ parts.0 (reaches_one_more (reach f bs) m (reach_longest f bs m (omega arith) parts.1))
reach_longest (Until c x f) bs m le h = until_reaches c x (has_form f) (reach f) (λ ds k. reach_longest f ds k) bs m le h
reach_longest (Either f g) bs m le h =
    ⊎_elim (λ left. reaches_left (reach f bs) (reach g bs) m (reach_longest f bs m le left))
    (λ right. reaches_right (reach f bs) (reach g bs) m (reach_longest g bs m le right))
    (or_cases (has_form f (take m bs)) (has_form g (take m bs)) h)

-- the kinds, each of them
abbrev pub all_kinds : List TokenKind
all_kinds = Label ∷ Local ∷ Global ∷ Mdn ∷ MdName ∷ MdStr ∷ Bang ∷ Attr ∷ Str ∷ CStr ∷ Int ∷ Word ∷ Punct ∷ []

-- one kind more of a search for the longest front
pub better_more : (bytes : List ℕ) (kinds : List TokenKind) (i : ℕ) (d : TokenKind) (best next : Option Front) (r : Option ℕ) → i < length kinds → best ≡ fold (better bytes) None (take i kinds) → r ≡ reach (form_of (get_or kinds i d)) bytes → next ≡ keep_longer best (get_or kinds i d) r → next ≡ fold (better bytes) None (take (i + 1) kinds)
better_more bytes kinds i d best next r lt best_is r_is next_is =
    next_is ∙ ap₂ (λ b s. keep_longer b (get_or kinds i d) s) best_is r_is ∙ sym (fold_more (better bytes) None kinds i d lt)

-- a found front is the reach of its kind
Attained : List ℕ → Option Front → Type 0
Attained bytes best = IfSome best (λ front. reach (form_of front.kind) bytes ≡ Some front.len)

-- a front of this length, if there is one, is no longer than the one that was found
NoLonger : Option ℕ → Option Front → Type 0
NoLonger r best = IfSome r (λ n. IsSomeAnd best (λ front. n ≤ front.len))

Covers : List ℕ → Option Front → List TokenKind → Type 0
Covers bytes best [] = Unit {0}
Covers bytes best (kind ∷ kinds) = NoLonger (reach (form_of kind) bytes) best × Covers bytes best kinds

keep_attained : (bytes : List ℕ) (best : Option Front) (kind : TokenKind) (r : Option ℕ) → reach (form_of kind) bytes ≡ r → Attained bytes best → Attained bytes (keep_longer best kind r)
unfolding Attained
keep_attained bytes best kind None e h = h
keep_attained bytes None kind (Some n) e h = e
keep_attained bytes (Some front) kind (Some n) e h = by_length (ltb front.len n)
  where
    by_length : (t : Bool) → IfSome (cond t (Some (record { kind = kind; len = n })) (Some front)) (λ f. reach (form_of f.kind) bytes ≡ Some f.len)
    by_length true = e
    by_length false = h

keep_keeps : (s : Option ℕ) (best : Option Front) (kind : TokenKind) (r : Option ℕ) → NoLonger s best → NoLonger s (keep_longer best kind r)
unfolding NoLonger
keep_keeps None best kind r h = tt
keep_keeps (Some m) best kind None h = h
keep_keeps (Some m) None kind (Some n) h = elim h [ ]
keep_keeps (Some m) (Some front) kind (Some n) h = by_length (ltb front.len n) refl
  where
    by_length : (t : Bool) → ltb front.len n ≡ t → IsSomeAnd (cond t (Some (record { kind = kind; len = n })) (Some front)) (λ f. m ≤ f.len)
    by_length true e = omega (arith, ltb-true front.len n e)
    by_length false e = h

keep_covers : (best : Option Front) (kind : TokenKind) (r : Option ℕ) → NoLonger r (keep_longer best kind r)
unfolding NoLonger
keep_covers best kind None = tt
keep_covers None kind (Some n) = omega arith
keep_covers (Some front) kind (Some n) = by_length (ltb front.len n) refl
  where
    by_length : (t : Bool) → ltb front.len n ≡ t → IsSomeAnd (cond t (Some (record { kind = kind; len = n })) (Some front)) (λ f. n ≤ f.len)
    by_length true e = omega arith
    by_length false e = ltb-false front.len n e

fold_attained : (bytes : List ℕ) (kinds : List TokenKind) (best : Option Front) → Attained bytes best → Attained bytes (fold (better bytes) best kinds)
fold_attained bytes [] best h = h
fold_attained bytes (kind ∷ kinds) best h = fold_attained bytes kinds _ (keep_attained bytes best kind (reach (form_of kind) bytes) refl h)

fold_keeps : (bytes : List ℕ) (s : Option ℕ) (kinds : List TokenKind) (best : Option Front) → NoLonger s best → NoLonger s (fold (better bytes) best kinds)
fold_keeps bytes s [] best h = h
fold_keeps bytes s (kind ∷ kinds) best h = fold_keeps bytes s kinds _ (keep_keeps s best kind (reach (form_of kind) bytes) h)

fold_covers : (bytes : List ℕ) (kinds : List TokenKind) (best : Option Front) → Covers bytes (fold (better bytes) best kinds) kinds
unfolding Covers
fold_covers bytes [] best = tt
fold_covers bytes (kind ∷ kinds) best =
    (fold_keeps bytes (reach (form_of kind) bytes) kinds _ (keep_covers best kind (reach (form_of kind) bytes)), fold_covers bytes kinds _)

covers_each : (bytes : List ℕ) (best : Option Front) → Covers bytes best all_kinds → (kind : TokenKind) → NoLonger (reach (form_of kind) bytes) best
unfolding Covers
covers_each bytes best h Label = h.0
covers_each bytes best h Local = h.1.0
covers_each bytes best h Global = h.1.1.0
covers_each bytes best h Mdn = h.1.1.1.0
covers_each bytes best h MdName = h.1.1.1.1.0
covers_each bytes best h MdStr = h.1.1.1.1.1.0
covers_each bytes best h Bang = h.1.1.1.1.1.1.0
covers_each bytes best h Attr = h.1.1.1.1.1.1.1.0
covers_each bytes best h Str = h.1.1.1.1.1.1.1.1.0
covers_each bytes best h CStr = h.1.1.1.1.1.1.1.1.1.0
covers_each bytes best h Int = h.1.1.1.1.1.1.1.1.1.1.0
covers_each bytes best h Word = h.1.1.1.1.1.1.1.1.1.1.1.0
covers_each bytes best h Punct = h.1.1.1.1.1.1.1.1.1.1.1.1.0

-- a front of some kind is no longer than the one that was found
within_best : (r : Option ℕ) (best : Option Front) (m : ℕ) → Reaches r m → NoLonger r best → IsSomeAnd best (λ front. m ≤ front.len)
unfolding Reaches NoLonger
within_best None best m reaches h = elim reaches [ ]
within_best (Some n) None m reaches h = elim h [ ]
within_best (Some n) (Some front) m reaches h = omega arith

longest_by : (bytes : List ℕ) (best : Option Front) → Attained bytes best → ((kind : TokenKind) → NoLonger (reach (form_of kind) bytes) best) → IsLongestOf bytes best
unfolding Attained
longest_by bytes None attained covers = λ kind n le.
    ⊎_elim (λ has. elim (within_best _ None n (reach_longest (form_of kind) bytes n le has) (covers kind)) [ ]) (λ lacks. lacks) (cases_Bool (has_kind kind (take n bytes)))
longest_by bytes (Some front) attained covers = record {
  in_range = subst (λ r. IfSome r (λ n. n ≤ length bytes)) attained (reach_le (form_of front.kind) bytes);
  of_kind = subst (λ r. IfSome r (λ n. has_form (form_of front.kind) (take n bytes) ≡ true)) attained (reach_front (form_of front.kind) bytes);
  longest = λ other m le has. within_best _ (Some front) m (reach_longest (form_of other) bytes m le has) (covers other);
}

nothing_attained : (bytes : List ℕ) → Attained bytes None
unfolding Attained
nothing_attained bytes = tt

-- the search over all kinds finds the longest front
pub longest_found : (bytes : List ℕ) (i : ℕ) (best : Option Front) → i ≡ 13 → best ≡ fold (better bytes) None (take i all_kinds) → IsLongestOf bytes best
longest_found bytes i best all_seen is =
    let found = fold (better bytes) None all_kinds in
    let same : best ≡ found = is ∙ ap (λ k. fold (better bytes) None (take k all_kinds)) all_seen in
    subst (IsLongestOf bytes) (sym same) (longest_by bytes found (fold_attained bytes all_kinds None (nothing_attained bytes)) (covers_each bytes found (fold_covers bytes all_kinds None)))
