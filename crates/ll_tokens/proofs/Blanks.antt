-- Blanks and comments: one byte of them, and that what is left behind them is text.
use Rattle.std.proofs.Common.{◌≡◌, ℕ, ◌+◌, ◌<◌, ◌≤◌, Bool, true, false, not, ◌||◌, cond, eqb, List, [], ◌∷◌, ◌++◌, length, get_or, drop, IsUtf8, sym, refl, ap, ◌∙◌, subst, arith, append_assoc, eq-eqb, ne_eqb, eqb-true, length-append, ⊎_elim}
use Rattle.std.proofs.lemmas.List.{drop_more, drop_all}
use Rattle.std.proofs.lemmas.Bool.{or_left, or_right, or_from, or_cases, false≢true, not-false}
use Rattle.std.proofs.lemmas.Bool.Decides.{nat_tests}
use Rattle.std.proofs.lemmas.Str.{IsUtf8-drop, IsCharBoundary-after_ascii, IsCharBoundary-from_drop, IsUtf8-nil}
use Rattle.std.proofs.lemmas.List.{drop_at, get_or_at}
use Rattle.std.specs.Str.{IsCharBoundary}
use Rattle.ll_tokens.specs.declared.bytes.ByteClass.TheVariants.{Blank}
use Rattle.ll_tokens.specs.Forms.{in_class}
use Rattle.ll_tokens.specs.Tokens.{comment_behind, behind, behind_gap}

-- whether a byte belongs to the blanks and comments at the front, inside a comment or not
abbrev is_gap : Bool → ℕ → Bool
is_gap in_comment b = in_comment || (eqb b 59 || in_class Blank b)

pub behind_cons : (in_comment : Bool) (b : ℕ) (bs : List ℕ) → behind in_comment (b ∷ bs) ≡ cond (is_gap in_comment b) (behind (comment_behind in_comment b) bs) (b ∷ bs)
unfolding behind
behind_cons in_comment b bs = refl

pub behind_nil : (in_comment : Bool) → behind in_comment [] ≡ []
unfolding behind
behind_nil in_comment = refl

behind_at : (in_comment : Bool) (bytes : List ℕ) (at : ℕ) (t : Bool) → at < length bytes → is_gap in_comment (get_or bytes at 0) ≡ t → behind in_comment (drop at bytes) ≡ cond t (behind (comment_behind in_comment (get_or bytes at 0)) (drop (at + 1) bytes)) (drop at bytes)
behind_at in_comment bytes at t lt is =
    ap (behind in_comment) (drop_more bytes at 0 lt)
    ∙ behind_cons in_comment (get_or bytes at 0) (drop (at + 1) bytes)
    ∙ ap (λ l. cond (is_gap in_comment (get_or bytes at 0)) (behind (comment_behind in_comment (get_or bytes at 0)) (drop (at + 1) bytes)) l) (sym (drop_more bytes at 0 lt))
    ∙ ap (λ s. cond s (behind (comment_behind in_comment (get_or bytes at 0)) (drop (at + 1) bytes)) (drop at bytes)) is

-- a byte of a comment is skipped
pub behind_in_comment : (next : Bool) (bytes : List ℕ) (at : ℕ) (gap : List ℕ) → at < length bytes → next ≡ not (eqb (get_or bytes at 0) 10) → behind true (drop at bytes) ≡ gap → behind next (drop (at + 1) bytes) ≡ gap
behind_in_comment next bytes at gap lt next_is before =
    ap (λ c. behind c (drop (at + 1) bytes)) next_is ∙ sym (behind_at true bytes at true lt refl) ∙ before

-- a `;` begins a comment
pub behind_semicolon : (in_comment next : Bool) (bytes : List ℕ) (at : ℕ) (gap : List ℕ) → at < length bytes → in_comment ≡ false → get_or bytes at 0 ≡ 59 → next ≡ true → behind in_comment (drop at bytes) ≡ gap → behind next (drop (at + 1) bytes) ≡ gap
behind_semicolon in_comment next bytes at gap lt outside is next_is before =
    ap (λ c. behind c (drop (at + 1) bytes)) (next_is ∙ sym (eq-eqb _ 59 is))
    ∙ sym (behind_at false bytes at true lt (or_left _ _ (eq-eqb _ 59 is)))
    ∙ ap (λ c. behind c (drop at bytes)) (sym outside) ∙ before

-- a blank is skipped
pub behind_blank : (in_comment next : Bool) (bytes : List ℕ) (at : ℕ) (gap : List ℕ) → at < length bytes → in_comment ≡ false → (get_or bytes at 0 ≡ 59 → ⊥) → in_class Blank (get_or bytes at 0) ≡ true → next ≡ in_comment → behind in_comment (drop at bytes) ≡ gap → behind next (drop (at + 1) bytes) ≡ gap
behind_blank in_comment next bytes at gap lt outside is_not blank next_is before =
    ap (λ c. behind c (drop (at + 1) bytes)) (next_is ∙ outside ∙ sym (ne_eqb _ 59 is_not))
    ∙ sym (behind_at false bytes at true lt (or_right _ _ blank))
    ∙ ap (λ c. behind c (drop at bytes)) (sym outside) ∙ before

-- any other byte ends the gap
pub behind_stops : (in_comment : Bool) (bytes : List ℕ) (at : ℕ) (gap : List ℕ) → at < length bytes → in_comment ≡ false → (get_or bytes at 0 ≡ 59 → ⊥) → in_class Blank (get_or bytes at 0) ≡ false → behind in_comment (drop at bytes) ≡ gap → drop at bytes ≡ gap
behind_stops in_comment bytes at gap lt outside is_not blank before =
    sym (behind_at false bytes at false lt (or_from _ _ (ne_eqb _ 59 is_not) blank))
    ∙ ap (λ c. behind c (drop at bytes)) (sym outside) ∙ before

-- at the end nothing is left
pub behind_at_end : (in_comment : Bool) (bytes : List ℕ) (at n : ℕ) (gap : List ℕ) → length bytes ≤ at → length bytes ≤ n → behind in_comment (drop at bytes) ≡ gap → drop n bytes ≡ gap
behind_at_end in_comment bytes at n gap le le_n before =
    drop_all n bytes le_n ∙ sym (behind_nil in_comment) ∙ ap (behind in_comment) (sym (drop_all at bytes le)) ∙ before

-- a byte joined to the front
moved : (front : List ℕ) (b : ℕ) (bs : List ℕ) → front ++ b ∷ bs ≡ (front ++ b ∷ []) ++ bs
moved front b bs = sym (append_assoc front (b ∷ []) bs)

-- behind a byte below 128 a text may be cut
utf8_behind_ascii : (front : List ℕ) (b : ℕ) (bs : List ℕ) → IsUtf8 (front ++ b ∷ bs) → b < 128 → IsUtf8 bs
utf8_behind_ascii front b bs utf8 ascii =
    let whole = front ++ b ∷ bs in
    let here : get_or whole (length front) 0 ≡ b = get_or_at front b bs 0 (length front) refl in
    let cut : IsCharBoundary whole (length front + 1) = IsCharBoundary-after_ascii whole (length front) utf8 (omega (arith, length-append front (b ∷ bs))) (omega (arith, here)) in
    let rest : drop (length front + 1) whole ≡ bs = ap (drop (length front + 1)) (moved front b bs) ∙ drop_at (front ++ b ∷ []) bs (length front + 1) (length-append front (b ∷ [])) in
    subst IsUtf8 rest (IsUtf8-drop whole (length front + 1) utf8 cut)

blank_ascii : (b : ℕ) → in_class Blank b ≡ true → b < 128
blank_ascii b h = grind (arith, nat_tests)

-- the step outside a comment, given what the rest makes of it
outside_is_utf8 : (front : List ℕ) (b : ℕ) (bs : List ℕ) → IsUtf8 (front ++ b ∷ bs) → IsUtf8 (b ∷ bs) → ((eqb b 59 ≡ false → IsUtf8 bs) → IsUtf8 (behind (eqb b 59) bs)) → (t : Bool) → (eqb b 59 || in_class Blank b) ≡ t → IsUtf8 (cond t (behind (eqb b 59) bs) (b ∷ bs))
outside_is_utf8 front b bs whole here rest true is =
    rest (λ no_comment. utf8_behind_ascii front b bs whole (blank_ascii b (⊎_elim (λ comment. absurd (false≢true (sym no_comment ∙ comment))) (λ blank. blank) (or_cases (eqb b 59) (in_class Blank b) is))))
outside_is_utf8 front b bs whole here rest false is = here

-- what is left behind blanks and comments is text, even where the front ends inside a comment, where
-- no character need begin
behind_is_utf8 : (in_comment : Bool) (front bs : List ℕ) → IsUtf8 (front ++ bs) → (in_comment ≡ false → IsUtf8 bs) → IsUtf8 (behind in_comment bs)
behind_is_utf8 in_comment front [] whole here = subst IsUtf8 (sym (behind_nil in_comment)) IsUtf8-nil
behind_is_utf8 true front (b ∷ bs) whole here =
    subst IsUtf8 (sym (behind_cons true b bs))
    (behind_is_utf8 (not (eqb b 10)) (front ++ b ∷ []) bs (subst IsUtf8 (moved front b bs) whole)
    (λ ended. utf8_behind_ascii front b bs whole (omega (arith, eqb-true b 10 (not-false (eqb b 10) ended)))))
behind_is_utf8 false front (b ∷ bs) whole here =
    subst IsUtf8 (sym (behind_cons false b bs))
    (outside_is_utf8 front b bs whole (here refl)
    (λ outside. behind_is_utf8 (eqb b 59) (front ++ b ∷ []) bs (subst IsUtf8 (moved front b bs) whole) outside)
    (eqb b 59 || in_class Blank b) refl)

pub behind_gap_is_utf8 : (bs : List ℕ) → IsUtf8 bs → IsUtf8 (behind_gap bs)
behind_gap_is_utf8 bs utf8 = behind_is_utf8 false [] bs utf8 (λ _. utf8)

-- the text may be cut where its gap ends
pub boundary_behind_gap : (bs : List ℕ) (n : ℕ) → IsUtf8 bs → n ≤ length bs → drop n bs ≡ behind_gap bs → IsCharBoundary bs n
boundary_behind_gap bs n utf8 le is =
    IsCharBoundary-from_drop bs n le (subst IsUtf8 (sym is) (behind_gap_is_utf8 bs utf8))
