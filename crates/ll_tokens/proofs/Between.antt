-- What is skipped between tokens is blanks and comments.
use Rattle.std.proofs.Common.{◌≡◌, ◌≢◌, ℕ, Bool, true, false, not, eqb, List, [], ◌∷◌, ◌++◌, sym, refl, ap, ◌∙◌, inl, inr, ◌⊎◌, append_assoc}
use Rattle.std.specs.List.{flat_map}
use Rattle.std.proofs.lemmas.Bool.{eqb-true, eqb-false, or_left, or_right, or_from, cond-true, cond-false}
use Rattle.std.proofs.lemmas.List.Elements.{All-nil, All-cons}
use Rattle.ll_tokens.specs.declared.bytes.ByteClass.TheVariants.{Blank}
use Rattle.ll_tokens.specs.Forms.{in_class}
use Rattle.ll_tokens.specs.Gap.{IsInLine, Piece, OneBlank, Comment, bytes_of, begins_gap, IsBehindGap, EndsInComment}
use Rattle.ll_tokens.specs.Tokens.{behind, behind_gap}
use Rattle.ll_tokens.proofs.Blanks.{behind_cons, behind_nil}

-- outside a comment
abbrev Outside : List ℕ → Type 0
Outside text = IsBehindGap text (behind false text) ⊎ (EndsInComment text × (behind false text ≡ []))

-- inside one, whose line ends
record LineEnds (text : List ℕ) : Type 0 where
  words : List ℕ
  tail : List ℕ
  in_line : IsInLine words
  split : text ≡ words ++ 10 ∷ tail
  left : behind true text ≡ behind false tail
  goes_on : Outside tail

-- inside one, up to the end of the text
record TextEnds (text : List ℕ) : Type 0 where
  in_line : IsInLine text
  left : behind true text ≡ []

one_more_piece : (piece : Piece) (text rest : List ℕ) → text ≡ bytes_of piece ++ rest → behind false text ≡ behind false rest → Outside rest → Outside text
one_more_piece piece text rest is same (inl h) = inl (record {
  pieces = piece ∷ h.pieces;
  gap = is ∙ ap (λ l. bytes_of piece ++ l) h.gap ∙ sym (append_assoc (bytes_of piece) (flat_map bytes_of h.pieces) (behind false rest)) ∙ ap (λ l. (bytes_of piece ++ flat_map bytes_of h.pieces) ++ l) (sym same);
  stops = ap begins_gap same ∙ h.stops;
})
one_more_piece piece text rest is same (inr h) = inr (
  record {
    pieces = piece ∷ h.0.pieces;
    words = h.0.words;
    in_line = h.0.in_line;
    gap = is ∙ ap (λ l. bytes_of piece ++ l) h.0.gap ∙ sym (append_assoc (bytes_of piece) (flat_map bytes_of h.0.pieces) (59 ∷ h.0.words));
  },
  same ∙ h.1,
)

-- a `;` outside a comment
comment_step : (b : ℕ) (bs : List ℕ) → b ≡ 59 → behind false (b ∷ bs) ≡ behind true bs → LineEnds bs ⊎ TextEnds bs → Outside (b ∷ bs)
comment_step b bs is skips (inl line) =
    one_more_piece (Comment line.words line.in_line) (b ∷ bs) line.tail
    ((λ i. is i ∷ line.split i) ∙ ap (λ l. 59 ∷ l) (sym (append_assoc line.words (10 ∷ []) line.tail)))
    (skips ∙ line.left) line.goes_on
comment_step b bs is skips (inr end) =
    inr (record { pieces = []; words = bs; in_line = end.in_line; gap = ap (λ y. y ∷ bs) is }, skips ∙ end.left)

outside_step : (b : ℕ) (bs : List ℕ) → Outside bs → LineEnds bs ⊎ TextEnds bs → (semicolon blank : Bool) → eqb b 59 ≡ semicolon → in_class Blank b ≡ blank → Outside (b ∷ bs)
outside_step b bs out within true blank is_semicolon is_blank =
    comment_step b bs (eqb-true b 59 is_semicolon)
    (behind_cons false b bs ∙ cond-true _ _ _ (or_left _ _ is_semicolon) ∙ ap (λ c. behind c bs) is_semicolon) within
outside_step b bs out within false true is_semicolon is_blank =
    one_more_piece (OneBlank b is_blank) (b ∷ bs) bs refl
    (behind_cons false b bs ∙ cond-true _ _ _ (or_right _ _ is_blank) ∙ ap (λ c. behind c bs) is_semicolon) out
outside_step b bs out within false false is_semicolon is_blank =
    let stays : behind false (b ∷ bs) ≡ b ∷ bs = behind_cons false b bs ∙ cond-false _ _ _ (or_from _ _ is_semicolon is_blank) in
    inl (record { pieces = []; gap = sym stays; stops = ap begins_gap stays ∙ or_from _ _ is_semicolon is_blank })

in_line_more : (b : ℕ) (bs : List ℕ) → behind true (b ∷ bs) ≡ behind true bs → (b ≡ 10 → ⊥) → LineEnds bs ⊎ TextEnds bs → LineEnds (b ∷ bs) ⊎ TextEnds (b ∷ bs)
in_line_more b bs skips is_not (inl line) = inl (record {
  words = b ∷ line.words;
  tail = line.tail;
  in_line = All-cons (λ y. y ≢ 10) b line.words is_not line.in_line;
  split = ap (λ l. b ∷ l) line.split;
  left = skips ∙ line.left;
  goes_on = line.goes_on;
})
in_line_more b bs skips is_not (inr end) =
    inr (record { in_line = All-cons (λ y. y ≢ 10) b bs is_not end.in_line; left = skips ∙ end.left })

inside_step : (b : ℕ) (bs : List ℕ) → Outside bs → LineEnds bs ⊎ TextEnds bs → (line_feed : Bool) → eqb b 10 ≡ line_feed → LineEnds (b ∷ bs) ⊎ TextEnds (b ∷ bs)
inside_step b bs out within true is = inl (record {
  words = [];
  tail = bs;
  in_line = All-nil (λ y. y ≢ 10);
  split = ap (λ y. y ∷ bs) (eqb-true b 10 is);
  left = behind_cons true b bs ∙ ap (λ t. behind (not t) bs) is;
  goes_on = out;
})
inside_step b bs out within false is =
    in_line_more b bs (behind_cons true b bs ∙ ap (λ t. behind (not t) bs) is) (eqb-false b 10 is) within

both : (text : List ℕ) → Outside text × (LineEnds text ⊎ TextEnds text)
both [] = (
  inl (record { pieces = []; gap = sym (behind_nil false); stops = ap begins_gap (behind_nil false) }),
  inr (record { in_line = All-nil (λ y. y ≢ 10); left = behind_nil true }),
)
both (b ∷ bs) =
    let rest = both bs in
    (outside_step b bs rest.0 rest.1 (eqb b 59) (in_class Blank b) refl refl, inside_step b bs rest.0 rest.1 (eqb b 10) refl)

-- what is skipped is blanks and comments, and stops before what is neither
pub gap_lem : (text : List ℕ) → IsBehindGap text (behind_gap text) ⊎ (EndsInComment text × (behind_gap text ≡ []))
gap_lem text = (both text).0
