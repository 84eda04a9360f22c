-- Tokens are slices of the text, their places rise, and a text has one reading.
use Rattle.std.proofs.Common.{◌≡◌, ℕ, ◌+◌, ◌-◌, ◌≤◌, Bool, true, false, cond, List, [], ◌∷◌, ◌++◌, length, take, drop, sym, refl, ap, ◌∙◌, subst, arith, length-drop, length-append, append_assoc, take-append-drop, Option, None}
use Rattle.std.specs.Prelude.{All}
use Rattle.std.proofs.lemmas.Bool.{false≢true}
use Rattle.std.proofs.lemmas.List.{drop_at}
use Rattle.std.proofs.lemmas.List.Elements.{All-nil, All-cons}
use Rattle.ll_tokens.specs.Tokens.{comment_behind, behind, behind_gap, has_kind, Lexeme, BeginsWith, BeginsNoToken, Reads, IsTokenized, IsSliceOf, PlacesRise}
use Rattle.ports.specs.declared.faults.LlFault.{LlFault}
use Rattle.ll_tokens.proofs.Blanks.{behind_cons, behind_nil}
use Rattle.ll_tokens.proofs.Ends.{front_not_empty, kind_not_empty}
use Rattle.ll_tokens.proofs.Readings.{behind_le}
use Rattle.ll_tokens.proofs.OneKind.{one_kind_lem}

-- what is left behind blanks and comments is the end of the text
gap_if : (t : Bool) (rest bs : List ℕ) (b : ℕ) → (gap : List ℕ) × (bs ≡ gap ++ rest) → (gap : List ℕ) × (b ∷ bs ≡ gap ++ cond t rest (b ∷ bs))
gap_if true rest bs b h = (b ∷ h.0, ap (λ l. b ∷ l) h.1)
gap_if false rest bs b h = ([], refl)

gap_of : (in_comment : Bool) (bs : List ℕ) → (gap : List ℕ) × (bs ≡ gap ++ behind in_comment bs)
gap_of in_comment [] = ([], sym (behind_nil in_comment))
gap_of in_comment (b ∷ bs) =
    let h = gap_if _ _ bs b (gap_of (comment_behind in_comment b) bs) in
    (h.0, h.1 ∙ ap (λ l. h.0 ++ l) (sym (behind_cons in_comment b bs)))

slice_at : (text front rest : List ℕ) (token : Lexeme) → text ≡ front ++ rest → BeginsWith (length text) token rest → IsSliceOf text token
slice_at text front rest token is begins =
    let n = length token.text in
    let at : length front ≡ token.byte = omega (arith, begins.place, ap length is, length-append front rest) in
    let left : drop token.byte text ≡ rest = ap (drop token.byte) is ∙ drop_at front rest token.byte at in
    let width : token.byte + n - token.byte ≡ n = omega arith in
    begins.text ∙ ap (take n) (sym left) ∙ ap (λ k. take k (drop token.byte text)) (sym width)

pub slices_of : (text front rest after : List ℕ) (tokens : List Lexeme) → text ≡ front ++ rest → Reads (length text) tokens rest after → All (IsSliceOf text) tokens
slices_of text front rest after [] is reads = All-nil (IsSliceOf text)
slices_of text front rest after (token ∷ tokens) is reads =
    let gap = gap_of false rest in
    let left = behind_gap rest in
    let n = length token.text in
    let here : text ≡ (front ++ gap.0) ++ left = is ∙ ap (λ l. front ++ l) gap.1 ∙ sym (append_assoc front gap.0 left) in
    let next : text ≡ ((front ++ gap.0) ++ take n left) ++ drop n left =
    here ∙ ap (λ l. (front ++ gap.0) ++ l) (sym (take-append-drop n left)) ∙ sym (append_assoc (front ++ gap.0) (take n left) (drop n left)) in
    All-cons (IsSliceOf text) token tokens (slice_at text (front ++ gap.0) left token here reads.0)
    (slices_of text ((front ++ gap.0) ++ take n left) (drop n left) after tokens next reads.1)

pub places_rise_of : (total : ℕ) (rest after : List ℕ) (tokens : List Lexeme) → Reads total tokens rest after → PlacesRise tokens
places_rise_of total rest after [] reads = tt
places_rise_of total rest after (t ∷ []) reads = front_not_empty reads.0.front
places_rise_of total rest after (t ∷ u ∷ ts) reads =
    let left = behind_gap rest in
    let n = length t.text in (
      front_not_empty reads.0.front,
      omega (arith, reads.0.place, reads.1.0.place, reads.0.front.in_range, behind_le false (drop n left), length-drop n left),
      places_rise_of total (drop n left) after (u ∷ ts) reads.1,
    )

-- at one place begins one token
one_token : (total : ℕ) (rest : List ℕ) (t u : Lexeme) → BeginsWith total t rest → BeginsWith total u rest → t ≡ u
one_token total rest t u ht hu =
    let u_le = ht.front.longest u.kind (length u.text) hu.front.in_range hu.front.of_kind in
    let t_le = hu.front.longest t.kind (length t.text) ht.front.in_range ht.front.of_kind in
    let same_length : length t.text ≡ length u.text = omega arith in
    let same_kind : t.kind ≡ u.kind = one_kind_lem t.kind u.kind (take (length u.text) rest) (subst (λ n. has_kind t.kind (take n rest) ≡ true) same_length ht.front.of_kind) hu.front.of_kind in
    let same_text : t.text ≡ u.text = ht.text ∙ ap (λ n. take n rest) same_length ∙ sym hu.text in
    let same_byte : t.byte ≡ u.byte = omega (arith, ht.place, hu.place) in
    λ i. record { kind = same_kind i; text = same_text i; byte = same_byte i }

-- where no token begins, none does
no_token_begins : (total : ℕ) (rest after : List ℕ) (t : Lexeme) → rest ≡ after → BeginsNoToken after → BeginsWith total t rest → ⊥
no_token_begins total rest after t is none begins =
    false≢true (sym (none t.kind (length t.text) (subst (λ r. length t.text ≤ length r) is begins.front.in_range)) ∙ subst (λ r. has_kind t.kind (take (length t.text) r) ≡ true) is begins.front.of_kind)

-- a text is read in one way, as far as tokens go
pub one_reading : (total : ℕ) (rest x y : List ℕ) (a b : List Lexeme) → Reads total a rest x → BeginsNoToken x → Reads total b rest y → BeginsNoToken y → (a ≡ b) × (x ≡ y)
one_reading total rest x y [] [] ha nx hb ny = (refl, sym ha ∙ hb)
one_reading total rest x y [] (u ∷ us) ha nx hb ny = absurd (no_token_begins total _ x u ha nx hb.0)
one_reading total rest x y (t ∷ ts) [] ha nx hb ny = absurd (no_token_begins total _ y t hb ny ha.0)
one_reading total rest x y (t ∷ ts) (u ∷ us) ha nx hb ny =
    let same = one_token total (behind_gap rest) t u ha.0 hb.0 in
    let others = one_reading total (drop (length t.text) (behind_gap rest)) x y ts us ha.1 nx (subst (λ v. Reads total us (drop (length v.text) (behind_gap rest)) y) (sym same) hb.1) ny in
    (λ i. same i ∷ others.0 i, others.1)

-- at the end of the text no token begins
pub no_token_at_end : BeginsNoToken []
no_token_at_end = λ kind n le. let none : n ≡ 0 = omega arith in ap (λ k. has_kind kind (take k [])) none ∙ kind_not_empty kind

pub tokens_are_slices : (text : List ℕ) (tokens : List Lexeme) (fault : Option LlFault) → fault ≡ None → IsTokenized text tokens fault → All (IsSliceOf text) tokens
tokens_are_slices text tokens fault is read = slices_of text [] text [] tokens refl (subst (IsTokenized text tokens) is read)

pub places_rise : (text : List ℕ) (tokens : List Lexeme) (fault : Option LlFault) → fault ≡ None → IsTokenized text tokens fault → PlacesRise tokens
places_rise text tokens fault is read = places_rise_of (length text) text [] tokens (subst (IsTokenized text tokens) is read)
