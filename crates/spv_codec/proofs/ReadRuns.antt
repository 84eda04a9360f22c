-- Operands that stand for several, or may be left out; and all operands of a form.
use Rattle.std.proofs.Common.{◌≡◌, ℕ, zero, suc, ◌<◌, Bool, true, false, List, [], ◌∷◌, ◌++◌, length, All, Ok, Err, sym, ◌∙◌, ap, refl, inl, inr, arith, append_assoc, append-nil, length-append, subst}
use Rattle.std.specs.Prelude.{Option, if◌then◌else◌, ⊤}
use Rattle.std.specs.List.{flat_map}
use Rattle.std.proofs.lemmas.Bool.{and_parts}
use Rattle.spv_layout.specs.declared.operands.EnumKind.{EnumKind}
use Rattle.spv_layout.specs.declared.operands.OperandKind.{OperandKind}
use Rattle.spv_layout.specs.declared.operands.OperandKind.TheVariants.{T, R, I, W, S, N, E, OptI, OptIS, OptWW, OptE, ManyI, ManyW, ManyII, ManyNI}
use Rattle.spv_layout.specs.Laws.{is_single, runs_last}
use Rattle.spv_codec.specs.declared.operands.OperandFault.TheVariants.{Misfit, HighBits}
use Rattle.spv_codec.specs.Operands.{Reading, and_then, read_word, read_string, read_number, is_wide, fits_width, read_enumerant, read_id_and_string, read_pairs, read_narrow_cases, read_wide_cases, read_cases, read_two, read_optional, read_operand, read_operands, read_end}
use Rattle.spv_codec.specs.Groups.{IsWord, IsString, IsNumber, IsNumberOf, InParts, IsEnumerant, IsOptional, IsIdAndString, ArePairs, Case, AreCases, IsGroup, AreGroups}
use Rattle.spv_codec.proofs.ReadLoops.{read_cases-step}
use Rattle.spv_codec.proofs.ReadGroups.{Front, word-front, word-read, string-front, string-read, number-front, number-read, enumerant-front, enumerant-read, two-fronts, two-read}

-- all that is left is a group
whole-front : (Group : List ℕ → Type 0) (words rest : List ℕ) → rest ≡ [] → Group words → Front Group words rest
whole-front Group words rest none group =
    record { front = words; whole = sym (append-nil words) ∙ ap (λ ws. words ++ ws) (sym none); group = group }

optional-front : (Group : List ℕ → Type 0) (read : List ℕ → Reading) (words rest : List ℕ)
    → ((ws : List ℕ) → read ws ≡ Ok rest → Front Group ws rest) → read_optional read words ≡ Ok rest → Front (IsOptional Group) words rest
optional-front Group read [] rest there is = let none : [] ≡ rest = cc in whole-front (IsOptional Group) [] rest (sym none) (inl refl)
optional-front Group read (word ∷ behind) rest there is =
    let f = there (word ∷ behind) is in record { front = f.front; whole = f.whole; group = inr f.group }

optional-last : (Group : List ℕ → Type 0) (read : List ℕ → Reading) (words : List ℕ)
    → ((ws : List ℕ) → Group ws → (0 < length ws) × (read ws ≡ Ok [])) → IsOptional Group words → read_optional read words ≡ Ok []
optional-last Group read words there (inl none) = ap (read_optional read) none
optional-last Group read words there (inr group) = present words (there words group)
  where
    present : (ws : List ℕ) → (0 < length ws) × (read ws ≡ Ok []) → read_optional read ws ≡ Ok []
    present [] h = absurd (omega (arith, h.0))
    present (word ∷ behind) h = h.1

id_and_string-front : (words rest : List ℕ) → read_id_and_string words ≡ Ok rest → Front IsIdAndString words rest
id_and_string-front [] rest is = absurd cc
id_and_string-front (id ∷ []) rest is =
    let none : [] ≡ rest = cc in
    whole-front IsIdAndString (id ∷ []) rest (sym none) (record { front = id ∷ []; back = []; whole = refl; first = (id, refl); second = inl refl })
id_and_string-front (id ∷ word ∷ behind) rest is =
    let f = string-front (word ∷ behind) rest is in
    record {
      front = id ∷ f.front;
      whole = ap (λ ws. id ∷ ws) f.whole;
      group = record { front = id ∷ []; back = f.front; whole = refl; first = (id, refl); second = inr f.group };
    }

alone : (read : List ℕ → Reading) (words : List ℕ) → read (words ++ []) ≡ Ok [] → read words ≡ Ok []
alone read words is = ap read (sym (append-nil words)) ∙ is

id_and_string-last : (words : List ℕ) → IsIdAndString words → (0 < length words) × (read_id_and_string words ≡ Ok [])
id_and_string-last words h = by_string h.back h.second h.whole
  where
    id : ℕ
    id = h.first.0

    behind : (ws : List ℕ) → read_string ws ≡ Ok [] → read_id_and_string (id ∷ ws) ≡ Ok []
    behind [] is = absurd cc
    behind (word ∷ ws) is = is

    by_string : (back : List ℕ) → IsOptional IsString back → words ≡ h.front ++ back → (0 < length words) × (read_id_and_string words ≡ Ok [])
    by_string back (inl none) whole =
        let same : words ≡ id ∷ [] = whole ∙ (ap (λ ws. ws ++ back) h.first.1 ∙ ap (λ ws. id ∷ ws) none) in
        (omega (arith, ap length same), ap read_id_and_string same)
    by_string back (inr string) whole =
        let same : words ≡ id ∷ back = whole ∙ ap (λ ws. ws ++ back) h.first.1 in
        (omega (arith, ap length same), ap read_id_and_string same ∙ behind back (alone read_string back (string-read back [] string)))

two-words-last : (words : List ℕ) → InParts words IsWord IsWord → (0 < length words) × (read_two words ≡ Ok [])
two-words-last words h = (
  omega (arith, ap length h.whole, ap length h.first.1, length-append h.front h.back),
  alone read_two words (two-read IsWord IsWord read_word read_word words [] word-read word-read h),
)

word-last : (words : List ℕ) → IsWord words → (0 < length words) × (read_word words ≡ Ok [])
word-last words h = (omega (arith, ap length h.1), ap read_word h.1)

enumerant-last : (kind : EnumKind) (words : List ℕ) → IsEnumerant kind words → (0 < length words) × (read_enumerant kind words ≡ Ok [])
enumerant-last kind words h = (omega (arith, ap length h.whole), alone (read_enumerant kind) words (enumerant-read kind words [] h))

-- pairs up to the end
record Runs (Group : List ℕ → Type 0) (words rest : List ℕ) : Type 0 where
  none : rest ≡ []
  group : Group words

pairs-front : (words rest : List ℕ) → read_pairs words ≡ Ok rest → Runs ArePairs words rest
pairs-front [] rest is = let e : [] ≡ rest = cc in record { none = sym e; group = ([], refl) }
pairs-front (first ∷ []) rest is = absurd cc
pairs-front (first ∷ second ∷ behind) rest is =
    let h = pairs-front behind rest is in
    record { none = h.none; group = ((first, second) ∷ h.group.0, ap (λ ws. first ∷ second ∷ ws) h.group.1) }

pairs-last : (words : List ℕ) → ArePairs words → read_pairs words ≡ Ok []
pairs-last words h = ap read_pairs h.1 ∙ of_pairs h.0
  where
    of_pairs : (pairs : List (ℕ × ℕ)) → read_pairs (flat_map (λ pair. pair.0 ∷ pair.1 ∷ []) pairs) ≡ Ok []
    of_pairs [] = refl
    of_pairs (pair ∷ pairs) = of_pairs pairs

case-more : (P : Case → Type 0) (c : Case) (cs : List Case) → P c → All P cs → All P (c ∷ cs)
case-more P c cs here there zero d lt = here
case-more P c cs here there (suc k) d lt = there k d (omega arith)

no-cases : (width : Option ℕ) → AreCases width []
no-cases width = record { cases = []; whole = refl; numbers = λ k d lt. absurd (omega arith) }

one-case : (width : Option ℕ) (number : List ℕ) (label : ℕ) (behind : List ℕ) → IsNumber width number → AreCases width behind
    → AreCases width (number ++ label ∷ behind)
one-case width number label behind fits h =
    let c : Case = record { number = number; label = label } in
    record {
      cases = c ∷ h.cases;
      whole = ap (λ ws. number ++ label ∷ ws) h.whole ∙ sym (append_assoc number (label ∷ []) (flat_map (λ case. case.number ++ case.label ∷ []) h.cases));
      numbers = case-more (λ case. IsNumber width case.number) c h.cases fits h.numbers;
    }

wide-front : (width : Option ℕ) (words rest : List ℕ) → is_wide width ≡ true → read_wide_cases words ≡ Ok rest → Runs (AreCases width) words rest
wide-front width [] rest wide is = let e : [] ≡ rest = cc in record { none = sym e; group = no-cases width }
wide-front width (low ∷ []) rest wide is = absurd cc
wide-front width (low ∷ high ∷ []) rest wide is = absurd cc
wide-front width (low ∷ high ∷ label ∷ behind) rest wide is =
    let h = wide-front width behind rest wide is in
    let number : IsNumber width (low ∷ high ∷ []) =
    let P : Bool → Type 0 = λ b. IsNumberOf b width (low ∷ high ∷ []) in subst P (sym wide) (low, high, refl) in
    record { none = h.none; group = one-case width (low ∷ high ∷ []) label behind number h.group }

narrow-front : (width : Option ℕ) (words rest : List ℕ) → is_wide width ≡ false → read_narrow_cases width words ≡ Ok rest → Runs (AreCases width) words rest
narrow-front width [] rest narrow is = let e : [] ≡ rest = cc in record { none = sym e; group = no-cases width }
narrow-front width (number ∷ []) rest narrow is = absurd (no_label (fits_width width number) is)
  where
    no_label : (b : Bool) → (if b then Err Misfit else Err HighBits) ≡ Ok rest → ⊥
    no_label true e = cc
    no_label false e = cc
narrow-front width (number ∷ label ∷ behind) rest narrow is = by_fit (fits_width width number) refl is (λ r. narrow-front width behind rest narrow r)
  where
    by_fit : (b : Bool) → fits_width width number ≡ b → (if b then read_narrow_cases width behind else Err HighBits) ≡ Ok rest
        → (read_narrow_cases width behind ≡ Ok rest → Runs (AreCases width) behind rest) → Runs (AreCases width) (number ∷ label ∷ behind) rest
    by_fit false e r again = absurd cc
    by_fit true e r again =
        let h = again r in
        let fits : IsNumber width (number ∷ []) =
        let P : Bool → Type 0 = λ b. IsNumberOf b width (number ∷ []) in subst P (sym narrow) (number, refl, e) in
        record { none = h.none; group = one-case width (number ∷ []) label behind fits h.group }

cases-front : (width : Option ℕ) (words rest : List ℕ) → read_cases width words ≡ Ok rest → Runs (AreCases width) words rest
cases-front width words rest is = by_width (is_wide width) refl is
  where
    by_width : (b : Bool) → is_wide width ≡ b → (if b then read_wide_cases words else read_narrow_cases width words) ≡ Ok rest → Runs (AreCases width) words rest
    by_width true e r = wide-front width words rest e r
    by_width false e r = narrow-front width words rest e r

cases-last : (width : Option ℕ) (words : List ℕ) → AreCases width words → read_cases width words ≡ Ok []
cases-last width words h = ap (read_cases width) h.whole ∙ of_cases h.cases h.numbers
  where
    empty : (b : Bool) → if◌then◌else◌ {A = Reading} b (Ok []) (Ok []) ≡ Ok []
    empty true = refl
    empty false = refl

    of_cases : (cases : List Case) → All (λ case. IsNumber width case.number) cases
        → read_cases width (flat_map (λ case. case.number ++ case.label ∷ []) cases) ≡ Ok []
    of_cases [] numbers = empty (is_wide width)
    of_cases (c ∷ cs) numbers =
        let more = flat_map (λ case. case.number ++ case.label ∷ []) cs in
        let apart : (c.number ++ c.label ∷ []) ++ more ≡ c.number ++ (c.label ∷ more) = append_assoc c.number (c.label ∷ []) more in
        ap (read_cases width) apart
        ∙ (read_cases-step width (c.number ++ (c.label ∷ more)) (omega (arith, length-append c.number (c.label ∷ more)))
        ∙ (ap (λ r. and_then r (λ rest. and_then (read_word rest) (read_cases width))) (number-read width c.number (c.label ∷ more) (numbers 0 c (omega arith)))
        ∙ of_cases cs (λ k d lt. numbers (suc k) d (omega arith))))

from-runs : (Group : List ℕ → Type 0) (words rest : List ℕ) → Runs Group words rest → Front Group words rest
from-runs Group words rest h = whole-front Group words rest h.none h.group

-- what can be read of an operand is its group
operand-front : (width : Option ℕ) (kind : OperandKind) (words rest : List ℕ) → read_operand width kind words ≡ Ok rest → Front (IsGroup width kind) words rest
operand-front width T words rest is = word-front words rest is
operand-front width R words rest is = word-front words rest is
operand-front width I words rest is = word-front words rest is
operand-front width W words rest is = word-front words rest is
operand-front width S words rest is = string-front words rest is
operand-front width N words rest is = number-front width words rest is
operand-front width (E kind) words rest is = enumerant-front kind words rest is
operand-front width OptI words rest is = optional-front IsWord read_word words rest (λ ws r. word-front ws rest r) is
operand-front width OptIS words rest is = optional-front IsIdAndString read_id_and_string words rest (λ ws r. id_and_string-front ws rest r) is
operand-front width OptWW words rest is =
    optional-front (λ ws. InParts ws IsWord IsWord) read_two words rest
    (λ ws r. two-fronts IsWord IsWord ws rest (read_word ws) read_word (λ mid m. word-front ws mid m) (λ mid m. word-front mid rest m) r) is
operand-front width (OptE kind) words rest is = optional-front (IsEnumerant kind) (read_enumerant kind) words rest (λ ws r. enumerant-front kind ws rest r) is
operand-front width ManyI words rest is = let none : [] ≡ rest = cc in whole-front (λ _. ⊤) words rest (sym none) tt
operand-front width ManyW words rest is = let none : [] ≡ rest = cc in whole-front (λ _. ⊤) words rest (sym none) tt
operand-front width ManyII words rest is = from-runs ArePairs words rest (pairs-front words rest is)
operand-front width ManyNI words rest is = from-runs (AreCases width) words rest (cases-front width words rest is)

-- a group that is always there can be read, whatever follows
operand-read : (width : Option ℕ) (kind : OperandKind) (front rest : List ℕ) → is_single kind ≡ true → IsGroup width kind front
    → read_operand width kind (front ++ rest) ≡ Ok rest
operand-read width T front rest single h = word-read front rest h
operand-read width R front rest single h = word-read front rest h
operand-read width I front rest single h = word-read front rest h
operand-read width W front rest single h = word-read front rest h
operand-read width S front rest single h = string-read front rest h
operand-read width N front rest single h = number-read width front rest h
operand-read width (E kind) front rest single h = enumerant-read kind front rest h
operand-read width OptI front rest single h = absurd cc
operand-read width OptIS front rest single h = absurd cc
operand-read width OptWW front rest single h = absurd cc
operand-read width (OptE kind) front rest single h = absurd cc
operand-read width ManyI front rest single h = absurd cc
operand-read width ManyW front rest single h = absurd cc
operand-read width ManyII front rest single h = absurd cc
operand-read width ManyNI front rest single h = absurd cc

-- a group can be read at the end
operand-last : (width : Option ℕ) (kind : OperandKind) (words : List ℕ) → IsGroup width kind words → read_operand width kind words ≡ Ok []
operand-last width T words h = alone read_word words (word-read words [] h)
operand-last width R words h = alone read_word words (word-read words [] h)
operand-last width I words h = alone read_word words (word-read words [] h)
operand-last width W words h = alone read_word words (word-read words [] h)
operand-last width S words h = alone read_string words (string-read words [] h)
operand-last width N words h = alone (read_number width) words (number-read width words [] h)
operand-last width (E kind) words h = alone (read_enumerant kind) words (enumerant-read kind words [] h)
operand-last width OptI words h = optional-last IsWord read_word words word-last h
operand-last width OptIS words h = optional-last IsIdAndString read_id_and_string words id_and_string-last h
operand-last width OptWW words h = optional-last (λ ws. InParts ws IsWord IsWord) read_two words two-words-last h
operand-last width (OptE kind) words h = optional-last (IsEnumerant kind) (read_enumerant kind) words (enumerant-last kind) h
operand-last width ManyI words h = refl
operand-last width ManyW words h = refl
operand-last width ManyII words h = pairs-last words h
operand-last width ManyNI words h = cases-last width words h

end-none : (words : List ℕ) → read_end words ≡ Ok [] → words ≡ []
end-none [] is = refl
end-none (word ∷ rest) is = absurd cc

-- what can be read of a form is one group for each of its operands
pub groups-front : (width : Option ℕ) (kinds : List OperandKind) (words : List ℕ) → read_operands width kinds words ≡ Ok [] → AreGroups width kinds words
groups-front width [] words is = end-none words is
groups-front width (kind ∷ kinds) words is = by_first (read_operand width kind words) refl is (λ mid r. groups-front width kinds mid r)
  where
    by_first : (reading : Reading) → read_operand width kind words ≡ reading → and_then reading (read_operands width kinds) ≡ Ok []
        → ((mid : List ℕ) → read_operands width kinds mid ≡ Ok [] → AreGroups width kinds mid) → InParts words (IsGroup width kind) (AreGroups width kinds)
    by_first (Err fault) e r again = absurd cc
    by_first (Ok mid) e r again =
        let f = operand-front width kind words mid e in
        record { front = f.front; back = mid; whole = f.whole; first = f.group; second = again mid r }

-- groups of a form can be read, where what may be left out or stands for several is the last
pub groups-read : (width : Option ℕ) (kinds : List OperandKind) (words : List ℕ) → runs_last kinds ≡ true → AreGroups width kinds words
    → read_operands width kinds words ≡ Ok []
groups-read width [] words last h = ap read_end h
groups-read width (kind ∷ []) words last h =
    let whole : words ≡ h.front = h.whole ∙ (ap (λ ws. h.front ++ ws) h.second ∙ append-nil h.front) in
    ap (λ ws. and_then (read_operand width kind ws) read_end) whole ∙ ap (λ r. and_then r read_end) (operand-last width kind h.front h.first)
groups-read width (kind ∷ next ∷ kinds) words last h =
    let parts = and_parts (is_single kind) (runs_last (next ∷ kinds)) last in
    ap (λ ws. and_then (read_operand width kind ws) (read_operands width (next ∷ kinds))) h.whole
    ∙ (ap (λ r. and_then r (read_operands width (next ∷ kinds))) (operand-read width kind h.front h.back parts.0 h.first)
    ∙ groups-read width (next ∷ kinds) h.back parts.1 h.second)
