-- The text of a phrase and the tokens that it is read as.
use Rattle.std.proofs.Common.{◌≡◌, ℕ, ◌+◌, ◌-◌, ◌≤◌, Bool, true, false, not, ◌&&◌, ◌||◌, eqb, List, [], ◌∷◌, ◌++◌, length, Option, Some, None, refl, sym, ap, subst, ◌∙◌, arith, length-append, append_assoc, append-nil}
use Rattle.std.specs.Prelude.{if◌then◌else◌}
use Rattle.std.proofs.lemmas.Bool.{and_parts, or_right, false≢true}
use Rattle.ll_tokens.specs.declared.bytes.ByteClass.TheVariants.{Blank, Punctuation}
use Rattle.ll_tokens.specs.declared.kinds.TokenKind.{TokenKind}
use Rattle.ll_tokens.specs.declared.kinds.TokenKind.TheVariants.{Punct}
use Rattle.ll_tokens.specs.Breaks.{begins_with_break, is_break}
use Rattle.ll_tokens.specs.Forms.{in_class}
use Rattle.ll_tokens.specs.Tokens.{IsTokens, Lexeme, Reads, behind, behind_gap, has_kind}
use Rattle.ll_tokens.proofs.Following.{token_then_text_lem, blank_then_text_lem, punctuation_lem}
use Rattle.ll_tokens.proofs.Separate.{token_before_break_lem}
use Rattle.ll_parser.specs.Productions.{◌>>◌}
use Rattle.ll_phrases.specs.Layouts.{IsLaidOut, layout}
use Rattle.ll_phrases.specs.Phrases.{Phrase, Empty, Gap, Mark, Solid, Both, spelled, written}

blank-breaks : (b : ℕ) → in_class Blank b ≡ true → is_break b ≡ true
blank-breaks b is = or_right (eqb b 59) _ (ap (λ (t : Bool). t || in_class Punctuation b) is)

mark-breaks : (b : ℕ) → in_class Punctuation b ≡ true → is_break b ≡ true
mark-breaks b is = or_right (eqb b 59) _ (or_right (in_class Blank b) _ is)

-- before a token that has to be separated, the text begins with a break
abbrev Parted : Bool → List ℕ → Type 0
Parted before text = before ≡ true → begins_with_break text ≡ true

-- a phrase's text, before a text that has these tokens, has those of the phrase and these
record Read (total : ℕ) (before : Bool) (phrase : Phrase) (text : List ℕ) (tokens : List Lexeme) : Type 0 where
  pub all : List Lexeme
  pub spells : spelled phrase all tokens
  pub reads : Reads total all text []
  pub parted : Parted before text

placed-right : (total n : ℕ) → n ≤ total → (total - n) + n ≡ total
placed-right total n le = omega (arith, le)

behind-text : (total : ℕ) (text rest : List ℕ) → length (text ++ rest) ≤ total → length rest ≤ total
behind-text total text rest le = omega (arith, le, length-append text rest)

taken : {A : Type 0} (test : Bool) (a b : A) → (if test then Some a else None) ≡ Some b → (test ≡ true) × (a ≡ b)
taken true a b is = (refl, ap (λ o. elim o [ None ↦ a | Some x ↦ x ]) is)
taken false a b is = absurd cc

not-both : (b : Bool) → not b ≡ true → b ≡ true → ⊥
not-both true is isnt = false≢true is
not-both false is isnt = false≢true isnt

chained : (first : Option Bool) (next : Bool → Option Bool) (ends : Bool) → elim first [ None ↦ None | Some middle ↦ next middle ] ≡ Some ends → (middle : Bool) × (first ≡ Some middle) × (next middle ≡ Some ends)
chained None next ends is = absurd cc
chained (Some middle) next ends is = (middle, refl, is)

token-read : (total : ℕ) (kind : TokenKind) (text rest : List ℕ) (tokens : List Lexeme) → has_kind kind text ≡ true → begins_with_break rest ≡ true → length (text ++ rest) ≤ total
    → Reads total tokens rest [] → Reads total (record { kind = kind; text = text; byte = total - length (text ++ rest) } ∷ tokens) (text ++ rest) []
token-read total kind text rest tokens has breaks le are =
    token_then_text_lem total (record { kind = kind; text = text; byte = total - length (text ++ rest) }) rest [] tokens
    (token_before_break_lem kind text rest has breaks) (placed-right total (length (text ++ rest)) le) are

mark-read : (total code : ℕ) (rest : List ℕ) (tokens : List Lexeme) → in_class Punctuation code ≡ true → length (code ∷ rest) ≤ total
    → Reads total tokens rest [] → Reads total (record { kind = Punct; text = code ∷ []; byte = total - length (code ∷ rest) } ∷ tokens) (code ∷ rest) []
mark-read total code rest tokens punctuation le are =
    token_then_text_lem total (record { kind = Punct; text = code ∷ []; byte = total - length (code ∷ rest) }) rest [] tokens
    (punctuation_lem code rest punctuation) (placed-right total (length (code ∷ rest)) le) are

read : (total : ℕ) (phrase : Phrase) (before ends : Bool) (rest : List ℕ) (tokens : List Lexeme) → layout before phrase ≡ Some ends → Parted ends rest → length (written phrase ++ rest) ≤ total
    → Reads total tokens rest [] → Read total before phrase (written phrase ++ rest) tokens
unfolding ◌>>◌
read total Empty before ends rest tokens is parted le are =
    record { all = tokens; spells = refl; reads = are; parted = λ so. parted (sym (ap (λ o. elim o [ None ↦ before | Some x ↦ x ]) is) ∙ so) }
read total (Gap b) before ends rest tokens is parted le are =
    let blank = (taken (in_class Blank b) false ends is).0 in
    record { all = tokens; spells = refl; reads = blank_then_text_lem total b rest [] tokens blank are; parted = λ so. blank-breaks b blank }
read total (Mark b) before ends rest tokens is parted le are =
    let punctuation = (taken (in_class Punctuation b) false ends is).0 in
    record {
      all = record { kind = Punct; text = b ∷ []; byte = total - length (b ∷ rest) } ∷ tokens;
      spells = (record { kind = Punct; text = b ∷ []; byte = total - length (b ∷ rest) }, refl, refl, refl);
      reads = mark-read total b rest tokens punctuation le are;
      parted = λ so. mark-breaks b punctuation;
    }
read total (Solid kind text) before ends rest tokens is parted le are =
    let both = taken (not before && has_kind kind text) true ends is in
    let tests = and_parts (not before) (has_kind kind text) both.0 in
    record {
      all = record { kind = kind; text = text; byte = total - length (text ++ rest) } ∷ tokens;
      spells = (record { kind = kind; text = text; byte = total - length (text ++ rest) }, refl, refl, refl);
      reads = token-read total kind text rest tokens tests.1 (parted (sym both.1)) le are;
      parted = λ so. absurd (not-both before tests.0 so);
    }
read total (Both p q) before ends rest tokens is parted le are =
    let (middle, first, second) = chained (layout before p) (λ m. layout m q) ends is in
    let same = append_assoc (written p) (written q) rest in
    let fits = subst (λ (t : List ℕ). length t ≤ total) same le in
    let two = read total q middle ends rest tokens second parted (behind-text total (written p) (written q ++ rest) fits) are in
    let one = read total p before middle (written q ++ rest) two.all first two.parted fits two.reads in
    record {
      all = one.all;
      spells = (two.all, one.spells, two.spells);
      reads = subst (λ (t : List ℕ). Reads total one.all t []) (sym same) one.reads;
      parted = λ so. subst (λ (t : List ℕ). begins_with_break t ≡ true) (sym same) (one.parted so);
    }

nothing-left : behind_gap [] ≡ []
unfolding behind
nothing-left = refl

pub texts-read : (phrase : Phrase) → IsLaidOut phrase → (tokens : List Lexeme) × IsTokens (written phrase) tokens × spelled phrase tokens []
texts-read phrase (ends, is) =
    let same = append-nil (written phrase) in
    let whole = read (length (written phrase)) phrase false ends [] [] is (λ so. refl) (omega (arith, length-append (written phrase) [])) nothing-left in
    (whole.all, subst (λ (t : List ℕ). Reads (length (written phrase)) whole.all t []) same whole.reads, whole.spells)
