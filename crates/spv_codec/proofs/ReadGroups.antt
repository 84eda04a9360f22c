-- What can be read is a group, and a group can be read.
use Rattle.std.proofs.Common.{◌≡◌, ℕ, ◌<◌, Bool, true, false, List, [], ◌∷◌, ◌++◌, length, take, drop, Ok, Err, sym, ◌∙◌, ap, refl, arith, append_assoc, length-append}
use Rattle.std.specs.Prelude.{Option, if◌then◌else◌}
use Rattle.std.proofs.lemmas.List.{take_at, drop_at, take_all, take-append-drop, length-take-le}
use Rattle.spv_words.specs.declared.words.Order.TheVariants.{Little}
use Rattle.spv_words.specs.Words.{words_bytes}
use Rattle.spv_words.specs.Strings.{BeginsString}
use Rattle.spv_layout.specs.declared.operands.EnumKind.{EnumKind}
use Rattle.spv_layout.specs.declared.operands.ExtraOperand.{ExtraOperand}
use Rattle.spv_layout.specs.declared.operands.ExtraOperand.TheVariants.{W as Word, S as Text, E as Enum}
use Rattle.spv_layout.specs.Enumerants.{is_known, extra_operands_of}
use Rattle.spv_codec.specs.declared.operands.OperandFault.TheVariants.{Unknown, BadString, HighBits}
use Rattle.spv_codec.specs.Operands.{Reading, and_then, read_word, read_string, begins_string, string_text, string_len, read_number, is_wide, fits_width, read_plain, read_extra, read_extras, read_enumerant}
use Rattle.spv_codec.specs.Groups.{IsWord, IsString, IsNumber, IsNumberOf, IsPlain, IsExtra, InParts, AreExtras, IsEnumerant}
use Rattle.spv_words.proofs.StringLaws.{count-string}
use Rattle.spv_codec.proofs.ReadStrings.{BeginsString-begins_string, read_string-BeginsString}

-- a group stands in front of what is left
pub record Front (Group : List ℕ → Type 0) (words rest : List ℕ) : Type 0 where
  pub front : List ℕ
  pub whole : words ≡ front ++ rest
  pub group : Group front

pub word-front : (words rest : List ℕ) → read_word words ≡ Ok rest → Front IsWord words rest
word-front [] rest read = absurd cc
word-front (word ∷ behind) rest read = let same : behind ≡ rest = cc in record { front = word ∷ []; whole = ap (λ ws. word ∷ ws) same; group = (word, refl) }

pub word-read : (front rest : List ℕ) → IsWord front → read_word (front ++ rest) ≡ Ok rest
word-read front rest h = ap (λ ws. read_word (ws ++ rest)) h.1

-- the string that words begin with is one by itself
string-alone : (words text : List ℕ) (used : ℕ) → BeginsString words text used → BeginsString (take used words) text (length (take used words))
string-alone words text used string =
    let len : length (take used words) ≡ used = length-take-le used words string.within in
    record {
      within = omega arith;
      spelled = ap (words_bytes Little) (take_all (length (take used words)) (take used words) (omega arith)) ∙ string.spelled;
      utf8 = string.utf8;
      no_zero = string.no_zero;
    }

-- a string goes on to be one with words behind it
string-before : (front rest text : List ℕ) → BeginsString front text (length front) → BeginsString (front ++ rest) text (length front)
string-before front rest text string =
    record {
      within = omega (arith, length-append front rest);
      spelled = ap (words_bytes Little) (take_at front rest (length front) refl ∙ sym (take_all (length front) front (omega arith))) ∙ string.spelled;
      utf8 = string.utf8;
      no_zero = string.no_zero;
    }

pub string-front : (words rest : List ℕ) → read_string words ≡ Ok rest → Front IsString words rest
string-front [] rest read = absurd cc
string-front (word ∷ behind) rest read = by_test (begins_string words) refl read
  where
    words : List ℕ
    words = word ∷ behind

    by_test : (b : Bool) → begins_string words ≡ b → (if b then Ok (drop (string_len words) words) else Err BadString) ≡ Ok rest → Front IsString words rest
    by_test false e r = absurd cc
    by_test true e r =
        let same : drop (string_len words) words ≡ rest = cc in
        record {
          front = take (string_len words) words;
          whole = sym (take-append-drop (string_len words) words) ∙ ap (λ ws. take (string_len words) words ++ ws) same;
          group = (string_text words, string-alone words (string_text words) (string_len words) (BeginsString-begins_string words e));
        }

-- a string has a word at least
string-some : (words text : List ℕ) → BeginsString words text (length words) → 0 < length words
string-some [] text string = let count = count-string [] text 0 string in absurd (omega arith)
string-some (word ∷ behind) text string = omega arith

pub string-read : (front rest : List ℕ) → IsString front → read_string (front ++ rest) ≡ Ok rest
string-read front rest h =
    let some = string-some front h.0 h.1 in
    read_string-BeginsString (front ++ rest) h.0 (length front) (omega (arith, length-append front rest)) (string-before front rest h.0 h.1)
    ∙ ap Ok (drop_at front rest (length front) refl)

pub number-front : (width : Option ℕ) (words rest : List ℕ) → read_number width words ≡ Ok rest → Front (IsNumber width) words rest
number-front width [] rest read = absurd cc
number-front width (low ∷ behind) rest read = by_width (is_wide width) read
  where
    by_fit : (b : Bool) → fits_width width low ≡ b → (if b then Ok behind else Err HighBits) ≡ Ok rest → Front (IsNumberOf false width) (low ∷ behind) rest
    by_fit false e r = absurd cc
    by_fit true e r = let same : behind ≡ rest = cc in record { front = low ∷ []; whole = ap (λ ws. low ∷ ws) same; group = (low, refl, e) }

    by_word : (ws : List ℕ) → read_word ws ≡ Ok rest → Front (IsNumberOf true width) (low ∷ ws) rest
    by_word [] r = absurd cc
    by_word (high ∷ ws) r = let same : ws ≡ rest = cc in record { front = low ∷ high ∷ []; whole = ap (λ x. low ∷ high ∷ x) same; group = (low, high, refl) }

    by_width : (b : Bool) → (if b then read_word behind else (if fits_width width low then Ok behind else Err HighBits)) ≡ Ok rest
        → Front (IsNumberOf b width) (low ∷ behind) rest
    by_width true r = by_word behind r
    by_width false r = by_fit (fits_width width low) refl r

pub number-read : (width : Option ℕ) (front rest : List ℕ) → IsNumber width front → read_number width (front ++ rest) ≡ Ok rest
number-read width front rest h = by_width (is_wide width) refl h
  where
    by_width : (b : Bool) → is_wide width ≡ b → IsNumberOf b width front → read_number width (front ++ rest) ≡ Ok rest
    by_width true e g = ap (λ ws. read_number width (ws ++ rest)) g.2 ∙ rw e refl
    by_width false e g = ap (λ ws. read_number width (ws ++ rest)) g.1 ∙ rw (e, g.2) refl

pub plain-front : (kind : EnumKind) (words rest : List ℕ) → read_plain kind words ≡ Ok rest → Front (IsPlain kind) words rest
plain-front kind [] rest read = absurd cc
plain-front kind (word ∷ behind) rest read = by_known (is_known kind word) refl read
  where
    by_known : (b : Bool) → is_known kind word ≡ b → (if b then Ok behind else Err Unknown) ≡ Ok rest → Front (IsPlain kind) (word ∷ behind) rest
    by_known false e r = absurd cc
    by_known true e r = let same : behind ≡ rest = cc in record { front = word ∷ []; whole = ap (λ ws. word ∷ ws) same; group = (word, refl, e) }

pub plain-read : (kind : EnumKind) (front rest : List ℕ) → IsPlain kind front → read_plain kind (front ++ rest) ≡ Ok rest
plain-read kind front rest h = ap (λ ws. read_plain kind (ws ++ rest)) h.1 ∙ rw h.2 refl

pub extra-front : (extra : ExtraOperand) (words rest : List ℕ) → read_extra extra words ≡ Ok rest → Front (IsExtra extra) words rest
extra-front Word words rest read = word-front words rest read
extra-front Text words rest read = string-front words rest read
extra-front (Enum kind) words rest read = plain-front kind words rest read

pub extra-read : (extra : ExtraOperand) (front rest : List ℕ) → IsExtra extra front → read_extra extra (front ++ rest) ≡ Ok rest
extra-read Word front rest h = word-read front rest h
extra-read Text front rest h = string-read front rest h
extra-read (Enum kind) front rest h = plain-read kind front rest h

-- what is read in two steps is two groups
pub two-fronts : (First Second : List ℕ → Type 0) (words rest : List ℕ) (reading : Reading) (next : List ℕ → Reading)
    → ((mid : List ℕ) → reading ≡ Ok mid → Front First words mid) → ((mid : List ℕ) → next mid ≡ Ok rest → Front Second mid rest)
    → and_then reading next ≡ Ok rest → Front (λ ws. InParts ws First Second) words rest
two-fronts First Second words rest (Err fault) next first second read = absurd cc
two-fronts First Second words rest (Ok mid) next first second read =
    let a = first mid refl in
    let b = second mid read in
    record {
      front = a.front ++ b.front;
      whole = a.whole ∙ (ap (λ ws. a.front ++ ws) b.whole ∙ sym (append_assoc a.front b.front rest));
      group = record { front = a.front; back = b.front; whole = refl; first = a.group; second = b.group };
    }

pub two-read : (First Second : List ℕ → Type 0) (read : List ℕ → Reading) (next : List ℕ → Reading) (front rest : List ℕ)
    → ((a b : List ℕ) → First a → read (a ++ b) ≡ Ok b) → ((a b : List ℕ) → Second a → next (a ++ b) ≡ Ok b)
    → InParts front First Second → and_then (read (front ++ rest)) next ≡ Ok rest
two-read First Second read next front rest first second h =
    ap (λ ws. and_then (read (ws ++ rest)) next) h.whole
    ∙ (ap (λ ws. and_then (read ws) next) (append_assoc h.front h.back rest)
    ∙ (ap (λ r. and_then r next) (first h.front (h.back ++ rest) h.first) ∙ second h.back rest h.second))

pub extras-front : (extras : List ExtraOperand) (words rest : List ℕ) → read_extras extras words ≡ Ok rest → Front (AreExtras extras) words rest
extras-front [] words rest read = let same : words ≡ rest = cc in record { front = []; whole = same; group = refl }
extras-front (extra ∷ extras) words rest read =
    two-fronts (IsExtra extra) (AreExtras extras) words rest (read_extra extra words) (read_extras extras)
    (λ mid r. extra-front extra words mid r) (λ mid r. extras-front extras mid rest r) read

pub extras-read : (extras : List ExtraOperand) (front rest : List ℕ) → AreExtras extras front → read_extras extras (front ++ rest) ≡ Ok rest
extras-read [] front rest h = ap (λ ws. Ok (ws ++ rest)) h
extras-read (extra ∷ extras) front rest h =
    two-read (IsExtra extra) (AreExtras extras) (read_extra extra) (read_extras extras) front rest
    (λ a b g. extra-read extra a b g) (λ a b g. extras-read extras a b g) h

pub enumerant-front : (kind : EnumKind) (words rest : List ℕ) → read_enumerant kind words ≡ Ok rest → Front (IsEnumerant kind) words rest
enumerant-front kind [] rest read = absurd cc
enumerant-front kind (word ∷ behind) rest read = by_known (is_known kind word) refl read
  where
    by_known : (b : Bool) → is_known kind word ≡ b → (if b then read_extras (extra_operands_of kind word) behind else Err Unknown) ≡ Ok rest
        → Front (IsEnumerant kind) (word ∷ behind) rest
    by_known false e r = absurd cc
    by_known true e r =
        let f = extras-front (extra_operands_of kind word) behind rest r in
        record {
          front = word ∷ f.front;
          whole = ap (λ ws. word ∷ ws) f.whole;
          group = record { word = word; extra = f.front; whole = refl; known = e; extras = f.group };
        }

pub enumerant-read : (kind : EnumKind) (front rest : List ℕ) → IsEnumerant kind front → read_enumerant kind (front ++ rest) ≡ Ok rest
enumerant-read kind front rest h =
    ap (λ ws. read_enumerant kind (ws ++ rest)) h.whole ∙ rw h.known (extras-read (extra_operands_of kind h.word) h.extra rest h.extras)
