-- Text and the tokens that it is read as: marks, and phrases with blanks between and behind their tokens.
use Rattle.std.proofs.Common.{◌≡◌, ℕ, ◌+◌, ◌-◌, ◌≤◌, Bool, true, false, ◌&&◌, ◌||◌, eqb, List, [], ◌∷◌, ◌++◌, length, refl, ap, subst, arith, length-append}
use Rattle.std.proofs.lemmas.Bool.{and_parts, or_right}
use Rattle.ll_tokens.specs.declared.bytes.ByteClass.TheVariants.{Blank, Punctuation}
use Rattle.ll_tokens.specs.declared.kinds.TokenKind.{TokenKind}
use Rattle.ll_tokens.specs.declared.kinds.TokenKind.TheVariants.{Punct}
use Rattle.ll_tokens.specs.Breaks.{begins_with_break, is_break}
use Rattle.ll_tokens.specs.Forms.{in_class}
use Rattle.ll_tokens.specs.Tokens.{Lexeme, Reads, has_kind}
use Rattle.ll_tokens.proofs.Following.{token_then_text_lem, blank_then_text_lem, punctuation_lem}
use Rattle.ll_tokens.proofs.Separate.{token_before_break_lem}
use Rattle.ll_parser.specs.Productions.{Production, nothing, ◌>>◌, token, mark}
use Rattle.kernel_text.specs.Phrases.{Wanted, wanted_token, exactly}

-- Text that is the end of a source of `total` bytes begins with a production's tokens, and `rest` is what is left behind them
pub record Begins (total : ℕ) (production : Production) (text rest : List ℕ) : Type 0 where
  pub reads : (behind : List Lexeme) → Reads total behind rest [] → (tokens : List Lexeme) × production tokens behind × Reads total tokens text []

-- one production behind another
pub then : (total : ℕ) (first second : Production) (text middle rest : List ℕ) → Begins total first text middle → Begins total second middle rest → Begins total (first >> second) text rest
unfolding ◌>>◌
then total first second text middle rest one two = record {
  reads = λ behind are.
      let b = two.reads behind are in
      let a = one.reads b.0 b.2 in
      (a.0, (b.0, a.1, b.1), a.2);
}

pub no-text : (total : ℕ) (text : List ℕ) → Begins total nothing text text
no-text total text = record { reads = λ behind are. (behind, refl, are) }

pub same-text : (total : ℕ) (production : Production) (text other rest : List ℕ) → text ≡ other → Begins total production text rest → Begins total production other rest
same-text total production text other rest same begins = subst (λ (t : List ℕ). Begins total production t rest) same begins

-- where the end of a source of `total` bytes begins
abbrev pub place : ℕ → List ℕ → ℕ
place total text = total - length text

placed-right : (total n : ℕ) → n ≤ total → (total - n) + n ≡ total
placed-right total n le = omega (arith, le)

-- what stands behind a text is no longer than both
pub behind-text : (total : ℕ) (text rest : List ℕ) → length (text ++ rest) ≤ total → length rest ≤ total
behind-text total text rest le = omega (arith, le, length-append text rest)

abbrev pub lexeme_at : ℕ → TokenKind → List ℕ → Lexeme
lexeme_at byte kind text = record { kind = kind; text = text; byte = byte }

-- a token that ends before a blank, a comment or punctuation
pub token-begins : (total : ℕ) (kind : TokenKind) (test : Lexeme → Type 0) (text rest : List ℕ) → has_kind kind text ≡ true → begins_with_break rest ≡ true
    → test (lexeme_at (place total (text ++ rest)) kind text) → length (text ++ rest) ≤ total → Begins total (token kind test) (text ++ rest) rest
token-begins total kind test text rest has breaks holds le =
    let lexeme = lexeme_at (place total (text ++ rest)) kind text in
    record {
      reads = λ behind are. (
        lexeme ∷ behind,
        (lexeme, refl, refl, holds),
        token_then_text_lem total lexeme rest [] behind (token_before_break_lem kind text rest has breaks) (placed-right total (length (text ++ rest)) le) are,
      );
    }

pub mark-begins : (total code : ℕ) (rest : List ℕ) → in_class Punctuation code ≡ true → length (code ∷ rest) ≤ total → Begins total (mark code) (code ∷ rest) rest
mark-begins total code rest punctuation le =
    let lexeme = lexeme_at (place total (code ∷ rest)) Punct (code ∷ []) in
    record {
      reads = λ behind are. (
        lexeme ∷ behind,
        (lexeme, refl, refl, refl),
        token_then_text_lem total lexeme rest [] behind (punctuation_lem code rest punctuation) (placed-right total (length (code ∷ rest)) le) are,
      );
    }

pub blank-begins : (total : ℕ) (production : Production) (blank : ℕ) (text rest : List ℕ) → in_class Blank blank ≡ true → Begins total production text rest → Begins total production (blank ∷ text) rest
blank-begins total production blank text rest is begins = record {
  reads = λ behind are. let at = begins.reads behind are in (at.0, at.1, blank_then_text_lem total blank text [] at.0 is at.2);
}

-- what ends a line, 10, is left out behind tokens
pub before-line : (total : ℕ) (production : Production) (text rest : List ℕ) → Begins total production text (10 ∷ rest) → Begins total production text rest
before-line total production text rest begins = record { reads = λ behind are. begins.reads behind (blank_then_text_lem total 10 rest [] behind refl are) }

-- a part of a phrase's text
pub data Part : Type 0 where
  -- a blank
  Gap : ℕ → Part
  -- a punctuation mark
  Mark : ℕ → Part
  -- another token, which a gap or a mark is to follow
  Solid : TokenKind → List ℕ → Part

-- the text of parts before another text
abbrev pub before : List Part → List ℕ → List ℕ
before [] rest = rest
before (Gap blank ∷ parts) rest = blank ∷ before parts rest
before (Mark code ∷ parts) rest = code ∷ before parts rest
before (Solid kind text ∷ parts) rest = text ++ before parts rest

-- the tokens of parts
abbrev pub wanted_in : List Part → List Wanted
wanted_in [] = []
wanted_in (Gap blank ∷ parts) = wanted_in parts
wanted_in (Mark code ∷ parts) = (Punct, code ∷ []) ∷ wanted_in parts
wanted_in (Solid kind text ∷ parts) = (kind, text) ∷ wanted_in parts

abbrev pub separates : List Part → Bool
separates [] = false
separates (Gap blank ∷ parts) = true
separates (Mark code ∷ parts) = true
separates (Solid kind text ∷ parts) = false

-- each part is what it says, and each token that needs it has a gap or a mark behind it
abbrev pub fits : List Part → Bool
fits [] = true
fits (Gap blank ∷ parts) = in_class Blank blank && fits parts
fits (Mark code ∷ parts) = in_class Punctuation code && fits parts
fits (Solid kind text ∷ parts) = has_kind kind text && (separates parts && fits parts)

blank-breaks : (b : ℕ) → in_class Blank b ≡ true → is_break b ≡ true
blank-breaks b is = or_right (eqb b 59) _ (ap (λ (t : Bool). t || in_class Punctuation b) is)

mark-breaks : (b : ℕ) → in_class Punctuation b ≡ true → is_break b ≡ true
mark-breaks b is = or_right (eqb b 59) _ (or_right (in_class Blank b) _ is)

separated : (parts : List Part) (rest : List ℕ) → separates parts ≡ true → fits parts ≡ true → begins_with_break (before parts rest) ≡ true
separated [] rest separate fit = absurd cc
separated (Gap blank ∷ parts) rest separate fit = blank-breaks blank (and_parts _ _ fit).0
separated (Mark code ∷ parts) rest separate fit = mark-breaks code (and_parts _ _ fit).0
separated (Solid kind text ∷ parts) rest separate fit = absurd cc

-- a phrase with its gaps begins with its tokens
pub phrase-begins : (total : ℕ) (parts : List Part) (rest : List ℕ) → fits parts ≡ true → length (before parts rest) ≤ total → Begins total (exactly (wanted_in parts)) (before parts rest) rest
phrase-begins total [] rest fit le = no-text total rest
phrase-begins total (Gap blank ∷ parts) rest fit le =
    let both = and_parts (in_class Blank blank) (fits parts) fit in
    blank-begins total (exactly (wanted_in parts)) blank (before parts rest) rest both.0 (phrase-begins total parts rest both.1 (omega (arith, le)))
phrase-begins total (Mark code ∷ parts) rest fit le =
    let both = and_parts (in_class Punctuation code) (fits parts) fit in
    then total (mark code) (exactly (wanted_in parts)) (code ∷ before parts rest) (before parts rest) rest
    (mark-begins total code (before parts rest) both.0 le) (phrase-begins total parts rest both.1 (omega (arith, le)))
phrase-begins total (Solid kind text ∷ parts) rest fit le =
    let both = and_parts (has_kind kind text) (separates parts && fits parts) fit in
    let last = and_parts (separates parts) (fits parts) both.1 in
    then total (wanted_token (kind, text)) (exactly (wanted_in parts)) (text ++ before parts rest) (before parts rest) rest
    (token-begins total kind (λ lexeme. lexeme.text ≡ text) text (before parts rest) both.0 (separated parts rest last.0 last.1) refl le)
    (phrase-begins total parts rest last.1 (behind-text total text (before parts rest) le))

-- what stands behind a phrase is no longer than both
pub behind-parts : (total : ℕ) (parts : List Part) (rest : List ℕ) → length (before parts rest) ≤ total → length rest ≤ total
behind-parts total [] rest le = le
behind-parts total (Gap blank ∷ parts) rest le = behind-parts total parts rest (omega (arith, le))
behind-parts total (Mark code ∷ parts) rest le = behind-parts total parts rest (omega (arith, le))
behind-parts total (Solid kind text ∷ parts) rest le = behind-parts total parts rest (behind-text total text (before parts rest) le)
