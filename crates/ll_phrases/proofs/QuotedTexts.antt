-- A text between quotes stands for the bytes that it was made from.
use Rattle.std.proofs.Common.{◌≡◌, ℕ, ◌+◌, ◌*◌, ◌-◌, ◌/◌, ◌%◌, ◌<◌, ◌≤◌, Bool, true, false, not, ◌&&◌, eqb, List, [], ◌∷◌, ◌++◌, take, drop, length, refl, ap, ap₂, ◌∙◌, arith, append_assoc}
use Rattle.std.specs.Prelude.{flat_map, if◌then◌else◌, nat_lt}
use Rattle.std.specs.Char.{digit_value, is_ascii_hexdigit}
use Rattle.std.proofs.lemmas.Bool.{and_from, cond-true, cond-false}
use Rattle.std.proofs.lemmas.Bool.Decides.{nat_tests}
use Rattle.std.proofs.lemmas.List.{length_push, take_at}
use Rattle.ll_tokens.specs.declared.bytes.ByteClass.TheVariants.{Unquoted}
use Rattle.ll_tokens.specs.Forms.{has_until}
use Rattle.ll_parser.specs.Spellings.{between_quotes, unescaped}
use Rattle.ll_phrases.specs.Texts.{escaped_byte, hex_digit, is_escaped, quoted}

-- a digit of an escape
record IsHexDigit (n : ℕ) (byte : ℕ) : Type 0 where
  pub hex : is_ascii_hexdigit byte ≡ true
  pub value : digit_value byte ≡ n
  pub no_quote : eqb byte 34 ≡ false
  pub no_backslash : eqb byte 92 ≡ false

low-digit : (n : ℕ) → n < 10 → IsHexDigit n (48 + n)
low-digit n lt = record { hex = grind (arith, nat_tests); value = grind (arith, nat_tests); no_quote = grind (arith, nat_tests); no_backslash = grind (arith, nat_tests) }

high-digit : (n : ℕ) → 10 ≤ n → n < 16 → IsHexDigit n (55 + n)
high-digit n le lt = record { hex = grind (arith, nat_tests); value = grind (arith, nat_tests); no_quote = grind (arith, nat_tests); no_backslash = grind (arith, nat_tests) }

by-test : (n : ℕ) (is_low : Bool) → nat_lt n 10 ≡ is_low → n < 16 → IsHexDigit n (if is_low then 48 + n else 55 + n)
by-test n true is lt = low-digit n (grind (arith, nat_tests))
by-test n false is lt = high-digit n (grind (arith, nat_tests)) lt

hex-digit : (n : ℕ) → n < 16 → IsHexDigit n (hex_digit n)
hex-digit n lt = by-test n (nat_lt n 10) refl lt

escaped-small : (byte : ℕ) → is_escaped byte ≡ true → byte < 256
escaped-small byte is = grind (arith, nat_tests)

-- neither a quote nor a backslash
plain : (byte : ℕ) → is_escaped byte ≡ false → (eqb byte 34 ≡ false) × (eqb byte 92 ≡ false)
plain byte is = (grind (arith, nat_tests), grind (arith, nat_tests))

digits-joined : (byte high low : ℕ) → high ≡ byte / 16 → low ≡ byte % 16 → 16 * high + low ≡ byte
digits-joined byte high low e f = omega (arith, e, f)

escape-read : (a b : ℕ) (high low : ℕ) (rest : List ℕ) → IsHexDigit a high → IsHexDigit b low → unescaped (92 ∷ high ∷ low ∷ rest) ≡ (16 * a + b) ∷ unescaped rest
unfolding unescaped
escape-read a b high low rest one two =
    cond-false _ _ _ one.no_backslash
    ∙ (cond-true _ _ _ (and_from _ _ one.hex two.hex) ∙ ap₂ (λ x y. (16 * x + y) ∷ unescaped rest) one.value two.value)

plain-read : (byte : ℕ) (rest : List ℕ) → eqb byte 92 ≡ false → unescaped (byte ∷ rest) ≡ byte ∷ unescaped rest
unfolding unescaped
plain-read byte [] is = refl
plain-read byte (x ∷ []) is = cond-false _ _ _ (ap (λ t. t && eqb x 92) is)
plain-read byte (x ∷ y ∷ rest) is =
    cond-false _ _ _ (ap (λ t. t && eqb x 92) is) ∙ cond-false _ _ _ (ap (λ t. t && (is_ascii_hexdigit x && is_ascii_hexdigit y)) is)

byte-read : (byte : ℕ) (test : Bool) (rest : List ℕ) → is_escaped byte ≡ test → unescaped ((if test then 92 ∷ hex_digit (byte / 16) ∷ hex_digit (byte % 16) ∷ [] else byte ∷ []) ++ rest) ≡ byte ∷ unescaped rest
byte-read byte true rest is =
    let small = escaped-small byte is in
    escape-read (byte / 16) (byte % 16) (hex_digit (byte / 16)) (hex_digit (byte % 16)) rest (hex-digit (byte / 16) (omega (arith, small))) (hex-digit (byte % 16) (omega arith))
    ∙ ap (λ b. b ∷ unescaped rest) (digits-joined byte (byte / 16) (byte % 16) refl refl)
byte-read byte false rest is = plain-read byte rest (plain byte is).1

nothing-read : unescaped [] ≡ []
unfolding unescaped
nothing-read = refl

pub escapes-read : (bytes : List ℕ) → unescaped (flat_map escaped_byte bytes) ≡ bytes
escapes-read [] = nothing-read
escapes-read (byte ∷ bytes) = byte-read byte (is_escaped byte) (flat_map escaped_byte bytes) refl ∙ ap (λ bs. byte ∷ bs) (escapes-read bytes)

pub without-last : (text : List ℕ) (last : ℕ) → take (length (text ++ last ∷ []) - 1) (text ++ last ∷ []) ≡ text
without-last text last = take_at text (last ∷ []) (length (text ++ last ∷ []) - 1) (omega (arith, length_push text last))

pub quotes-read : (bytes : List ℕ) → between_quotes (quoted bytes) ≡ bytes
quotes-read bytes = ap (λ t. unescaped (drop 1 t)) (without-last (34 ∷ flat_map escaped_byte bytes) 34) ∙ escapes-read bytes

-- bytes up to the next quote, which is the one behind them
until-quote : (byte : ℕ) (test : Bool) (after : List ℕ → Bool) (rest : List ℕ) → is_escaped byte ≡ test → has_until Unquoted 34 after rest ≡ true
    → has_until Unquoted 34 after ((if test then 92 ∷ hex_digit (byte / 16) ∷ hex_digit (byte % 16) ∷ [] else byte ∷ []) ++ rest) ≡ true
until-quote byte true after rest is more =
    let small = escaped-small byte is in
    let high = hex-digit (byte / 16) (omega (arith, small)) in
    let low = hex-digit (byte % 16) (omega arith) in
    one (hex_digit (byte / 16)) _ high.no_quote (one (hex_digit (byte % 16)) rest low.no_quote more)
  where
    one : (b : ℕ) (text : List ℕ) → eqb b 34 ≡ false → has_until Unquoted 34 after text ≡ true → has_until Unquoted 34 after (b ∷ text) ≡ true
    one b text no_quote until = cond-false _ _ _ no_quote ∙ and_from _ _ (ap not no_quote) until
until-quote byte false after rest is more =
    let no_quote = (plain byte is).0 in
    cond-false _ _ _ no_quote ∙ and_from _ _ (ap not no_quote) more

quote-ends : (after : List ℕ → Bool) (bytes rest : List ℕ) → after rest ≡ true → has_until Unquoted 34 after (flat_map escaped_byte bytes ++ 34 ∷ rest) ≡ true
quote-ends after [] rest has = has
quote-ends after (byte ∷ bytes) rest has =
    ap (λ t. has_until Unquoted 34 after t) (append_assoc (escaped_byte byte) (flat_map escaped_byte bytes) (34 ∷ rest))
    ∙ until-quote byte (is_escaped byte) after (flat_map escaped_byte bytes ++ 34 ∷ rest) refl (quote-ends after bytes rest has)

-- a quoted text before a text that has a form
pub quoted-form : (after : List ℕ → Bool) (bytes rest : List ℕ) → after rest ≡ true → has_until Unquoted 34 after ((flat_map escaped_byte bytes ++ 34 ∷ []) ++ rest) ≡ true
quoted-form after bytes rest has = ap (λ t. has_until Unquoted 34 after t) (append_assoc (flat_map escaped_byte bytes) (34 ∷ []) rest) ∙ quote-ends after bytes rest has
