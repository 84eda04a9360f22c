-- What the texts of numbers and names are as tokens, and what they spell.
use Rattle.std.proofs.Common.{◌≡◌, ℕ, suc, ◌+◌, ◌-◌, ◌*◌, ◌/◌, ◌%◌, ◌^◌, ◌<◌, ◌≤◌, ℤ, pos, negsuc, neg_ℤ, Bool, true, false, ◌&&◌, ◌||◌, eqb, List, [], ◌∷◌, ◌++◌, length, Option, Some, slice_get, refl, sym, ◌∙◌, ap, subst, arith}
use Rattle.std.specs.Prelude.{if◌then◌else◌, flat_map}
use Rattle.std.specs.Fmt.{decimal}
use Rattle.std.specs.List.{list_all}
use Rattle.std.specs.Char.{is_ascii_digit}
use Rattle.std.proofs.lemmas.Bool.{and_parts, and_from, cond-true, cond-false, false≢true, or_right}
use Rattle.std.proofs.lemmas.Bool.Decides.{nat_tests}
use Rattle.std.proofs.lemmas.Fmt.{decimal_by_steps_wide}
use Rattle.std.proofs.lemmas.List.{length_push}
use Rattle.ll_tokens.specs.declared.bytes.ByteClass.{ByteClass}
use Rattle.ll_tokens.specs.declared.bytes.ByteClass.TheVariants.{Name as NameByte, NameStart, Unquoted}
use Rattle.ll_tokens.specs.declared.kinds.TokenKind.TheVariants.{CStr, Int as IntToken, Label as LabelToken, MdStr, Mdn, Str, Word}
use Rattle.ll_tokens.specs.Forms.{End, has_form, has_until, in_class}
use Rattle.ll_tokens.specs.Tokens.{has_kind, name, named}
use Rattle.ll_tree.specs.declared.name.NameKind.{NameKind}
use Rattle.ll_tree.specs.declared.name.NameText.{NameText}
use Rattle.ll_tree.specs.declared.name.Spelling.{Spelling}
use Rattle.ll_tree.specs.declared.name.Spelling.TheVariants.{Number, Text}
use Rattle.ll_parser.specs.Spellings.{IsInReach, Spells, decimal_from, decimal_value, integer_value, spelling_of}
use Rattle.ll_parser.proofs.Decimals.{decimal_push}
use Rattle.ll_phrases.specs.Texts.{entry_text, escaped_byte, number_text, quoted, spelling_text}
use Rattle.ll_phrases.proofs.QuotedTexts.{quoted-form, quotes-read}

-- digits of a number
pub record IsDigits (n : ℕ) (digits : List ℕ) : Type 0 where
  pub digits_only : list_all is_ascii_digit digits ≡ true
  pub value : decimal_value digits ≡ n
  pub some : 0 < length digits

is-digit : (n : ℕ) → n < 10 → is_ascii_digit (48 + n) ≡ true
is-digit n lt = grind (arith, nat_tests)

of-one : (n : ℕ) → 0 + ((48 + n) - 48) ≡ n
of-one n = omega arith

one-digit : (n : ℕ) → n < 10 → IsDigits n ((48 + n) ∷ [])
one-digit n lt = record { digits_only = and_from _ true (is-digit n lt) refl; value = of-one n; some = omega arith }

all-and-one : (digits : List ℕ) (digit : ℕ) → list_all is_ascii_digit digits ≡ true → is_ascii_digit digit ≡ true → list_all is_ascii_digit (digits ++ digit ∷ []) ≡ true
all-and-one [] digit all is = and_from _ true is refl
all-and-one (d ∷ digits) digit all is = let both = and_parts _ _ all in and_from _ _ both.0 (all-and-one digits digit both.1 is)

put-together : (n front : ℕ) → front ≡ n / 10 → 10 * front + ((48 + n % 10) - 48) ≡ n
put-together n front is = omega (arith, is)

more-digits : (n : ℕ) (digits : List ℕ) → 10 ≤ n → IsDigits (n / 10) digits → IsDigits n (digits ++ ((48 + n % 10) ∷ []))
more-digits n digits le front = record {
  digits_only = all-and-one digits (48 + n % 10) front.digits_only (is-digit (n % 10) (omega arith));
  value = decimal_push 0 digits (48 + n % 10) ∙ put-together n (decimal_from 0 digits) front.value;
  some = omega (arith, length_push digits (48 + n % 10));
}

pub decimal-digits : (n : ℕ) → n < 10 ^ 64 → IsDigits n (decimal n)
decimal-digits = decimal_by_steps_wide (λ n digits. IsDigits n digits) one-digit more-digits

pub wide : (n : ℕ) → n < 2 ^ 64 → n < 10 ^ 64
wide n lt = omega (arith, lt)

or-first : (a b : Bool) → a ≡ true → (a || b) ≡ true
or-first a b is = ap (λ (c : Bool). c || b) is

digit-in-name : (d : ℕ) → is_ascii_digit d ≡ true → in_class NameByte d ≡ true
digit-in-name d is = grind (arith, nat_tests)

digit-in-word : (d : ℕ) → is_ascii_digit d ≡ true → in_class ByteClass.Word d ≡ true
digit-in-word d is = grind (arith, nat_tests)

digit-no-colon : (d : ℕ) → is_ascii_digit d ≡ true → eqb d 58 ≡ false
digit-no-colon d is = grind (arith, nat_tests)

digit-no-quote : (d : ℕ) → is_ascii_digit d ≡ true → eqb d 34 ≡ false
digit-no-quote d is = grind (arith, nat_tests)

digit-no-minus : (d : ℕ) → is_ascii_digit d ≡ true → eqb d 45 ≡ false
digit-no-minus d is = grind (arith, nat_tests)

-- a number is an integer token with its value
pub number-kind : (n : ℕ) (digits : List ℕ) → IsDigits n digits → has_kind IntToken digits ≡ true
unfolding has_form
number-kind n [] is = absurd (omega (arith, is.some))
number-kind n (d ∷ digits) is = or-first _ _ is.digits_only

pub number-value : (n : ℕ) (digits : List ℕ) → IsDigits n digits → integer_value digits ≡ pos n
number-value n [] is = absurd (omega (arith, is.some))
number-value n (d ∷ digits) is = cond-false _ _ _ (digit-no-minus d (and_parts _ _ is.digits_only).0) ∙ ap pos is.value

minus-kind : (n : ℕ) (digits : List ℕ) → IsDigits n digits → has_kind IntToken (45 ∷ digits) ≡ true
unfolding has_form
minus-kind n [] is = absurd (omega (arith, is.some))
minus-kind n (d ∷ digits) is = is.digits_only

-- the same of signed numbers
pub record IsIntegerText (n : ℤ) (text : List ℕ) : Type 0 where
  pub kind : has_kind IntToken text ≡ true
  pub value : integer_value text ≡ n

pub number-text : (n : ℕ) → n < 10 ^ 64 → IsIntegerText (pos n) (decimal n)
number-text n lt = let digits = decimal-digits n lt in record { kind = number-kind n _ digits; value = number-value n _ digits }

pub minus-text : (n : ℕ) → suc n < 10 ^ 64 → IsIntegerText (negsuc n) (45 ∷ decimal (suc n))
minus-text n lt = let digits = decimal-digits (suc n) lt in record { kind = minus-kind (suc n) _ digits; value = ap (λ k. neg_ℤ (pos k)) digits.value }

-- `i`, 105, and digits are a word
pub integer-type-kind : (n : ℕ) (digits : List ℕ) → IsDigits n digits → has_kind Word (105 ∷ digits) ≡ true
unfolding has_form
integer-type-kind n digits is = all-word digits is.digits_only
  where
    all-word : (ds : List ℕ) → list_all is_ascii_digit ds ≡ true → list_all (in_class ByteClass.Word) ds ≡ true
    all-word [] all = refl
    all-word (d ∷ ds) all = let both = and_parts _ _ all in and_from _ _ (digit-in-word d both.0) (all-word ds both.1)

-- digits behind `!`, 33
pub node-kind : (n : ℕ) (digits : List ℕ) → IsDigits n digits → has_kind Mdn (33 ∷ digits) ≡ true
unfolding has_form
node-kind n [] is = absurd (omega (arith, is.some))
node-kind n (d ∷ digits) is = is.digits_only

pub string-kind : (bytes : List ℕ) → has_kind Str (quoted bytes) ≡ true
unfolding has_form
string-kind bytes = ap (has_until Unquoted 34 (has_form End)) (sym (nil (flat_map escaped_byte bytes ++ 34 ∷ []))) ∙ quoted-form (has_form End) bytes [] refl
  where
    nil : (xs : List ℕ) → xs ++ [] ≡ xs
    nil [] = refl
    nil (x ∷ xs) = ap (λ ys. x ∷ ys) (nil xs)

pub bytes-kind : (bytes : List ℕ) → has_kind CStr (99 ∷ quoted bytes) ≡ true
unfolding has_form
bytes-kind bytes = string-kind bytes

pub node-text-kind : (bytes : List ℕ) → has_kind MdStr (33 ∷ quoted bytes) ≡ true
unfolding has_form
node-text-kind bytes = string-kind bytes

-- a text of a name, which stands behind `%` or `@`, or before `:`, 58
pub record IsNameText (spelling : Spelling) (text : List ℕ) : Type 0 where
  pub spells : spelling_of text ≡ spelling
  pub form : has_form named text ≡ true
  pub label : has_kind LabelToken (text ++ 58 ∷ []) ≡ true

digits-until : (digits : List ℕ) → list_all is_ascii_digit digits ≡ true → has_until NameByte 58 (has_form End) (digits ++ 58 ∷ []) ≡ true
unfolding has_form
digits-until [] all = refl
digits-until (d ∷ digits) all =
    let both = and_parts _ _ all in
    cond-false _ _ _ (digit-no-colon d both.0) ∙ and_from _ _ (digit-in-name d both.0) (digits-until digits both.1)

digits-name : (n : ℕ) (digits : List ℕ) → IsDigits n digits → IsNameText (Number n) digits
unfolding has_form
digits-name n [] is = absurd (omega (arith, is.some))
digits-name n (d ∷ digits) is =
    let both = and_parts _ _ is.digits_only in
    record {
      spells = cond-false _ _ _ (digit-no-quote d both.0) ∙ cond-true _ _ _ is.digits_only ∙ ap Number is.value;
      form = or-first _ _ is.digits_only;
      label = or-first _ _ (and_from _ _ (digit-in-name d both.0) (digits-until digits both.1));
    }

start-no-quote : (b : ℕ) → in_class NameStart b ≡ true → eqb b 34 ≡ false
start-no-quote b is = grind (arith, nat_tests)

start-no-digit : (b : ℕ) → in_class NameStart b ≡ true → is_ascii_digit b ≡ false
start-no-digit b is = grind (arith, nat_tests)

start-in-name : (b : ℕ) → in_class NameStart b ≡ true → in_class NameByte b ≡ true
start-in-name b is = grind (arith, nat_tests)

name-no-colon : (b : ℕ) → in_class NameByte b ≡ true → eqb b 58 ≡ false
name-no-colon b is = grind (arith, nat_tests)

names-until : (bytes : List ℕ) → list_all (in_class NameByte) bytes ≡ true → has_until NameByte 58 (has_form End) (bytes ++ 58 ∷ []) ≡ true
unfolding has_form
names-until [] all = refl
names-until (b ∷ bytes) all =
    let both = and_parts _ _ all in
    cond-false _ _ _ (name-no-colon b both.0) ∙ and_from _ _ both.0 (names-until bytes both.1)

plain-name : (bytes : List ℕ) → has_form name bytes ≡ true → IsNameText (Text bytes) bytes
unfolding has_form
plain-name [] is = absurd (false≢true is)
plain-name (b ∷ bytes) is =
    let both = and_parts _ _ is in
    record {
      spells = cond-false _ _ _ (start-no-quote b both.0) ∙ cond-false _ _ _ (ap (λ t. t && list_all is_ascii_digit bytes) (start-no-digit b both.0));
      form = or_right (is_ascii_digit b && list_all is_ascii_digit bytes) _ (or-first _ _ is);
      label = or-first _ _ (and_from _ _ (start-in-name b both.0) (names-until bytes both.1));
    }

quoted-name : (bytes : List ℕ) → IsNameText (Text bytes) (quoted bytes)
unfolding has_form
quoted-name bytes = record {
  spells = ap Text (quotes-read bytes);
  form = string-kind bytes;
  label = quoted-form (has_form (Rattle.ll_tokens.specs.Forms.Byte 58 End)) bytes (58 ∷ []) refl;
}

text-name : (bytes : List ℕ) (is_plain : Bool) → has_form name bytes ≡ is_plain → IsNameText (Text bytes) (if is_plain then bytes else quoted bytes)
text-name bytes true is = plain-name bytes is
text-name bytes false is = quoted-name bytes

pub spelling-name : (spelling : Spelling) → IsInReach spelling → IsNameText spelling (spelling_text spelling)
spelling-name (Number n) small = digits-name n (decimal n) (decimal-digits n (omega (arith, small)))
spelling-name (Text bytes) any = text-name bytes (has_form name bytes) refl

-- a name's number stands in the table, for a name of this kind that can be spelled
pub record IsNamed (names : List NameText) (kind : NameKind) (number : ℕ) : Type 0 where
  pub spelling : Spelling
  pub in_reach : IsInReach spelling
  pub entry : slice_get names number ≡ Some (record { kind = kind; spelling = spelling })

pub is-named : (names : List NameText) (kind : NameKind) (text : List ℕ) (number : ℕ) → Spells names kind text number → IsNamed names kind number
is-named names kind text number spells = record { spelling = spelling_of text; in_reach = spells.0; entry = spells.1 }

pub named-text : (names : List NameText) (kind : NameKind) (number : ℕ) (is : IsNamed names kind number) → IsNameText is.spelling (number_text names number)
named-text names kind number is = subst (λ (o : Option NameText). IsNameText is.spelling (entry_text o)) (sym is.entry) (spelling-name is.spelling is.in_reach)

pub spells-again : (names : List NameText) (kind : NameKind) (number : ℕ) (text : List ℕ) (is : IsNamed names kind number) → IsNameText is.spelling text → Spells names kind text number
spells-again names kind number text is named =
    (subst IsInReach (sym named.spells) is.in_reach, is.entry ∙ ap (λ (s : Spelling). Some (record { kind = kind; spelling = s })) (sym named.spells))
