-- The digits of a number as the text of tokens.
use Rattle.std.proofs.Common.{◌≡◌, ℕ, ◌+◌, ◌-◌, ◌*◌, ◌/◌, ◌%◌, ◌^◌, ◌<◌, ◌≤◌, Bool, true, false, not, ◌||◌, eqb, List, [], ◌∷◌, ◌++◌, length, refl, ◌∙◌, ap, arith}
use Rattle.std.specs.Prelude.{decimal}
use Rattle.std.specs.List.{list_all}
use Rattle.std.specs.Char.{is_ascii_digit}
use Rattle.std.proofs.lemmas.Bool.{and_parts, and_from, cond-true, cond-false}
use Rattle.std.proofs.lemmas.Bool.Decides.{nat_tests}
use Rattle.std.proofs.lemmas.Fmt.{decimal_by_steps}
use Rattle.std.proofs.lemmas.List.{length_push}
use Rattle.ll_tokens.specs.declared.bytes.ByteClass.TheVariants.{Name}
use Rattle.ll_tokens.specs.declared.kinds.TokenKind.TheVariants.{Label, Local}
use Rattle.ll_tokens.specs.Forms.{End, has_form, has_until, in_class}
use Rattle.ll_tokens.specs.Tokens.{has_kind}
use Rattle.ll_tree.specs.declared.name.Spelling.TheVariants.{Number}
use Rattle.ll_parser.specs.Spellings.{decimal_from, decimal_value, spelling_of}
use Rattle.ll_parser.proofs.Decimals.{decimal_push}
use Rattle.kernel_text.specs.NameSorts.{is_plain}

-- digits of a number
pub record IsDigits (n : ℕ) (digits : List ℕ) : Type 0 where
  pub digits_only : list_all is_ascii_digit digits ≡ true
  pub value : decimal_value digits ≡ n
  pub some : 0 < length digits

is-digit : (n : ℕ) → n < 10 → is_ascii_digit (48 + n) ≡ true
is-digit n lt = grind (arith, nat_tests)

of-one : (n : ℕ) → 0 + ((48 + n) - 48) ≡ n
of-one n = omega arith

one-digit : (n : ℕ) → n < 10 → IsDigits n ((48 + n) ∷ [])
one-digit n lt = record { digits_only = and_from _ true (is-digit n lt) refl; value = of-one n; some = omega arith }

all-and-one : (digits : List ℕ) (digit : ℕ) → list_all is_ascii_digit digits ≡ true → is_ascii_digit digit ≡ true → list_all is_ascii_digit (digits ++ digit ∷ []) ≡ true
all-and-one [] digit all is = and_from _ true is refl
all-and-one (d ∷ digits) digit all is = let both = and_parts _ _ all in and_from _ _ both.0 (all-and-one digits digit both.1 is)

put-together : (n front : ℕ) → front ≡ n / 10 → 10 * front + ((48 + n % 10) - 48) ≡ n
put-together n front is = omega (arith, is)

more-digits : (n : ℕ) (digits : List ℕ) → 10 ≤ n → IsDigits (n / 10) digits → IsDigits n (digits ++ ((48 + n % 10) ∷ []))
more-digits n digits le front = record {
  digits_only = all-and-one digits (48 + n % 10) front.digits_only (is-digit (n % 10) (omega arith));
  value = decimal_push 0 digits (48 + n % 10) ∙ put-together n (decimal_from 0 digits) front.value;
  some = omega (arith, length_push digits (48 + n % 10));
}

pub decimal-digits : (n : ℕ) → n < 2 ^ 64 → IsDigits n (decimal n)
decimal-digits = decimal_by_steps (λ n digits. IsDigits n digits) one-digit more-digits

or-first : (a b : Bool) → a ≡ true → (a || b) ≡ true
or-first a b is = ap (λ (c : Bool). c || b) is

digit-in-name : (d : ℕ) → is_ascii_digit d ≡ true → in_class Name d ≡ true
digit-in-name d is = grind (arith, nat_tests)

digit-no-colon : (d : ℕ) → is_ascii_digit d ≡ true → eqb d 58 ≡ false
digit-no-colon d is = grind (arith, nat_tests)

digit-no-quote : (d : ℕ) → is_ascii_digit d ≡ true → eqb d 34 ≡ false
digit-no-quote d is = grind (arith, nat_tests)

-- digits behind a `%`, 37
pub local-kind : (digits : List ℕ) → list_all is_ascii_digit digits ≡ true → 0 < length digits → has_kind Local (37 ∷ digits) ≡ true
unfolding has_form
local-kind [] all some = absurd (omega (arith, some))
local-kind (d ∷ digits) all some = or-first _ _ all

digits-until : (digits : List ℕ) → list_all is_ascii_digit digits ≡ true → has_until Name 58 (has_form End) (digits ++ 58 ∷ []) ≡ true
unfolding has_form
digits-until [] all = refl
digits-until (d ∷ digits) all =
    let both = and_parts _ _ all in
    cond-false _ _ _ (digit-no-colon d both.0) ∙ and_from _ _ (digit-in-name d both.0) (digits-until digits both.1)

-- digits before a `:`, 58
pub label-kind : (digits : List ℕ) → list_all is_ascii_digit digits ≡ true → 0 < length digits → has_kind Label (digits ++ 58 ∷ []) ≡ true
unfolding has_form
label-kind [] all some = absurd (omega (arith, some))
label-kind (d ∷ digits) all some =
    let both = and_parts _ _ all in
    or-first _ _ (and_from _ _ (digit-in-name d both.0) (digits-until digits both.1))

-- digits spell their number
pub digits-spelling : (n : ℕ) (digits : List ℕ) → IsDigits n digits → spelling_of digits ≡ Number n
digits-spelling n [] is = absurd (omega (arith, is.some))
digits-spelling n (d ∷ digits) is =
    cond-false _ _ _ (digit-no-quote d (and_parts _ _ is.digits_only).0) ∙ cond-true _ _ _ is.digits_only ∙ ap Number is.value

-- and stand without quotes
pub digits-plain : (n : ℕ) (digits : List ℕ) → IsDigits n digits → is_plain digits ≡ true
digits-plain n [] is = refl
digits-plain n (d ∷ digits) is = ap not (digit-no-quote d (and_parts _ _ is.digits_only).0)
