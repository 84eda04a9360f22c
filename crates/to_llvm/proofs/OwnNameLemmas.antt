-- What a kernel's own name may be, by its bytes.
use Rattle.std.proofs.Common.{◌≡◌, ℕ, Bool, true, false, not, List, [], ◌∷◌, Option, None, Some, nat_eq, refl, sym, ap, subst, arith}
use Rattle.std.specs.Prelude.{◌&&◌, ◌||◌, ◌==◌, codes}
use Rattle.std.specs.Char.{is_ascii_digit}
use Rattle.std.specs.List.{list_all, starts_with}
use Rattle.std.proofs.lemmas.Bool.{false≢true}
use Rattle.std.proofs.lemmas.Bool.Decides.{nat_tests}
use Rattle.ll_tokens.specs.declared.kinds.TokenKind.TheVariants.{Global as GlobalToken}
use Rattle.ll_tokens.specs.Forms.{has_form}
use Rattle.ll_tokens.specs.Tokens.{has_kind}
use Rattle.ll_tree.specs.declared.name.NameKind.{NameKind}
use Rattle.ll_tree.specs.declared.name.NameKind.TheVariants as kind
use Rattle.ll_tree.specs.declared.name.NameText.{NameText}
use Rattle.ll_tree.specs.declared.name.Spelling.{Spelling}
use Rattle.ll_tree.specs.declared.name.Spelling.TheVariants.{Number, Text}
use Rattle.kernel_text.specs.NameSorts.{is_kernel_name}
use Rattle.kernel_reading.specs.CanonicalKernels.{IsOwnName}
use Rattle.to_llvm.specs.OwnNames.{begins_name, continues_name, is_word, is_own_text, is_own_spelling, is_global, is_own_name}

-- the first byte of a word is no digit and no quotation mark
no-digit : (byte : ℕ) → begins_name byte ≡ true → is_ascii_digit byte ≡ false
no-digit byte begins = grind (arith, nat_tests, begins)

no-quote : (byte : ℕ) → begins_name byte ≡ true → (byte == 34) ≡ false
no-quote byte begins = grind (arith, nat_tests, begins)

-- the tests, at free truth values
found-second : (a b c : Bool) → b ≡ true → (a || (b || c)) ≡ true
found-second true b c is = refl
found-second false true c is = refl
found-second false false c is = absurd (false≢true is)

none-stand : (quote digits built_in : Bool) → quote ≡ false → digits ≡ false → not built_in ≡ true → (not quote && (not digits && not built_in)) ≡ true
none-stand true digits built_in no_quote no_digits is = absurd (false≢true (sym no_quote))
none-stand false true built_in no_quote no_digits is = absurd (false≢true (sym no_digits))
none-stand false false built_in no_quote no_digits is = is

only-word : (digits word quote quoted built_in : Bool) → (digits || (word || (quote && quoted))) ≡ true
    → (not quote && (not digits && not built_in)) ≡ true → (word && not built_in) ≡ true
only-word digits word true quoted built_in named allowed = absurd (false≢true allowed)
only-word true word false quoted built_in named allowed = absurd (false≢true allowed)
only-word false true false quoted built_in named allowed = allowed
only-word false false false quoted built_in named allowed = absurd (false≢true named)

left-true : (a b : Bool) → (a && b) ≡ true → a ≡ true
left-true true b is = refl
left-true false b is = is

right-true : (a b : Bool) → (a && b) ≡ true → b ≡ true
right-true true b is = is
right-true false b is = absurd (false≢true is)

-- a text that may be a kernel's own name is a token with `@` before it, and the other way round
own-token : (text : List ℕ) → is_own_text text ≡ true → has_kind GlobalToken (64 ∷ text) ≡ true
unfolding has_form
own-token [] is = absurd (false≢true is)
own-token (byte ∷ bytes) is = found-second _ _ _ (left-true (is_word (byte ∷ bytes)) _ is)

own-allowed : (text : List ℕ) → is_own_text text ≡ true → is_kernel_name text ≡ true
own-allowed [] is = absurd (false≢true is)
own-allowed (byte ∷ bytes) is =
    let begins = left-true (begins_name byte) (list_all continues_name bytes) (left-true (is_word (byte ∷ bytes)) _ is) in
    none-stand (byte == 34) (list_all is_ascii_digit (byte ∷ bytes)) (starts_with nat_eq (byte ∷ bytes) (codes "_Z")) (no-quote byte begins)
    (ap (λ (b : Bool). b && list_all is_ascii_digit bytes) (no-digit byte begins))
    (right-true (is_word (byte ∷ bytes)) _ is)

token-own : (text : List ℕ) → has_kind GlobalToken (64 ∷ text) ≡ true → is_kernel_name text ≡ true → is_own_text text ≡ true
unfolding has_form
token-own [] named allowed = absurd (false≢true named)
token-own (byte ∷ bytes) named allowed =
    only-word (list_all is_ascii_digit (byte ∷ bytes)) (is_word (byte ∷ bytes)) (byte == 34) _ (starts_with nat_eq (byte ∷ bytes) (codes "_Z")) named allowed

pub own-is : (entry : Option NameText) → is_own_name entry ≡ true → IsOwnName entry
own-is None is = absurd (false≢true is)
own-is (Some entry) is = by_parts entry.kind entry.spelling is
  where
    by_parts : (k : NameKind) (s : Spelling) → (is_global k && is_own_spelling s) ≡ true → IsOwnName (Some (record { kind = k; spelling = s }))
    by_parts kind.Global (Text bytes) own = record { bytes = bytes; entry_is = refl; is_token = own-token bytes own; allowed = own-allowed bytes own }
    by_parts kind.Global (Number number) own = absurd (false≢true own)
    by_parts kind.Local s own = absurd (false≢true own)
    by_parts kind.Struct s own = absurd (false≢true own)

pub is-own : (entry : Option NameText) → IsOwnName entry → is_own_name entry ≡ true
is-own entry own = subst (λ (e : Option NameText). is_own_name e ≡ true) (sym own.entry_is) (token-own own.bytes own.is_token own.allowed)
