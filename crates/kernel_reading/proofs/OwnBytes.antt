-- The bytes of a kernel's own name are ASCII.
use Rattle.std.proofs.Common.{◌≡◌, ℕ, true, not, eqb, ◌&&◌, Option, List, [], ◌∷◌, refl, sym, ap, subst, ⊎_elim}
use Rattle.std.specs.Prelude.{IsUtf8}
use Rattle.std.specs.List.{list_all}
use Rattle.std.proofs.lemmas.Bool.{and_from, and_parts, both_ways, not-true, or_cases}
use Rattle.ll_tokens.specs.declared.bytes.ByteClass.{ByteClass}
use Rattle.ll_tokens.specs.declared.bytes.ByteClass.TheVariants.{Digit, Name, NameStart}
use Rattle.ll_tokens.specs.declared.kinds.TokenKind.TheVariants.{Global as GlobalToken}
use Rattle.ll_tokens.specs.Forms.{End, has_form, in_class}
use Rattle.ll_tokens.specs.Tokens.{digits, has_kind, name, quoted}
use Rattle.ll_tokens.proofs.Ends.{ascii_class, class_is_ascii}
use Rattle.ll_tree.specs.declared.name.NameText.{NameText}
use Rattle.kernel_tree.specs.Numbered.{bytes_of_entry}
use Rattle.kernel_text.specs.NameSorts.{is_kernel_name}
use Rattle.kernel_reading.specs.CanonicalKernels.{IsOwnName}
use Rattle.kernel_reading.proofs.TextBytes.{ascii, is_ascii}

class-ascii : (c : ByteClass) → ascii_class c ≡ true → (bytes : List ℕ) → list_all (in_class c) bytes ≡ true → is_ascii bytes ≡ true
class-ascii c low [] all = refl
class-ascii c low (b ∷ bytes) all =
    let both = and_parts (in_class c b) (list_all (in_class c) bytes) all in
    and_from _ _ (class_is_ascii c b low both.0) (class-ascii c low bytes both.1)

name-ascii : (bytes : List ℕ) → has_kind GlobalToken (64 ∷ bytes) ≡ true → is_kernel_name bytes ≡ true → is_ascii bytes ≡ true
unfolding has_form
name-ascii [] has allowed = refl
name-ascii (b ∷ bytes) has allowed =
    ⊎_elim (λ are. one-ascii Digit Digit refl refl are)
    (λ other. ⊎_elim (λ are. one-ascii NameStart Name refl refl are)
    (λ quote. absurd (both_ways (eqb b 34) (not-true (eqb b 34) (and_parts (not (eqb b 34)) _ allowed).0) (and_parts (eqb b 34) _ quote).0))
    (or_cases (has_form name (b ∷ bytes)) (has_form (quoted End) (b ∷ bytes)) other))
    (or_cases (has_form digits (b ∷ bytes)) _ has)
  where
    one-ascii : (c d : ByteClass) → ascii_class c ≡ true → ascii_class d ≡ true → (in_class c b && list_all (in_class d) bytes) ≡ true → is_ascii (b ∷ bytes) ≡ true
    one-ascii c d low lows are =
        let both = and_parts (in_class c b) (list_all (in_class d) bytes) are in
        and_from _ _ (class_is_ascii c b low both.0) (class-ascii d lows bytes both.1)

pub own-utf8 : (entry : Option NameText) → IsOwnName entry → IsUtf8 (bytes_of_entry entry)
own-utf8 entry own =
    subst IsUtf8 (ap bytes_of_entry (sym own.entry_is)) (ascii own.bytes (name-ascii own.bytes own.is_token own.allowed))
