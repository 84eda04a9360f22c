-- Names and types of a kernel as they are written in its module.
use Rattle.std.proofs.Common.{◌≡◌, ℕ, ◌+◌, ◌/◌, ◌%◌, ◌^◌, ◌<◌, ◌≤◌, Bool, true, false, eqb, List, [], ◌∷◌, ◌++◌, Option, Some, slice_get, refl, sym, ◌∙◌, ap, ap₂, arith, ⊎_elim}
use Rattle.std.specs.Prelude.{codes, decimal, if◌then◌else◌}
use Rattle.std.proofs.lemmas.Bool.{and_parts, both_ways, false≢true, lt-ltb, not-true, or_cases}
use Rattle.std.proofs.lemmas.Fmt.{decimal_digit, decimal_step}
use Rattle.ll_tokens.specs.declared.kinds.TokenKind.TheVariants.{Global as GlobalToken}
use Rattle.ll_tokens.specs.Forms.{End, has_form}
use Rattle.ll_tokens.specs.Tokens.{digits, has_kind, name, quoted}
use Rattle.ll_tree.specs.declared.name.Name.{Name}
use Rattle.ll_tree.specs.declared.name.NameText.{NameText}
use Rattle.kernel_tree.specs.declared.kernel.ValueType.{ValueType}
use Rattle.kernel_tree.specs.declared.kernel.ValueType.TheVariants.{Int, Pointer}
use Rattle.kernel_tree.specs.Canonical.{number_entry}
use Rattle.kernel_tree.specs.Modules.{align_where, type_of, value_of}
use Rattle.kernel_tree.specs.Numbered.{bytes_of_entry}
use Rattle.kernel_tree.specs.Text.{align_text, name_text, type_text}
use Rattle.kernel_text.specs.NameSorts.{is_kernel_name}
use Rattle.kernel_reading.specs.CanonicalKernels.{IsOwnName}
use Rattle.kernel_reading.proofs.NameReads.{IsNumberName}
use Rattle.ll_phrases.specs.Phrases.{Empty, Mark, ◌&◌, blank, if_some}
use Rattle.ll_phrases.specs.Texts.{entry_text, local_phrase, number_text, quoted as between_quotes}
use Rattle.ll_phrases.specs.TypePhrases.{type_phrase}
use Rattle.ll_phrases.specs.ValuePhrases.{typed_phrase}
use Rattle.ll_printed.specs.OpPhrases.{align_phrase}
use Rattle.ll_printed.specs.FunctionPhrases.{can_be_written, param_name_phrase, value_name_phrase}
use Rattle.kernel_phrases.proofs.TextsBefore.{before}

two-digits : (n : ℕ) → 10 ≤ n → n < 100 → decimal n ≡ (48 + n / 10) ∷ (48 + n % 10) ∷ []
two-digits n le lt =
    decimal_step n le (omega (arith, lt)) ∙ ap (λ (ds : List ℕ). ds ++ ((48 + n % 10) ∷ [])) (decimal_digit (n / 10) (omega (arith, lt)))

thirty-two : decimal 32 ≡ codes "32"
thirty-two = two-digits 32 (omega arith) (omega arith)

four : decimal 4 ≡ codes "4"
four = decimal_digit 4 (omega arith)

one : decimal 1 ≡ codes "1"
one = decimal_digit 1 (omega arith)

-- a number of a name below 2^31 is written
pub numbers-written : (entry : Option NameText) (n : ℕ) → entry ≡ Some (number_entry n) → n < 2 ^ 31 → can_be_written entry ≡ true
numbers-written entry n is small = ap can_be_written is ∙ lt-ltb n (2 ^ 31) small

-- the kernel's own name stands without quotes
unquoted : (bytes : List ℕ) → has_kind GlobalToken (64 ∷ bytes) ≡ true → is_kernel_name bytes ≡ true → has_form name bytes ≡ true
unfolding has_form
unquoted [] is allowed = absurd (false≢true is)
unquoted (b ∷ bytes) is allowed =
    ⊎_elim (λ are. absurd (both_ways _ (not-true _ (and_parts _ _ (and_parts _ _ allowed).1).0) are))
    (λ other. ⊎_elim (λ named. named)
    (λ quote. absurd (both_ways (eqb b 34) (not-true (eqb b 34) (and_parts _ _ allowed).0) (and_parts (eqb b 34) _ quote).0))
    (or_cases (has_form name (b ∷ bytes)) (has_form (quoted End) (b ∷ bytes)) other))
    (or_cases (has_form digits (b ∷ bytes)) _ is)

pub own-text : (entry : Option NameText) → IsOwnName entry → entry_text entry ≡ bytes_of_entry entry
own-text entry own =
    ap entry_text own.entry_is
    ∙ (ap (λ (plain : Bool). if plain then own.bytes else between_quotes own.bytes) (unquoted own.bytes own.is_token own.allowed)
    ∙ sym (ap bytes_of_entry own.entry_is))

module _ (names : List NameText) where
  pub number-text : (n : Name) → IsNumberName names n → number_text names n.number ≡ name_text n
  number-text n is = ap entry_text is.entry

  -- 37 is `%`
  pub local-text : (n : Name) (rest : List ℕ) → IsNumberName names n → before (local_phrase names n) rest ≡ 37 ∷ (name_text n ++ rest)
  local-text n rest is = ap (λ (t : List ℕ). 37 ∷ (t ++ rest)) (number-text n is)

  pub value-name-text : (n : Name) (rest : List ℕ) → IsNumberName names n → before (value_name_phrase names n) rest ≡ 37 ∷ (name_text n ++ (codes " = " ++ rest))
  value-name-text n rest is =
      ap (λ (test : Bool). before (if test then local_phrase names n & blank & Mark 61 & blank else Empty) rest)
      (numbers-written (slice_get names n.number) _ is.entry is.small)
      ∙ local-text n (codes " = " ++ rest) is

  pub param-name-text : (n : Name) (rest : List ℕ) → IsNumberName names n → before (param_name_phrase names n) rest ≡ codes " %" ++ (name_text n ++ rest)
  param-name-text n rest is =
      ap (λ (test : Bool). before (if test then blank & local_phrase names n else Empty) rest)
      (numbers-written (slice_get names n.number) _ is.entry is.small)
      ∙ ap (λ (t : List ℕ). 32 ∷ t) (local-text n rest is)

  pub type-text : (value_type : ValueType) (rest : List ℕ) → before (type_phrase names (type_of value_type)) rest ≡ type_text value_type ++ rest
  type-text Int rest = ap (λ (bits : List ℕ). 105 ∷ (bits ++ rest)) thirty-two
  type-text Pointer rest =
      ap₂ (λ (bits space : List ℕ). 105 ∷ (bits ++ (codes " addrspace(" ++ (space ++ (codes ")*" ++ rest))))) thirty-two one

  pub typed-text : (value_type : ValueType) (n : Name) (rest : List ℕ) → IsNumberName names n
      → before (typed_phrase names (value_of value_type n)) rest ≡ type_text value_type ++ (codes " %" ++ (name_text n ++ rest))
  typed-text value_type n rest is =
      type-text value_type _ ∙ ap (λ (t : List ℕ). type_text value_type ++ (32 ∷ t)) (local-text n rest is)

pub align-text : (is_aligned : Bool) (rest : List ℕ) → before (if_some align_phrase (align_where is_aligned)) rest ≡ align_text is_aligned ++ rest
align-text true rest = ap (λ (bytes : List ℕ). codes ", align " ++ (bytes ++ rest)) four
align-text false rest = refl
