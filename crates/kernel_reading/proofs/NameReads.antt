-- Names in a text and the tokens that they are read as.
use Rattle.std.proofs.Common.{◌≡◌, ℕ, ◌-◌, ◌^◌, ◌<◌, ◌≤◌, true, IsTrue, List, [], ◌∷◌, ◌++◌, take, length, Some, slice_get, refl, sym, ◌∙◌, ap, subst, arith}
use Rattle.std.proofs.lemmas.List.{length_push, take_at}
use Rattle.ll_tokens.specs.declared.kinds.TokenKind.TheVariants.{Global as GlobalToken, Label as LabelToken, Local as LocalToken}
use Rattle.ll_tokens.specs.Breaks.{begins_with_break}
use Rattle.ll_tokens.specs.Tokens.{has_kind}
use Rattle.ll_tree.specs.declared.name.Name.{Name}
use Rattle.ll_tree.specs.declared.name.NameKind.TheVariants.{Global, Local}
use Rattle.ll_tree.specs.declared.name.NameText.{NameText}
use Rattle.ll_tree.specs.declared.name.Spelling.{Spelling}
use Rattle.ll_tree.specs.declared.name.Spelling.TheVariants.{Number, Text}
use Rattle.ll_parser.specs.Spellings.{IsInReach, Spells, spelling_of}
use Rattle.kernel_tree.specs.Canonical.{number_entry}
use Rattle.kernel_tree.specs.Text.{name_text}
use Rattle.kernel_text.specs.declared.name_sorts.NameSort.TheVariants as sort
use Rattle.kernel_text.specs.NameSorts.{is_kernel_name, is_plain, written_name}
use Rattle.kernel_reading.proofs.DigitFacts.{IsDigits, decimal-digits, digits-plain, digits-spelling, label-kind, local-kind}
use Rattle.kernel_reading.proofs.OwnNames.{plain-spelling}
use Rattle.kernel_reading.proofs.PhraseReads.{Begins, place, token-begins}

-- the name's entry is the number before the name's own
pub record IsNumberName (names : List NameText) (name : Name) : Type 0 where
  pub entry : slice_get names name.number ≡ Some (number_entry (name.number - 1))
  pub small : name.number - 1 < 2 ^ 31

-- the same name at a place
abbrev pub placed : ℕ → Name → Name
placed byte name = record { number = name.number; byte = byte }

wide : (n : ℕ) → n < 2 ^ 31 → n < 2 ^ 64
wide n lt = omega (arith, lt)

pub digits-of : (names : List NameText) (name : Name) → IsNumberName names name → IsDigits (name.number - 1) (name_text name)
digits-of names name is = decimal-digits (name.number - 1) (wide _ is.small)

spells-number : (names : List NameText) (number n : ℕ) (spelling : Spelling) → spelling ≡ Number n → n < 2 ^ 31 → slice_get names number ≡ Some (number_entry n)
    → IsInReach spelling × (slice_get names number ≡ Some (record { kind = Local; spelling = spelling }))
spells-number names number n spelling is small entry =
    (subst IsInReach (sym is) small, entry ∙ ap (λ (s : Spelling). Some (record { kind = Local; spelling = s })) (sym is))

spells : (names : List NameText) (name : Name) → IsNumberName names name → Spells names Local (name_text name) name.number
spells names name is =
    spells-number names name.number (name.number - 1) (spelling_of (name_text name)) (digits-spelling (name.number - 1) (name_text name) (digits-of names name is)) is.small is.entry

-- 37 is `%`
pub local-begins : (total : ℕ) (names : List NameText) (name : Name) (rest : List ℕ) → IsNumberName names name → begins_with_break rest ≡ true → length (37 ∷ (name_text name ++ rest)) ≤ total
    → Begins total (written_name sort.Value names (placed (place total (37 ∷ (name_text name ++ rest))) name)) (37 ∷ (name_text name ++ rest)) rest
local-begins total names name rest is breaks le =
    let digits = digits-of names name is in
    token-begins total LocalToken _ (37 ∷ name_text name) rest (local-kind (name_text name) digits.digits_only digits.some) breaks
    (digits-plain (name.number - 1) (name_text name) digits, refl, spells names name is) le

-- the text of a label less its `:`, 58
without-colon : (digits : List ℕ) → take (length (digits ++ 58 ∷ []) - 1) (digits ++ 58 ∷ []) ≡ digits
without-colon digits = take_at digits (58 ∷ []) (length (digits ++ 58 ∷ []) - 1) (omega (arith, length_push digits 58))

label-spelled : (names : List NameText) (number : ℕ) (digits text : List ℕ) → text ≡ digits → is_plain digits ≡ true → Spells names Local digits number
    → IsTrue (is_plain text) × Spells names Local text number
label-spelled names number digits text same plain spelled =
    (ap is_plain same ∙ plain, subst (λ (t : List ℕ). Spells names Local t number) (sym same) spelled)

pub label-begins : (total : ℕ) (names : List NameText) (name : Name) (rest : List ℕ) → IsNumberName names name → begins_with_break rest ≡ true → length ((name_text name ++ 58 ∷ []) ++ rest) ≤ total
    → Begins total (written_name sort.Label names (placed (place total ((name_text name ++ 58 ∷ []) ++ rest)) name)) ((name_text name ++ 58 ∷ []) ++ rest) rest
label-begins total names name rest is breaks le =
    let digits = digits-of names name is in
    let spelled = label-spelled names name.number (name_text name) _ (without-colon (name_text name)) (digits-plain (name.number - 1) (name_text name) digits) (spells names name is) in
    token-begins total LabelToken _ (name_text name ++ 58 ∷ []) rest (label-kind (name_text name) digits.digits_only digits.some) breaks (spelled.0, refl, spelled.1) le

spells-text : (names : List NameText) (number : ℕ) (bytes : List ℕ) (spelling : Spelling) → spelling ≡ Text bytes → slice_get names number ≡ Some (record { kind = Global; spelling = Text bytes })
    → IsInReach spelling × (slice_get names number ≡ Some (record { kind = Global; spelling = spelling }))
spells-text names number bytes spelling is entry =
    (subst IsInReach (sym is) tt, entry ∙ ap (λ (s : Spelling). Some (record { kind = Global; spelling = s })) (sym is))

-- the kernel's own name; 64 is `@`
pub own-begins : (total : ℕ) (names : List NameText) (name : Name) (bytes rest : List ℕ) → slice_get names name.number ≡ Some (record { kind = Global; spelling = Text bytes })
    → has_kind GlobalToken (64 ∷ bytes) ≡ true → is_kernel_name bytes ≡ true → begins_with_break rest ≡ true → length (64 ∷ (bytes ++ rest)) ≤ total
    → Begins total (written_name sort.Kernel names (placed (place total (64 ∷ (bytes ++ rest))) name)) (64 ∷ (bytes ++ rest)) rest
own-begins total names name bytes rest entry has allowed breaks le =
    token-begins total GlobalToken _ (64 ∷ bytes) rest has breaks
    (allowed, refl, spells-text names name.number bytes (spelling_of bytes) (plain-spelling bytes allowed) entry) le
