-- Tables of names that grow.
use Rattle.std.proofs.Common.{◌≡◌, ℕ, zero, suc, ◌<◌, ◌⊎◌, true, true≢false, if◌then◌else◌, nat_eq, List, [], ◌∷◌, ◌++◌, slice_get, get_or, drop, Some, refl, sym, ap, ◌∙◌, subst, inl, inr, arith, append_assoc}
use Rattle.std.specs.List.{IsDistinct, list_any}
use Rattle.indexmap.specs.IndexSet.{insert_key}
use Rattle.std.specs.Ordering.{on}
use Rattle.std.specs.Cmp.Lexicographic.{pointwise, bytes_decides}
use Rattle.std.proofs.lemmas.Map.Keys.{apart_from_distinct, any_passes_from_place}
use Rattle.std.proofs.lemmas.Option.{slice_get_within, get_or_from_slice_get}
use Rattle.ll_tokens.specs.declared.kinds.TokenKind.{TokenKind}
use Rattle.ll_tokens.specs.Tokens.{Lexeme}
use Rattle.ll_tree.specs.declared.name.NameKind.{NameKind}
use Rattle.ll_tree.specs.declared.name.NameText.{NameText}
use Rattle.ll_tree.specs.declared.name.Spelling.{Spelling}
use Rattle.ll_parser.specs.NameCodes.{name_code, is_same_name, same_names_are_one}
use Rattle.ll_parser.specs.NameReading.{SpellsWith, ReadsWith, signed_name}
use Rattle.ll_parser.specs.Spellings.{IsInReach, Spells, spelling_of}
use Rattle.ll_parser.specs.Tables.{Extends, NoNameTwice}

pub extends_same : (names : List NameText) → Extends names names
extends_same names = ([], nil_behind names)
  where
    nil_behind : (xs : List NameText) → xs ≡ xs ++ []
    nil_behind [] = refl
    nil_behind (x ∷ xs) = ap (λ ys. x ∷ ys) (nil_behind xs)

pub extends_then : (a b c : List NameText) → Extends a b → Extends b c → Extends a c
extends_then a b c (more, is) (others, is') =
    (more ++ others, is' ∙ ap (λ names. names ++ others) is ∙ append_assoc a more others)

-- an entry keeps its place behind which others come
get_before : (names more : List NameText) (i : ℕ) (entry : NameText) → slice_get names i ≡ Some entry → slice_get (names ++ more) i ≡ Some entry
get_before [] more i entry e = absurd cc
get_before (n ∷ names) more zero entry e = e
get_before (n ∷ names) more (suc i) entry e = get_before names more i entry e

pub entry_stays : (names longer : List NameText) (i : ℕ) (entry : NameText) → Extends names longer → slice_get names i ≡ Some entry → slice_get longer i ≡ Some entry
entry_stays names longer i entry (more, is) e = subst (λ ns. slice_get ns i ≡ Some entry) (sym is) (get_before names more i entry e)

pub extends_at_number : (old new : List NameText) (name : NameText) → (new ≡ old) ⊎ (new ≡ old ++ name ∷ []) → Extends old new
extends_at_number old new name (inl same) = subst (Extends old) (sym same) (extends_same old)
extends_at_number old new name (inr grown) = (name ∷ [], grown)

-- a number that a table gives to the spelling of a text
pub spelled : (old new : List NameText) (kind : NameKind) (text : List ℕ) (number : ℕ) (spelling : Spelling) → spelling ≡ spelling_of text → IsInReach (spelling_of text) → slice_get new number ≡ Some (record { kind = kind; spelling = spelling }) → (new ≡ old) ⊎ (new ≡ old ++ record { kind = kind; spelling = spelling } ∷ []) → SpellsWith old new kind text number
spelled old new kind text number spelling is reach entry kept = record {
  extends = extends_at_number old new _ kept;
  spells = λ longer extends. (reach, entry_stays new longer number _ extends (entry ∙ ap (λ (s : Spelling). Some (record { kind = kind; spelling = s })) is));
}

-- a name behind the sign of the first token
pub signed_read : (kind : TokenKind) (name_kind : NameKind) (old new : List NameText) (tokens rest : List Lexeme) (first : Lexeme) (text : List ℕ) (number : ℕ) → tokens ≡ first ∷ rest → first.kind ≡ kind → text ≡ drop 1 first.text → SpellsWith old new name_kind text number → ReadsWith (signed_name kind name_kind) old new (record { number = number; byte = first.byte }) tokens rest
signed_read kind name_kind old new tokens rest first text number is kind_is text_is spelling = record {
  extends = spelling.extends;
  reads = λ longer extends. (first, is, kind_is, (refl, subst (λ t. Spells longer name_kind t number) text_is (spelling.spells longer extends)));
}

equal_from : (i j : ℕ) → (i < j → ⊥) → (j < i → ⊥) → i ≡ j
equal_from zero zero a b = refl
equal_from zero (suc j) a b = absurd (a (omega arith))
equal_from (suc i) zero a b = absurd (b (omega arith))
equal_from (suc i) (suc j) a b = ap suc (equal_from i j (λ lt. a (omega (arith, lt))) (λ lt. b (omega (arith, lt))))

same_as_itself : (entry : NameText) → is_same_name entry entry ≡ true
same_as_itself entry = (bytes_decides (name_code entry) (name_code entry)).1 refl

not_below : (names : List NameText) (i j : ℕ) (entry : NameText) → IsDistinct (on name_code (pointwise nat_eq)) names → slice_get names i ≡ Some entry → slice_get names j ≡ Some entry → i < j → ⊥
not_below names i j entry distinct at_i at_j lt =
    let apart = apart_from_distinct (on name_code (pointwise nat_eq)) names i j entry distinct lt (slice_get_within names j entry at_j) in
    let first = get_or_from_slice_get names i entry entry at_i in
    let second = get_or_from_slice_get names j entry entry at_j in
    true≢false (sym (same_as_itself entry) ∙ ap (λ (n : NameText). is_same_name n entry) (sym first) ∙ ap (λ (n : NameText). is_same_name (get_or names i entry) n) (sym second) ∙ apart)

-- names that a set tells apart are there once
pub once : (names : List NameText) → IsDistinct (on name_code (pointwise nat_eq)) names → NoNameTwice names
once names distinct i j entry at_i at_j = equal_from i j (not_below names i j entry distinct at_i at_j) (not_below names j i entry distinct at_j at_i)

-- a name that the table has keeps its number
pub found_again : (old new : List NameText) (name : NameText) (number i : ℕ) → new ≡ insert_key (on name_code (pointwise nat_eq)) old name → IsDistinct (on name_code (pointwise nat_eq)) new → (k : NameText) → slice_get new number ≡ Some k → is_same_name name k ≡ true → slice_get old i ≡ Some name → (number ≡ i) × (new ≡ old)
found_again old new name number i is distinct k entry same_name at =
    let there : list_any (on name_code (pointwise nat_eq) name) old ≡ true = any_passes_from_place (on name_code (pointwise nat_eq) name) old i name at (same_as_itself name) in
    let same : new ≡ old = is ∙ ap (λ b. if b then old else old ++ name ∷ []) there in
    (once new distinct number i name (entry ∙ ap (λ (n : NameText). Some n) (sym (same_names_are_one name k same_name))) (subst (λ ns. slice_get ns i ≡ Some name) (sym same) at), same)
