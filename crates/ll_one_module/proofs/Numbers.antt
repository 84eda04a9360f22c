-- Numbers of names in two tables.
use Rattle.std.proofs.Common.{◌≡◌, ℕ, zero, suc, ◌+◌, Bool, true, false, true≢false, if◌then◌else◌, List, [], ◌∷◌, Option, None, Some, slice_get, refl, sym, ap, ◌∙◌, add-one}
use Rattle.std.specs.Cmp.Lexicographic.{bytes_decides}
use Rattle.ll_tree.specs.declared.name.NameText.{NameText}
use Rattle.ll_parser.specs.NameCodes.{is_same_name, name_code, same_names_are_one}
use Rattle.ll_parser.specs.Tables.{NoNameTwice}
use Rattle.ll_one_module.specs.Numbers.{place_of, place_of_some}
use Rattle.ll_one_module.proofs.NamesFound.{Numbering}

same_as_itself : (entry : NameText) → is_same_name entry entry ≡ true
same_as_itself entry = (bytes_decides (name_code entry) (name_code entry)).1 refl

abbrev known : NameText → Option NameText → NameText
known other None = other
known other (Some entry) = entry

stands-at : (first : NameText) (names : List NameText) (number : ℕ) (entry : NameText) → slice_get (first ∷ names) number ≡ Some entry → ((n : ℕ) → slice_get names n ≡ Some entry → slice_get names (place_of names entry) ≡ Some entry)
    → (b : Bool) → is_same_name first entry ≡ b → slice_get (first ∷ names) (if is_same_name first entry then 0 else place_of names entry + 1) ≡ Some entry
stands-at first names number entry e later true same = ap (λ b. slice_get (first ∷ names) (if b then 0 else place_of names entry + 1)) same ∙ ap (λ x. Some x) (same_names_are_one first entry same)
stands-at first names zero entry e later false same = absurd (true≢false (sym (same_as_itself entry) ∙ ap (λ x. is_same_name x entry) (ap (known first) (sym e)) ∙ same))
stands-at first names (suc number) entry e later false same =
    ap (λ b. slice_get (first ∷ names) (if b then 0 else place_of names entry + 1)) same ∙ ap (slice_get (first ∷ names)) (add-one (place_of names entry)) ∙ later number e

-- an entry stands at its place
pub stands : (names : List NameText) (number : ℕ) (entry : NameText) → slice_get names number ≡ Some entry → slice_get names (place_of names entry) ≡ Some entry
unfolding place_of
stands [] number entry e = e
stands (first ∷ names) number entry e = stands-at first names number entry e (λ n. stands names n entry) (is_same_name first entry) refl

-- the first table's names by the places that they have in the second
abbrev pub first_table : List NameText → List NameText → Numbering
first_table a b = record {
  names = a;
  renumber = λ number. place_of_some b (slice_get a number);
  look = place_of b;
  found = λ number entry e. ap (place_of_some b) e;
}

-- the second table's names as they are
abbrev pub second_table : (b : List NameText) → NoNameTwice b → Numbering
second_table b once = record {
  names = b;
  renumber = λ number. number;
  look = place_of b;
  found = λ number entry e. once number (place_of b entry) entry e (stands b number entry e);
}
