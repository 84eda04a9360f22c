-- The canonical form of a kernel of the covered subset is a canonical kernel.
use Rattle.std.proofs.Common.{◌≡◌, ℕ, suc, zero, ◌+◌, ◌<◌, ◌≤◌, Bool, true, false, not, ◌&&◌, cond, nat_eq, nat_lt, nat_le, List, [], ◌∷◌, ◌++◌, Option, None, Some, map, flat_map, length, slice_get, refl, sym, ◌∙◌, ap, ap₂, subst, arith, unwrap_or}
use Rattle.std.proofs.lemmas.Bool.{and_parts, and_from}
use Rattle.std.proofs.lemmas.Bool.Decides.{nat_tests}
use Rattle.std.proofs.lemmas.List.{length-map}
use Rattle.std.specs.Prelude.{is_some, find}
use Rattle.std.specs.List.{range_with_len}
use Rattle.std.specs.Option.{option_map, option_to_list}
use Rattle.inst_walk.specs.Places.{place_of}
use Rattle.ll_tree.specs.declared.name.NameText.{NameText}
use Rattle.ll_tree.specs.declared.name.NameKind.TheVariants.{Global}
use Rattle.ll_tree.specs.declared.name.Spelling.TheVariants.{Text}
use Rattle.kernel_tree.specs.declared.kernel.Kernel.{Kernel}
use Rattle.kernel_tree.specs.declared.kernel.KernelInst.{KernelInst}
use Rattle.kernel_tree.specs.declared.kernel.KernelInst.TheVariants.{Add, Load, Store}
use Rattle.kernel_tree.specs.declared.kernel.ValueType.{ValueType}
use Rattle.kernel_tree.specs.declared.kernel.ValueType.TheVariants.{Int, Pointer}
use Rattle.kernel_tree.specs.declared.names.Definition.{Definition}
use Rattle.kernel_tree.specs.declared.names.Use.{Use}
use Rattle.kernel_tree.specs.Canonical.{aligned, canonical, inst_aligned, inst_numbered, number_entry, numbered_name, numbers_defined, param_numbered, with_targets}
use Rattle.kernel_tree.specs.Covered.{all_first, are_distinct, first_undefined, has_type, in_sequence, is_at, is_covered, is_found, is_next, is_undefined, next_behind, number_of_entry, used_byte, uses_fit}
use Rattle.kernel_tree.specs.Names.{definitions, int_use, pointer_use, used_by, uses}
use Rattle.kernel_tree.specs.Numbered.{definition_count, number_defined}
use Rattle.kernel_tree.proofs.AlignedNames.{definitions-aligned}
use Rattle.ll_canon.proofs.NumberedForms.{covered-distinct, definition_numbered, definitions-numbered, number-below, number_by, numbered-is, some-defined}
use Rattle.kernel_reading.specs.CanonicalKernels.{IsCanonicalKernel, IsOwnName}

-- a search by a test that holds at once, and by one that doesn't
found-here : (test : Bool) (rest : Option ℕ) → test ≡ true → cond test (Some 0) rest ≡ Some 0
found-here true rest is = refl
found-here false rest is = absurd cc

found-behind : (test : Bool) (rest : Option ℕ) (p : ℕ) → test ≡ false → rest ≡ Some p → cond test (Some 0) (option_map suc rest) ≡ Some (suc p)
found-behind true rest p is found = absurd cc
found-behind false rest p is found = ap (option_map suc) found

is-itself : (n : ℕ) → nat_eq n n ≡ true
is-itself n = grind (arith, nat_tests)

is-here : (n : ℕ) → nat_eq n (n + 0) ≡ true
is-here n = grind (arith, nat_tests)

is-further : (n p : ℕ) → nat_eq n (n + suc p) ≡ false
is-further n p = grind (arith, nat_tests)

one-further : (n p : ℕ) → n + suc p ≡ (n + 1) + p
one-further n p = omega arith

-- where a number stands among numbers that count up
pub counted-place : (start n p : ℕ) → p < n → place_of nat_eq (range_with_len start n) (start + p) ≡ Some p
counted-place start zero p lt = absurd (omega (arith, lt))
counted-place start (suc n) zero lt = found-here (nat_eq start (start + 0)) _ (is-here start)
counted-place start (suc n) (suc p) lt =
    found-behind (nat_eq start (start + suc p)) (place_of nat_eq (range_with_len (start + 1) n) (start + suc p)) p (is-further start p)
    (ap (λ (x : ℕ). place_of nat_eq (range_with_len (start + 1) n) x) (one-further start p) ∙ counted-place (start + 1) n p (omega (arith, lt)))

up-one : (at : ℕ) → (1 + at) + 1 ≡ 1 + (at + 1)
up-one at = omega arith

-- numbers that count up each stand for the first time
counted-first : (n at m : ℕ) → at + m ≤ n → all_first (range_with_len 1 n) at (range_with_len (1 + at) m) ≡ true
counted-first n at zero le = refl
counted-first n at (suc m) le =
    and_from _ _ (ap (is_at at) (counted-place 1 n at (omega (arith, le))) ∙ is-itself at)
    (ap (λ (a : ℕ). all_first (range_with_len 1 n) (at + 1) (range_with_len a m)) (up-one at) ∙ counted-first n (at + 1) m (omega (arith, le)))

-- the entry of a number in a table of numbers
nothing-more : (a : ℕ) → a ≡ a + 0
nothing-more a = omega arith

pub counted-entry : (start n p : ℕ) → p < n → slice_get (map number_entry (range_with_len start n)) p ≡ Some (number_entry (start + p))
counted-entry start zero p lt = absurd (omega (arith, lt))
counted-entry start (suc n) zero lt = ap (λ (x : ℕ). Some (number_entry x)) (nothing-more start)
counted-entry start (suc n) (suc p) lt =
    counted-entry (start + 1) n p (omega (arith, lt)) ∙ ap (λ (x : ℕ). Some (number_entry x)) (sym (one-further start p))

is-suc : (n : ℕ) → 1 + n ≡ suc n
is-suc n = omega arith

from-zero : (n : ℕ) → 0 + n ≡ n
from-zero n = omega arith

abbrev pub table_of : NameText → ℕ → List NameText
table_of own n = own ∷ map number_entry (range_with_len 0 n)

-- the entry behind the kernel's own
pub table-entry : (own : NameText) (n p : ℕ) → p < n → slice_get (table_of own n) (1 + p) ≡ Some (number_entry p)
table-entry own n p lt =
    ap (λ (i : ℕ). slice_get (table_of own n) i) (is-suc p) ∙ counted-entry 0 n p lt ∙ ap (λ (x : ℕ). Some (number_entry x)) (from-zero p)

-- the numbers of such a table count up
counted-sequence : (own : NameText) (n next m : ℕ) → next + m ≤ n → in_sequence (table_of own n) next (range_with_len (1 + next) m) ≡ true
counted-sequence own n next zero le = refl
counted-sequence own n next (suc m) le =
    let rest = range_with_len ((1 + next) + 1) m in
    ap (λ (o : Option NameText). is_next next (number_of_entry o) && in_sequence (table_of own n) (next_behind next (number_of_entry o)) rest) (table-entry own n next (omega (arith, le)))
    ∙ and_from _ _ (is-itself next) (ap (λ (a : ℕ). in_sequence (table_of own n) (next + 1) (range_with_len a m)) (up-one next) ∙ counted-sequence own n (next + 1) m (omega (arith, le)))

-- numbers change no type
types-numbered : (ns : List ℕ) (wanted : ValueType) (ds : List Definition) (p : ℕ) → has_type wanted (slice_get (map (definition_numbered ns) ds) p) ≡ has_type wanted (slice_get ds p)
types-numbered ns wanted [] p = refl
types-numbered ns wanted (d ∷ ds) zero = refl
types-numbered ns wanted (d ∷ ds) (suc p) = types-numbered ns wanted ds p

passed-over : (test : Bool) (used : Use) (rest : Option Use) → test ≡ false → rest ≡ None → cond test (Some used) rest ≡ None
passed-over true used rest is none = absurd cc
passed-over false used rest is none = none

-- definitions whose numbers count up in their numbered form
module _ (ds : List Definition) (some : 0 < length (map number_defined ds)) (counts : map number_defined (map (definition_numbered (map number_defined ds)) ds) ≡ range_with_len 1 (length (map number_defined ds))) where
  abbrev ns : List ℕ
  ns = map number_defined ds

  abbrev es : List Definition
  es = map (definition_numbered ns) ds

  number-placed : (x : ℕ) → place_of nat_eq (map number_defined es) (number_by ns x) ≡ Some (unwrap_or (place_of nat_eq ns x) 0)
  number-placed x =
      let below : 1 + unwrap_or (place_of nat_eq ns x) 0 < length ns + 1 = number-below ns x (place_of nat_eq ns x) refl some in
      ap (λ (xs : List ℕ). place_of nat_eq xs (number_by ns x)) counts ∙ counted-place 1 (length ns) (unwrap_or (place_of nat_eq ns x) 0) (omega (arith, below))

  found-numbered : (above : ℕ) (wanted : ValueType) (x : ℕ) (place : Option ℕ) → place_of nat_eq ns x ≡ place → is_found ds above wanted place ≡ true
      → is_found es above wanted (place_of nat_eq (map number_defined es) (number_by ns x)) ≡ true
  found-numbered above wanted x None is found = absurd cc
  found-numbered above wanted x (Some p) is found =
      ap (is_found es above wanted) (number-placed x ∙ ap (λ (o : Option ℕ). Some (unwrap_or o 0)) is)
      ∙ ap (λ (b : Bool). nat_lt p above && b) (types-numbered ns wanted ds p) ∙ found

  use-found : (above : ℕ) (wanted : ValueType) (x : ℕ) → is_found ds above wanted (place_of nat_eq ns x) ≡ true
      → is_found es above wanted (place_of nat_eq (map number_defined es) (number_by ns x)) ≡ true
  use-found above wanted x found = found-numbered above wanted x (place_of nat_eq ns x) refl found

  abbrev form : List KernelInst → List KernelInst
  form insts = map (inst_numbered ns) (map inst_aligned insts)

  fits-numbered : (above : ℕ) (insts : List KernelInst) → uses_fit ds above insts ≡ true → uses_fit es above (form insts) ≡ true
  fits-numbered above [] fits = refl
  fits-numbered above (Add sum left right ∷ insts) fits =
      let both = and_parts _ _ fits in
      let two = and_parts _ _ both.0 in
      and_from _ _ (and_from _ _ (use-found above Int left.number two.0) (and_from _ _ (use-found above Int right.number (and_parts _ _ two.1).0) refl)) (fits-numbered (above + 1) insts both.1)
  fits-numbered above (Load loaded pointer is_aligned ∷ insts) fits =
      let both = and_parts _ _ fits in
      and_from _ _ (and_from _ _ (use-found above Pointer pointer.number (and_parts _ _ both.0).0) refl) (fits-numbered (above + 1) insts both.1)
  fits-numbered above (Store value pointer is_aligned ∷ insts) fits =
      let both = and_parts _ _ fits in
      let two = and_parts _ _ both.0 in
      and_from _ _ (and_from _ _ (use-found above Int value.number two.0) (and_from _ _ (use-found above Pointer pointer.number (and_parts _ _ two.1).0) refl)) (fits-numbered (above + 0) insts both.1)

  is-defined : (x : ℕ) → not (is_some (place_of nat_eq (map number_defined es) (number_by ns x))) ≡ false
  is-defined x = ap (λ (o : Option ℕ). not (is_some o)) (number-placed x)

  all-defined : (insts : List KernelInst) → find (is_undefined (map number_defined es)) (flat_map used_by (form insts)) ≡ None
  all-defined [] = refl
  all-defined (Add sum left right ∷ insts) =
      passed-over _ (int_use (numbered_name ns left)) _ (is-defined left.number) (passed-over _ (int_use (numbered_name ns right)) _ (is-defined right.number) (all-defined insts))
  all-defined (Load loaded pointer is_aligned ∷ insts) =
      passed-over _ (pointer_use (numbered_name ns pointer)) _ (is-defined pointer.number) (all-defined insts)
  all-defined (Store value pointer is_aligned ∷ insts) =
      passed-over _ (int_use (numbered_name ns value)) _ (is-defined value.number) (passed-over _ (pointer_use (numbered_name ns pointer)) _ (is-defined pointer.number) (all-defined insts))

some-entry : (entry : Option NameText) (behind : List NameText) (own : NameText) → entry ≡ Some own → option_to_list entry ++ behind ≡ own ∷ behind
some-entry entry behind own is = ap (λ (o : Option NameText). option_to_list o ++ behind) is

module _ (source : Kernel) (covered : is_covered source ≡ true) (own : IsOwnName (slice_get source.names source.name.number)) where
  abbrev plain : Kernel
  plain = aligned (with_targets source)

  distinct : are_distinct (numbers_defined plain) ≡ true
  distinct = subst (λ (ds : List Definition). are_distinct (map number_defined ds) ≡ true) (sym (definitions-aligned source)) (covered-distinct source covered)

  pub counted : length (numbers_defined plain) ≡ definition_count plain
  counted = length-map (definitions plain) number_defined

  pub count : definition_count (canonical source) ≡ length (numbers_defined plain)
  count = ap length (definitions-numbered plain) ∙ length-map (definitions plain) (definition_numbered (numbers_defined plain)) ∙ sym counted

  pub some : 0 < length (numbers_defined plain)
  some = subst (λ n. 0 < n) (sym counted) (some-defined plain)

  numbers : numbers_defined (canonical source) ≡ range_with_len 1 (length (numbers_defined plain))
  numbers = (numbered-is plain distinct).defined ∙ ap (λ (n : ℕ). range_with_len 1 n) count

  counts : map number_defined (map (definition_numbered (numbers_defined plain)) (definitions plain)) ≡ range_with_len 1 (length (numbers_defined plain))
  counts = ap (map number_defined) (sym (definitions-numbered plain)) ∙ numbers

  abbrev pub entry : NameText
  entry = record { kind = Global; spelling = Text own.bytes }

  pub names-are : (canonical source).names ≡ table_of entry (length (numbers_defined plain))
  names-are = some-entry (slice_get source.names source.name.number) _ entry own.entry_is ∙ ap (table_of entry) (sym counted)

  first-in : (n : ℕ) → numbers_defined (canonical source) ≡ range_with_len 1 n → are_distinct (numbers_defined (canonical source)) ≡ true
  first-in n is = ap are_distinct is ∙ are-counted (range_with_len 1 n) n refl
    where
      are-counted : (xs : List ℕ) (n : ℕ) → xs ≡ range_with_len 1 n → are_distinct xs ≡ true
      are-counted xs n is = ap are_distinct is ∙ counted-first n 0 n (omega arith)

  in-order : in_sequence (canonical source).names 0 (numbers_defined (canonical source)) ≡ true
  in-order =
      ap₂ (λ (table : List NameText) (xs : List ℕ). in_sequence table 0 xs) names-are numbers
      ∙ counted-sequence entry (length (numbers_defined plain)) 0 (length (numbers_defined plain)) (omega arith)

  fits : uses_fit (definitions plain) (length source.params + 1) source.insts ≡ true
  fits =
      subst (λ (ds : List Definition). uses_fit ds (length source.params + 1) source.insts ≡ true) (sym (definitions-aligned source))
      (and_parts (in_sequence source.names 0 (numbers_defined source)) _ (and_parts (are_distinct (numbers_defined source)) _ (and_parts (nat_le (length source.params) 255) _ covered).1).1).1

  few : nat_le (length (canonical source).params) 255 ≡ true
  few = ap (λ (n : ℕ). nat_le n 255) (length-map source.params (param_numbered (numbers_defined plain))) ∙ (and_parts (nat_le (length source.params) 255) _ covered).0

  form-fits : uses_fit (definitions (canonical source)) (length (canonical source).params + 1) (canonical source).insts ≡ true
  form-fits =
      ap₂ (λ (ds : List Definition) (n : ℕ). uses_fit ds (n + 1) (canonical source).insts) (definitions-numbered plain) (length-map source.params (param_numbered (numbers_defined plain)))
      ∙ fits-numbered (definitions plain) some counts (length source.params + 1) source.insts fits

  form-covered : is_covered (canonical source) ≡ true
  form-covered = and_from _ _ few (and_from _ _ (first-in (length (numbers_defined plain)) numbers) (and_from _ _ in-order form-fits))

  form-defined : first_undefined (canonical source) ≡ None
  form-defined =
      ap (option_map used_byte)
      (ap (λ (ns : List ℕ). find (is_undefined ns) (uses (canonical source))) (ap (map number_defined) (definitions-numbered plain))
      ∙ all-defined (definitions plain) some counts source.insts)

  pub canonical-kernel : canonical (canonical source) ≡ canonical source → IsCanonicalKernel (canonical source)
  canonical-kernel again = record {
    defined = form-defined;
    covered = form-covered;
    its_own = again;
    own_name = record {
      bytes = own.bytes;
      entry_is = ap (λ (table : List NameText). slice_get table 0) names-are;
      is_token = own.is_token;
      allowed = own.allowed;
    };
  }
