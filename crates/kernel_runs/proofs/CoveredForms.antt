-- Kernels of the covered subset are typed, and their canonical forms are the same under other names.
use Rattle.std.proofs.Common.{◌≡◌, ℕ, zero, suc, ◌+◌, ◌&&◌, nat_eq, nat_lt, nat_le, Bool, true, false, cond, List, [], ◌∷◌, ◌++◌, Some, None, map, length, slice_get, sym, ◌∙◌, ap, ap₂, refl, eqb, All, Contains, subst, arith, append-nil, unwrap_or, option_map}
use Rattle.std.specs.Prelude.{Option, flat_map}
use Rattle.std.specs.List.{list_all, range_with_len}
use Rattle.std.specs.Option.{option_to_list}
use Rattle.std.specs.Map.{lookup}
use Rattle.std.proofs.lemmas.List.Elements.{All-head, All-tail, All-nil, All-cons, All-append, All-contains, All-contains_itself, All-map, All-weaker}
use Rattle.std.proofs.lemmas.Option.{slice_get-get_or}
use borrow.Author.Tests.{eqb-true, eq-eqb, ne_eqb}
use Rattle.inst_walk.specs.Places.{place_of}
use Rattle.inst_walk.specs.RenamedBody.{IsInjectiveOn}
use Rattle.ll_tree.specs.declared.name.NameText.{NameText}
use Rattle.kernel_tree.specs.declared.kernel.Kernel.{Kernel}
use Rattle.kernel_tree.specs.declared.kernel.KernelInst.{KernelInst}
use Rattle.kernel_tree.specs.declared.kernel.KernelInst.TheVariants.{Add, Load, Store}
use Rattle.kernel_tree.specs.declared.kernel.KernelParam.{KernelParam}
use Rattle.kernel_tree.specs.declared.kernel.ValueType.{ValueType}
use Rattle.kernel_tree.specs.declared.kernel.ValueType.TheVariants.{Int, Pointer}
use Rattle.kernel_tree.specs.declared.names.Definition.{Definition}
use Rattle.kernel_tree.specs.declared.names.Use.{Use}
use Rattle.kernel_tree.specs.Canonical.{canonical, aligned, with_targets, inst_aligned, numbers_defined, param_numbered, inst_numbered, number_entry}
use Rattle.kernel_tree.specs.Covered.{are_distinct, in_sequence, is_covered, uses_fit, use_fits, is_found, has_type, is_type, same_type}
use Rattle.kernel_tree.specs.Names.{defined_by, used_by, definitions, defined_above, uses, int_use, pointer_use, param_definition, block_definition}
use Rattle.kernel_tree.specs.Numbered.{bytes_of_entry, number_defined, definition_count}
use Rattle.kernel_tree.proofs.AlignedNames.{definitions-aligned}
use Rattle.kernel_runs.specs.Canonical.{CoveredHaveTypedForms}
use Rattle.kernel_runs.specs.Images.{IsRenamed, same_number, inst_plain, param_plain}
use Rattle.kernel_runs.specs.Names.{IsTypedUse, value_numbers, inst_numbers, param_number, param_typed, result_typed, typed_values}
use Rattle.kernel_runs.proofs.Binaries.{All-front, All-back}
use Rattle.kernel_runs.proofs.TypedForms.{renamed-typed}

and-left : (a b : Bool) → (a && b) ≡ true → a ≡ true
and-left true b h = refl
and-left false b h = h

and-right : (a b : Bool) → (a && b) ≡ true → b ≡ true
and-right true b h = h
and-right false b h = absurd cc

-- what holds of each of a mapped list
unmapped : {A B : Type 0} (P : B → Type 0) (f : A → B) (xs : List A) → All P (map f xs) → All (λ x. P (f x)) xs
unmapped P f [] h = All-nil (λ x. P (f x))
unmapped P f (x ∷ xs) h = All-cons (λ x. P (f x)) x xs (All-head P (f x) (map f xs) h) (unmapped P f xs (All-tail P (f x) (map f xs) h))

-- a name that is found stands at its place
place-is : (numbers : List ℕ) (n p : ℕ) → place_of nat_eq numbers n ≡ Some p → slice_get numbers p ≡ Some n
place-is [] n p at = absurd cc
place-is (m ∷ numbers) n p at = by_test (eqb m n) refl at (place_of nat_eq numbers n) refl (place-is numbers n)
  where
    by_test : (b : Bool) → eqb m n ≡ b → cond b (Some 0) (option_map suc (place_of nat_eq numbers n)) ≡ Some p
        → (x : Option ℕ) → place_of nat_eq numbers n ≡ x → ((q : ℕ) → place_of nat_eq numbers n ≡ Some q → slice_get numbers q ≡ Some n)
        → slice_get (m ∷ numbers) p ≡ Some n
    by_test true e at x is later =
        let zero_is : p ≡ 0 = sym (ap (λ y. unwrap_or y 0) at) in
        let Get : ℕ → Type 0 = λ q. slice_get (m ∷ numbers) q ≡ Some n in
        subst Get (sym zero_is) (ap Some (eqb-true m n e))
    by_test false e at None is later = let no : None ≡ Some p = sym (ap (option_map suc) is) ∙ at in absurd cc
    by_test false e at (Some q) is later =
        let whole : Some (suc q) ≡ Some p = sym (ap (option_map suc) is) ∙ at in
        let p_is : suc q ≡ p = ap (λ y. unwrap_or y 0) whole in
        let Get : ℕ → Type 0 = λ r. slice_get (m ∷ numbers) r ≡ Some n in
        subst Get p_is (later q is)

-- a name of a list is found
pub record HasPlace (numbers : List ℕ) (n : ℕ) : Type 0 where
  pub place : ℕ
  pub at : place_of nat_eq numbers n ≡ Some place

has-place : (numbers : List ℕ) (n : ℕ) (k : ℕ) → slice_get numbers k ≡ Some n → HasPlace numbers n
has-place [] n k at = absurd cc
has-place (m ∷ numbers) n k at = by_test (eqb m n) refl k at (λ q there. has-place numbers n q there)
  where
    further : HasPlace numbers n → eqb m n ≡ false → HasPlace (m ∷ numbers) n
    further found e = record { place = suc found.place; at = ap (λ b. cond b (Some 0) (option_map suc (place_of nat_eq numbers n))) e ∙ ap (option_map suc) found.at }

    by_test : (b : Bool) → eqb m n ≡ b → (k : ℕ) → slice_get (m ∷ numbers) k ≡ Some n → ((q : ℕ) → slice_get numbers q ≡ Some n → HasPlace numbers n) → HasPlace (m ∷ numbers) n
    by_test true e k at later = record { place = 0; at = ap (λ b. cond b (Some 0) (option_map suc (place_of nat_eq numbers n))) e }
    by_test false e zero at later = let same : m ≡ n = ap (λ y. unwrap_or y 0) at in let no = eq-eqb m n same in absurd cc
    by_test false e (suc q) at later = further (later q at) e

contained-place : (numbers : List ℕ) (n : ℕ) → Contains numbers n → HasPlace numbers n
contained-place numbers n at = has-place numbers n at.0 (slice_get-get_or numbers at.0 n at.1 ∙ ap Some at.2)

-- different names have different places
places-apart : (numbers : List ℕ) (a b : ℕ) → HasPlace numbers a → HasPlace numbers b
    → 1 + unwrap_or (place_of nat_eq numbers a) 0 ≡ 1 + unwrap_or (place_of nat_eq numbers b) 0 → a ≡ b
places-apart numbers a b has_a has_b same =
    let at_a : unwrap_or (place_of nat_eq numbers a) 0 ≡ has_a.place = ap (λ y. unwrap_or y 0) has_a.at in
    let at_b : unwrap_or (place_of nat_eq numbers b) 0 ≡ has_b.place = ap (λ y. unwrap_or y 0) has_b.at in
    let places : has_a.place ≡ has_b.place = omega (arith, same, at_a, at_b) in
    let whole : Some a ≡ Some b = sym (place-is numbers a has_a.place has_a.at) ∙ (ap (slice_get numbers) places ∙ place-is numbers b has_b.place has_b.at) in
    ap (λ y. unwrap_or y a) whole

-- a use finds its definition, which has the type
pub record FitsUse (defined : List Definition) (used : Use) : Type 0 where
  pub place : ℕ
  pub at : place_of nat_eq (map number_defined defined) used.name.number ≡ Some place
  pub typed : has_type used.value_type (slice_get defined place) ≡ true

module _ (defined : List Definition) where
  use-found : (above : ℕ) (used : Use) → use_fits defined above used ≡ true → FitsUse defined used
  use-found above used fits = by_place (place_of nat_eq (map number_defined defined) used.name.number) refl fits
    where
      by_place : (x : Option ℕ) → place_of nat_eq (map number_defined defined) used.name.number ≡ x → is_found defined above used.value_type x ≡ true → FitsUse defined used
      by_place None at found = absurd cc
      by_place (Some place) at found = record { place = place; at = at; typed = and-right (nat_lt place above) (has_type used.value_type (slice_get defined place)) found }

  uses-found : (above : ℕ) (us : List Use) → list_all (use_fits defined above) us ≡ true → All (FitsUse defined) us
  uses-found above [] fits = All-nil (FitsUse defined)
  uses-found above (used ∷ us) fits =
      All-cons (FitsUse defined) used us (use-found above used (and-left (use_fits defined above used) (list_all (use_fits defined above) us) fits))
      (uses-found above us (and-right (use_fits defined above used) (list_all (use_fits defined above) us) fits))

  all-found : (above : ℕ) (insts : List KernelInst) → uses_fit defined above insts ≡ true → All (FitsUse defined) (flat_map used_by insts)
  all-found above [] fits = All-nil (FitsUse defined)
  all-found above (i ∷ insts) fits =
      let here = list_all (use_fits defined above) (used_by i) in
      let later = uses_fit defined (above + length (defined_by i)) insts in
      All-append (FitsUse defined) (used_by i) (flat_map used_by insts) (uses-found above (used_by i) (and-left here later fits))
      (all-found (above + length (defined_by i)) insts (and-right here later fits))

-- the values among definitions, each with its type
with_type : ℕ → Option ValueType → List (ℕ × ValueType) → List (ℕ × ValueType)
with_type n None rest = rest
with_type n (Some t) rest = (n, t) ∷ rest

typed_defs : List Definition → List (ℕ × ValueType)
typed_defs [] = []
typed_defs (d ∷ ds) = with_type d.name.number d.value_type (typed_defs ds)

typed-append : (ds more : List Definition) → typed_defs (ds ++ more) ≡ typed_defs ds ++ typed_defs more
unfolding typed_defs with_type
typed-append [] more = refl
typed-append (d ∷ ds) more = by_type d.value_type (typed-append ds more)
  where
    by_type : (t : Option ValueType) → typed_defs (ds ++ more) ≡ typed_defs ds ++ typed_defs more
        → with_type d.name.number t (typed_defs (ds ++ more)) ≡ with_type d.name.number t (typed_defs ds) ++ typed_defs more
    by_type None later = later
    by_type (Some t) later = ap (λ rest. (d.name.number, t) ∷ rest) later

typed-params : (params : List KernelParam) → typed_defs (map param_definition params) ≡ map param_typed params
unfolding typed_defs with_type
typed-params [] = refl
typed-params (param ∷ params) = ap (λ rest. param_typed param ∷ rest) (typed-params params)

typed-results : (insts : List KernelInst) → typed_defs (flat_map defined_by insts) ≡ flat_map result_typed insts
unfolding typed_defs with_type
typed-results [] = refl
typed-results (Add sum left right ∷ insts) = ap (λ rest. (sum.number, Int) ∷ rest) (typed-results insts)
typed-results (Load loaded pointer is_aligned ∷ insts) = ap (λ rest. (loaded.number, Int) ∷ rest) (typed-results insts)
typed-results (Store value pointer is_aligned ∷ insts) = typed-results insts

block-untyped : (kernel : Kernel) → typed_defs (block_definition kernel.block ∷ []) ≡ []
unfolding typed_defs with_type
block-untyped kernel = refl

values-are : (kernel : Kernel) → typed_defs (definitions kernel) ≡ typed_values kernel
values-are kernel =
    typed-append (defined_above kernel) (flat_map defined_by kernel.insts)
    ∙ ap₂ (λ xs ys. xs ++ ys)
    (typed-append (map param_definition kernel.params) (block_definition kernel.block ∷ [])
    ∙ (ap₂ (λ xs ys. xs ++ ys) (typed-params kernel.params) (block-untyped kernel) ∙ append-nil (map param_typed kernel.params)))
    (typed-results kernel.insts)

same-is : (t u : ValueType) → same_type t u ≡ true → u ≡ t
same-is Int Int same = refl
same-is Int Pointer same = absurd cc
same-is Pointer Int same = absurd cc
same-is Pointer Pointer same = refl

-- the definition at the first place of a name gives the type of the first value of this name
type-found : (ds : List Definition) (n p : ℕ) (t : ValueType) → place_of nat_eq (map number_defined ds) n ≡ Some p → has_type t (slice_get ds p) ≡ true
    → lookup (nat_eq n) (typed_defs ds) ≡ Some t
unfolding typed_defs with_type
type-found [] n p t at typed = absurd cc
type-found (d ∷ ds) n p t at typed =
    by_test (eqb d.name.number n) refl at p typed refl (place_of nat_eq (map number_defined ds) n) refl (λ q there fits. type-found ds n q t there fits) d.value_type refl
  where
    numbers : List ℕ
    numbers = map number_defined ds

    by_test : (b : Bool) → eqb d.name.number n ≡ b → cond b (Some 0) (option_map suc (place_of nat_eq (map number_defined ds) n)) ≡ Some p
        → (r : ℕ) → has_type t (slice_get (d ∷ ds) r) ≡ true → p ≡ r
        → (x : Option ℕ) → place_of nat_eq (map number_defined ds) n ≡ x
        → ((q : ℕ) → place_of nat_eq (map number_defined ds) n ≡ Some q → has_type t (slice_get ds q) ≡ true → lookup (nat_eq n) (typed_defs ds) ≡ Some t)
        → (u : Option ValueType) → d.value_type ≡ u
        → lookup (nat_eq n) (with_type d.name.number u (typed_defs ds)) ≡ Some t
    by_test true e at zero typed r_is x is later None u_is = let no : is_type t None ≡ true = ap (is_type t) (sym u_is) ∙ typed in absurd cc
    by_test true e at zero typed r_is x is later (Some u) u_is =
        let fits : same_type t u ≡ true = ap (is_type t) (sym u_is) ∙ typed in
        ap (λ b. cond b (Some u) (lookup (nat_eq n) (typed_defs ds))) (eq-eqb n d.name.number (sym (eqb-true d.name.number n e))) ∙ ap Some (same-is t u fits)
    by_test true e at (suc r) typed r_is x is later u u_is = let p_is : 0 ≡ p = ap (λ y. unwrap_or y 0) at in absurd (omega (arith, p_is, r_is))
    by_test false e at r typed r_is None is later u u_is = let no : None ≡ Some p = sym (ap (option_map suc) is) ∙ at in absurd cc
    by_test false e at zero typed r_is (Some q) is later u u_is =
        let p_is : suc q ≡ p = ap (λ y. unwrap_or y 0) (sym (ap (option_map suc) is) ∙ at) in absurd (omega (arith, p_is, r_is))
    by_test false e at (suc r) typed r_is (Some q) is later u u_is =
        let p_is : suc q ≡ p = ap (λ y. unwrap_or y 0) (sym (ap (option_map suc) is) ∙ at) in
        let q_is : r ≡ q = omega (arith, p_is, r_is) in
        let Fits : ℕ → Type 0 = λ x. has_type t (slice_get ds x) ≡ true in
        rest u (later q is (subst Fits q_is typed))
      where
        apart : eqb n d.name.number ≡ false
        apart = ne_eqb n d.name.number (λ h. let no : true ≡ false = sym (eq-eqb d.name.number n (sym h)) ∙ e in absurd cc)

        rest : (u : Option ValueType) → lookup (nat_eq n) (typed_defs ds) ≡ Some t → lookup (nat_eq n) (with_type d.name.number u (typed_defs ds)) ≡ Some t
        rest None found = found
        rest (Some u) found = ap (λ b. cond b (Some u) (lookup (nat_eq n) (typed_defs ds))) apart ∙ found

fits-typed : (kernel : Kernel) (us : List Use) → All (FitsUse (definitions kernel)) us → All (IsTypedUse kernel) us
fits-typed kernel [] h = All-nil (IsTypedUse kernel)
fits-typed kernel (used ∷ us) h =
    let F = FitsUse (definitions kernel) in
    let fits = All-head F used us h in
    All-cons (IsTypedUse kernel) used us
    (ap (lookup (nat_eq used.name.number)) (sym (values-are kernel)) ∙ type-found (definitions kernel) used.name.number fits.place used.value_type fits.at fits.typed)
    (fits-typed kernel us (All-tail F used us h))

-- each name that a kernel's instructions hold has a place
insts-placed : (numbers : List ℕ) (defined : List Definition) → numbers ≡ map number_defined defined → (insts : List KernelInst)
    → All (λ d. HasPlace numbers (number_defined d)) (flat_map defined_by insts) → All (FitsUse defined) (flat_map used_by insts) → All (HasPlace numbers) (flat_map inst_numbers insts)
insts-placed numbers defined are [] defs fits = All-nil (HasPlace numbers)
insts-placed numbers defined are (i ∷ insts) defs fits =
    let D : Definition → Type 0 = λ d. HasPlace numbers (number_defined d) in
    All-append (HasPlace numbers) (inst_numbers i) (flat_map inst_numbers insts)
    (inst-placed i (All-front D (defined_by i) (flat_map defined_by insts) defs) (All-front (FitsUse defined) (used_by i) (flat_map used_by insts) fits))
    (insts-placed numbers defined are insts (All-back D (defined_by i) (flat_map defined_by insts) defs) (All-back (FitsUse defined) (used_by i) (flat_map used_by insts) fits))
  where
    use-place : (used : Use) → FitsUse defined used → HasPlace numbers used.name.number
    use-place used fits = record { place = fits.place; at = ap (λ ns. place_of nat_eq ns used.name.number) are ∙ fits.at }

    inst-placed : (i : KernelInst) → All (λ d. HasPlace numbers (number_defined d)) (defined_by i) → All (FitsUse defined) (used_by i) → All (HasPlace numbers) (inst_numbers i)
    inst-placed (Add sum left right) defs fits =
        let D : Definition → Type 0 = λ d. HasPlace numbers (number_defined d) in
        let P = HasPlace numbers in
        let later = All-tail (FitsUse defined) (int_use left) (int_use right ∷ []) fits in
        All-cons P sum.number (left.number ∷ right.number ∷ []) (All-head D (record { name = sum; value_type = Some Int }) [] defs)
        (All-cons P left.number (right.number ∷ []) (use-place (int_use left) (All-head (FitsUse defined) (int_use left) (int_use right ∷ []) fits))
        (All-cons P right.number [] (use-place (int_use right) (All-head (FitsUse defined) (int_use right) [] later)) (All-nil P)))
    inst-placed (Load loaded pointer is_aligned) defs fits =
        let D : Definition → Type 0 = λ d. HasPlace numbers (number_defined d) in
        let P = HasPlace numbers in
        All-cons P loaded.number (pointer.number ∷ []) (All-head D (record { name = loaded; value_type = Some Int }) [] defs)
        (All-cons P pointer.number [] (use-place (pointer_use pointer) (All-head (FitsUse defined) (pointer_use pointer) [] fits)) (All-nil P))
    inst-placed (Store value pointer is_aligned) defs fits =
        let P = HasPlace numbers in
        let later = All-tail (FitsUse defined) (int_use value) (pointer_use pointer ∷ []) fits in
        All-cons P value.number (pointer.number ∷ []) (use-place (int_use value) (All-head (FitsUse defined) (int_use value) (pointer_use pointer ∷ []) fits))
        (All-cons P pointer.number [] (use-place (pointer_use pointer) (All-head (FitsUse defined) (pointer_use pointer) [] later)) (All-nil P))

-- each name of a value has a place among the definitions
names-placed : (kernel : Kernel) → All (FitsUse (definitions kernel)) (uses kernel) → All (HasPlace (numbers_defined kernel)) (value_numbers kernel)
names-placed kernel fits =
    let numbers = numbers_defined kernel in
    let P = HasPlace numbers in
    let D : Definition → Type 0 = λ d. P (number_defined d) in
    let placed : All P numbers = All-weaker (Contains numbers) P (contained-place numbers) numbers (All-contains_itself numbers) in
    let all : All D (definitions kernel) = unmapped P number_defined (definitions kernel) placed in
    let above = All-front D (defined_above kernel) (flat_map defined_by kernel.insts) all in
    let params = unmapped D param_definition kernel.params (All-front D (map param_definition kernel.params) (block_definition kernel.block ∷ []) above) in
    All-append P (map param_number kernel.params) (flat_map inst_numbers kernel.insts) (All-map P param_number kernel.params params)
    (insts-placed numbers (definitions kernel) refl kernel.insts (All-back D (defined_above kernel) (flat_map defined_by kernel.insts) all) fits)

-- the number of a name in the canonical form
abbrev pub form_number : Kernel → ℕ → ℕ
form_number kernel n = 1 + unwrap_or (place_of nat_eq (numbers_defined (aligned (with_targets kernel))) n) 0

form-injective : (kernel : Kernel) → All (FitsUse (definitions kernel)) (uses kernel) → IsInjectiveOn (form_number kernel) (value_numbers kernel)
form-injective kernel fits a b at_a at_b same =
    let numbers = numbers_defined kernel in
    let P = HasPlace numbers in
    let placed = names-placed kernel fits in
    let are : numbers_defined (aligned (with_targets kernel)) ≡ numbers = ap (map number_defined) (definitions-aligned kernel) in
    let number : List ℕ → ℕ → ℕ = λ ns n. 1 + unwrap_or (place_of nat_eq ns n) 0 in
    let both : number numbers a ≡ number numbers b = ap (λ ns. number ns a) (sym are) ∙ (same ∙ ap (λ ns. number ns b) are) in
    places-apart numbers a b (All-contains P (value_numbers kernel) a placed at_a) (All-contains P (value_numbers kernel) b placed at_b) both

form-params : (numbers : List ℕ) (f : ℕ → ℕ) → ((n : ℕ) → f n ≡ 1 + unwrap_or (place_of nat_eq numbers n) 0) → (params : List KernelParam)
    → map (param_plain same_number) (map (param_numbered numbers) params) ≡ map (param_plain (λ n. 1 + unwrap_or (place_of nat_eq numbers n) 0)) params
form-params numbers f is [] = refl
form-params numbers f is (param ∷ params) =
    ap (λ more. param_plain (λ n. 1 + unwrap_or (place_of nat_eq numbers n) 0) param ∷ more) (form-params numbers f is params)

form-insts : (numbers : List ℕ) (insts : List KernelInst)
    → map (inst_plain same_number) (map (inst_numbered numbers) (map inst_aligned insts)) ≡ map (inst_plain (λ n. 1 + unwrap_or (place_of nat_eq numbers n) 0)) insts
form-insts numbers [] = refl
form-insts numbers (Add sum left right ∷ insts) =
    ap (λ more. inst_plain (λ n. 1 + unwrap_or (place_of nat_eq numbers n) 0) (Add sum left right) ∷ more) (form-insts numbers insts)
form-insts numbers (Load loaded pointer is_aligned ∷ insts) =
    ap (λ more. inst_plain (λ n. 1 + unwrap_or (place_of nat_eq numbers n) 0) (Load loaded pointer is_aligned) ∷ more) (form-insts numbers insts)
form-insts numbers (Store value pointer is_aligned ∷ insts) =
    ap (λ more. inst_plain (λ n. 1 + unwrap_or (place_of nat_eq numbers n) 0) (Store value pointer is_aligned) ∷ more) (form-insts numbers insts)

-- the kernel's own name is the first entry of the form's table
form-name : (entry : Option NameText) (count : ℕ) → bytes_of_entry (slice_get (option_to_list entry ++ map number_entry (range_with_len 0 count)) 0) ≡ bytes_of_entry entry
form-name None zero = refl
form-name None (suc count) = refl
form-name (Some entry) count = refl

form-renamed : (kernel : Kernel) → All (FitsUse (definitions kernel)) (uses kernel) → IsRenamed kernel (form_number kernel) (canonical kernel)
form-renamed kernel fits = record {
  injective = form-injective kernel fits;
  name = form-name (slice_get kernel.names kernel.name.number) (definition_count (aligned (with_targets kernel)));
  params = form-params (numbers_defined (aligned (with_targets kernel))) (form_number kernel) (λ n. refl) kernel.params;
  insts = form-insts (numbers_defined (aligned (with_targets kernel))) kernel.insts;
}

covered-fits : (kernel : Kernel) → is_covered kernel ≡ true → All (FitsUse (definitions kernel)) (uses kernel)
covered-fits kernel covered =
    let short = nat_le (length kernel.params) 255 in
    let distinct = are_distinct (numbers_defined kernel) in
    let sequence = in_sequence kernel.names 0 (numbers_defined kernel) in
    let fit = uses_fit (definitions kernel) (length kernel.params + 1) kernel.insts in
    all-found (definitions kernel) (length kernel.params + 1) kernel.insts
    (and-right sequence fit (and-right distinct (sequence && fit) (and-right short (distinct && (sequence && fit)) covered)))

pub covered-forms : CoveredHaveTypedForms
covered-forms kernel covered =
    let fits = covered-fits kernel covered in
    let typed = fits-typed kernel (uses kernel) fits in
    let renamed = form-renamed kernel fits in
    record { typed = typed; number_of = form_number kernel; renamed = renamed; form_typed = renamed-typed kernel (canonical kernel) (form_number kernel) renamed typed }
