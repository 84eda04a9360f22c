-- Other names change no type.
use Rattle.std.proofs.Common.{◌≡◌, ℕ, nat_eq, cond, List, [], ◌∷◌, ◌++◌, Some, map, sym, ◌∙◌, ap, ap₂, refl, eqb, All, Contains, subst, arith}
use Rattle.std.specs.Prelude.{flat_map}
use Rattle.std.specs.Map.{lookup}
use Rattle.std.proofs.lemmas.List.{map-append}
use Rattle.std.proofs.lemmas.List.Elements.{All-head, All-tail, All-nil, All-cons, All-append, Contains-append_left, Contains-append_right}
use Rattle.kernel_tree.specs.declared.kernel.Kernel.{Kernel}
use Rattle.kernel_tree.specs.declared.kernel.KernelInst.{KernelInst}
use Rattle.kernel_tree.specs.declared.kernel.KernelInst.TheVariants.{Add, Load, Store}
use Rattle.kernel_tree.specs.declared.kernel.KernelParam.{KernelParam}
use Rattle.kernel_tree.specs.declared.kernel.ValueType.{ValueType}
use Rattle.kernel_tree.specs.declared.kernel.ValueType.TheVariants.{Int}
use Rattle.kernel_tree.specs.declared.names.Use.{Use}
use Rattle.kernel_tree.specs.Names.{used_by, int_use, pointer_use}
use Rattle.kernel_runs.specs.Images.{IsRenamed, same_number, inst_plain, param_plain}
use Rattle.kernel_runs.specs.Names.{IsTyped, IsTypedUse, value_numbers, inst_numbers, param_number, param_typed, result_typed, typed_values}
use Rattle.kernel_runs.specs.Canonical.{RenamedAreTyped}
use Rattle.kernel_runs.proofs.Plays.{same-eqb, first-of}
use Rattle.kernel_runs.proofs.Starts.{map-map}

-- a value under another name
abbrev typed_renamed : (ℕ → ℕ) → ℕ × ValueType → ℕ × ValueType
typed_renamed f value = (f value.0, value.1)

results-plain : (f : ℕ → ℕ) (insts : List KernelInst) → flat_map result_typed (map (inst_plain f) insts) ≡ map (typed_renamed f) (flat_map result_typed insts)
results-plain f [] = refl
results-plain f (Add sum left right ∷ insts) = ap (λ more. (f sum.number, Int) ∷ more) (results-plain f insts)
results-plain f (Load loaded pointer is_aligned ∷ insts) = ap (λ more. (f loaded.number, Int) ∷ more) (results-plain f insts)
results-plain f (Store value pointer is_aligned ∷ insts) = results-plain f insts

results-same : (insts : List KernelInst) → flat_map result_typed insts ≡ flat_map result_typed (map (inst_plain same_number) insts)
results-same [] = refl
results-same (Add sum left right ∷ insts) = ap (λ more. (sum.number, Int) ∷ more) (results-same insts)
results-same (Load loaded pointer is_aligned ∷ insts) = ap (λ more. (loaded.number, Int) ∷ more) (results-same insts)
results-same (Store value pointer is_aligned ∷ insts) = results-same insts

-- the values of a renamed kernel
values-renamed : (kernel renamed : Kernel) (f : ℕ → ℕ) → IsRenamed kernel f renamed → typed_values renamed ≡ map (typed_renamed f) (typed_values kernel)
values-renamed kernel renamed f is =
    let params : map param_typed renamed.params ≡ map (typed_renamed f) (map param_typed kernel.params) =
    sym (map-map param_typed (param_plain same_number) renamed.params)
    ∙ (ap (map param_typed) is.params ∙ (map-map param_typed (param_plain f) kernel.params ∙ sym (map-map (typed_renamed f) param_typed kernel.params))) in
    let results : flat_map result_typed renamed.insts ≡ map (typed_renamed f) (flat_map result_typed kernel.insts) =
    results-same renamed.insts ∙ (ap (flat_map result_typed) is.insts ∙ results-plain f kernel.insts) in
    ap₂ (λ xs ys. xs ++ ys) params results ∙ sym (map-append (typed_renamed f) (map param_typed kernel.params) (flat_map result_typed kernel.insts))

-- a value is found under its other name
lookup-renamed : (f : ℕ → ℕ) (n : ℕ) (values : List (ℕ × ValueType)) → All (λ (v : ℕ × ValueType). eqb (f n) (f v.0) ≡ eqb n v.0) values
    → lookup (nat_eq (f n)) (map (typed_renamed f) values) ≡ lookup (nat_eq n) values
lookup-renamed f n [] apart = refl
lookup-renamed f n (v ∷ values) apart =
    let Apart : ℕ × ValueType → Type 0 = λ v. eqb (f n) (f v.0) ≡ eqb n v.0 in
    ap₂ (λ b rest. cond b (Some v.1) rest) (All-head Apart v values apart) (lookup-renamed f n values (All-tail Apart v values apart))

module _ (P : ℕ → Type 0) where
  -- what holds of each name holds of each value that is defined
  params-hold : (params : List KernelParam) → ((n : ℕ) → Contains (map param_number params) n → P n) → All (λ (v : ℕ × ValueType). P v.0) (map param_typed params)
  params-hold [] h = All-nil (λ (v : ℕ × ValueType). P v.0)
  params-hold (param ∷ params) h =
      All-cons (λ (v : ℕ × ValueType). P v.0) (param_typed param) (map param_typed params) (h param.name.number (first-of param.name.number (map param_number params)))
      (params-hold params (λ n at. h n (Contains-append_right (param.name.number ∷ []) (map param_number params) n at)))

  results-hold : (insts : List KernelInst) → ((n : ℕ) → Contains (flat_map inst_numbers insts) n → P n) → All (λ (v : ℕ × ValueType). P v.0) (flat_map result_typed insts)
  results-hold [] h = All-nil (λ (v : ℕ × ValueType). P v.0)
  results-hold (Add sum left right ∷ insts) h =
      All-cons (λ (v : ℕ × ValueType). P v.0) (sum.number, Int) (flat_map result_typed insts) (h sum.number (0, omega arith, refl))
      (results-hold insts (λ n at. h n (Contains-append_right (inst_numbers (Add sum left right)) (flat_map inst_numbers insts) n at)))
  results-hold (Load loaded pointer is_aligned ∷ insts) h =
      All-cons (λ (v : ℕ × ValueType). P v.0) (loaded.number, Int) (flat_map result_typed insts) (h loaded.number (0, omega arith, refl))
      (results-hold insts (λ n at. h n (Contains-append_right (inst_numbers (Load loaded pointer is_aligned)) (flat_map inst_numbers insts) n at)))
  results-hold (Store value pointer is_aligned ∷ insts) h =
      results-hold insts (λ n at. h n (Contains-append_right (inst_numbers (Store value pointer is_aligned)) (flat_map inst_numbers insts) n at))

  values-hold : (kernel : Kernel) → ((n : ℕ) → Contains (value_numbers kernel) n → P n) → All (λ (v : ℕ × ValueType). P v.0) (typed_values kernel)
  values-hold kernel h =
      All-append (λ (v : ℕ × ValueType). P v.0) (map param_typed kernel.params) (flat_map result_typed kernel.insts)
      (params-hold kernel.params (λ n at. h n (Contains-append_left (map param_number kernel.params) (flat_map inst_numbers kernel.insts) n at)))
      (results-hold kernel.insts (λ n at. h n (Contains-append_right (map param_number kernel.params) (flat_map inst_numbers kernel.insts) n at)))

-- a name and a type, as a use asks for them
module _ (P : ℕ → ValueType → Type 0) where
  abbrev Holds : Use → Type 0
  Holds used = P used.name.number used.value_type

  -- of uses only the numbers and the types matter
  uses-same : (insts : List KernelInst) → All Holds (flat_map used_by (map (inst_plain same_number) insts)) → All Holds (flat_map used_by insts)
  uses-same [] h = All-nil Holds
  uses-same (Add sum left right ∷ insts) h =
      let rest = flat_map used_by (map (inst_plain same_number) insts) in
      let l : Use = record { name = record { number = left.number; byte = 0 }; value_type = Int } in
      let r : Use = record { name = record { number = right.number; byte = 0 }; value_type = Int } in
      All-cons Holds (int_use left) (int_use right ∷ flat_map used_by insts) (All-head Holds l (r ∷ rest) h)
      (All-cons Holds (int_use right) (flat_map used_by insts) (All-head Holds r rest (All-tail Holds l (r ∷ rest) h)) (uses-same insts (All-tail Holds r rest (All-tail Holds l (r ∷ rest) h))))
  uses-same (Load loaded pointer is_aligned ∷ insts) h =
      let rest = flat_map used_by (map (inst_plain same_number) insts) in
      let p = pointer_use (record { number = pointer.number; byte = 0 }) in
      All-cons Holds (pointer_use pointer) (flat_map used_by insts) (All-head Holds p rest h) (uses-same insts (All-tail Holds p rest h))
  uses-same (Store value pointer is_aligned ∷ insts) h =
      let rest = flat_map used_by (map (inst_plain same_number) insts) in
      let v = int_use (record { number = value.number; byte = 0 }) in
      let p = pointer_use (record { number = pointer.number; byte = 0 }) in
      All-cons Holds (int_use value) (pointer_use pointer ∷ flat_map used_by insts) (All-head Holds v (p ∷ rest) h)
      (All-cons Holds (pointer_use pointer) (flat_map used_by insts) (All-head Holds p rest (All-tail Holds v (p ∷ rest) h)) (uses-same insts (All-tail Holds p rest (All-tail Holds v (p ∷ rest) h))))

  -- and of renamed ones the numbers that they get
  uses-renamed : (f : ℕ → ℕ) (insts : List KernelInst) → All (λ used. P (f used.name.number) used.value_type) (flat_map used_by insts)
      → All Holds (flat_map used_by (map (inst_plain f) insts))
  uses-renamed f [] h = All-nil Holds
  uses-renamed f (Add sum left right ∷ insts) h =
      let Q : Use → Type 0 = λ used. P (f used.name.number) used.value_type in
      let rest = flat_map used_by insts in
      let more = flat_map used_by (map (inst_plain f) insts) in
      let l = int_use (record { number = f left.number; byte = 0 }) in
      let r = int_use (record { number = f right.number; byte = 0 }) in
      All-cons Holds l (r ∷ more) (All-head Q (int_use left) (int_use right ∷ rest) h)
      (All-cons Holds r more (All-head Q (int_use right) rest (All-tail Q (int_use left) (int_use right ∷ rest) h))
      (uses-renamed f insts (All-tail Q (int_use right) rest (All-tail Q (int_use left) (int_use right ∷ rest) h))))
  uses-renamed f (Load loaded pointer is_aligned ∷ insts) h =
      let Q : Use → Type 0 = λ used. P (f used.name.number) used.value_type in
      let rest = flat_map used_by insts in
      All-cons Holds (pointer_use (record { number = f pointer.number; byte = 0 })) (flat_map used_by (map (inst_plain f) insts)) (All-head Q (pointer_use pointer) rest h)
      (uses-renamed f insts (All-tail Q (pointer_use pointer) rest h))
  uses-renamed f (Store value pointer is_aligned ∷ insts) h =
      let Q : Use → Type 0 = λ used. P (f used.name.number) used.value_type in
      let rest = flat_map used_by insts in
      let more = flat_map used_by (map (inst_plain f) insts) in
      let v = int_use (record { number = f value.number; byte = 0 }) in
      let p = pointer_use (record { number = f pointer.number; byte = 0 }) in
      All-cons Holds v (p ∷ more) (All-head Q (int_use value) (pointer_use pointer ∷ rest) h)
      (All-cons Holds p more (All-head Q (pointer_use pointer) rest (All-tail Q (int_use value) (pointer_use pointer ∷ rest) h))
      (uses-renamed f insts (All-tail Q (pointer_use pointer) rest (All-tail Q (int_use value) (pointer_use pointer ∷ rest) h))))

-- the uses of some instructions are names of theirs
module _ (kernel renamed : Kernel) (f : ℕ → ℕ) (is : IsRenamed kernel f renamed) where
  abbrev Asks : ℕ → ValueType → Type 0
  Asks n t = lookup (nat_eq n) (typed_values renamed) ≡ Some t

  use-renamed : (n : ℕ) (t : ValueType) → Contains (value_numbers kernel) n → lookup (nat_eq n) (typed_values kernel) ≡ Some t → Asks (f n) t
  use-renamed n t at found =
      ap (lookup (nat_eq (f n))) (values-renamed kernel renamed f is)
      ∙ (lookup-renamed f n (typed_values kernel)
      (values-hold (λ x. eqb (f n) (f x) ≡ eqb n x) kernel (λ x at_x. same-eqb f (value_numbers kernel) is.injective n x at at_x))
      ∙ found)

  uses-found : (insts : List KernelInst) → ((n : ℕ) → Contains (flat_map inst_numbers insts) n → Contains (value_numbers kernel) n)
      → All (IsTypedUse kernel) (flat_map used_by insts) → All (λ used. Asks (f used.name.number) used.value_type) (flat_map used_by insts)
  uses-found [] named h = All-nil (λ used. Asks (f used.name.number) used.value_type)
  uses-found (Add sum left right ∷ insts) named h =
      let Q : Use → Type 0 = λ used. Asks (f used.name.number) used.value_type in
      let P = IsTypedUse kernel in
      let rest = flat_map used_by insts in
      let later = All-tail P (int_use left) (int_use right ∷ rest) h in
      All-cons Q (int_use left) (int_use right ∷ rest) (use-renamed left.number Int (named left.number (1, omega arith, refl)) (All-head P (int_use left) (int_use right ∷ rest) h))
      (All-cons Q (int_use right) rest (use-renamed right.number Int (named right.number (2, omega arith, refl)) (All-head P (int_use right) rest later))
      (uses-found insts (λ n at. named n (Contains-append_right (inst_numbers (Add sum left right)) (flat_map inst_numbers insts) n at)) (All-tail P (int_use right) rest later)))
  uses-found (Load loaded pointer is_aligned ∷ insts) named h =
      let Q : Use → Type 0 = λ used. Asks (f used.name.number) used.value_type in
      let P = IsTypedUse kernel in
      let rest = flat_map used_by insts in
      All-cons Q (pointer_use pointer) rest (use-renamed pointer.number (pointer_use pointer).value_type (named pointer.number (1, omega arith, refl)) (All-head P (pointer_use pointer) rest h))
      (uses-found insts (λ n at. named n (Contains-append_right (inst_numbers (Load loaded pointer is_aligned)) (flat_map inst_numbers insts) n at)) (All-tail P (pointer_use pointer) rest h))
  uses-found (Store value pointer is_aligned ∷ insts) named h =
      let Q : Use → Type 0 = λ used. Asks (f used.name.number) used.value_type in
      let P = IsTypedUse kernel in
      let rest = flat_map used_by insts in
      let later = All-tail P (int_use value) (pointer_use pointer ∷ rest) h in
      All-cons Q (int_use value) (pointer_use pointer ∷ rest) (use-renamed value.number Int (named value.number (0, omega arith, refl)) (All-head P (int_use value) (pointer_use pointer ∷ rest) h))
      (All-cons Q (pointer_use pointer) rest (use-renamed pointer.number (pointer_use pointer).value_type (named pointer.number (1, omega arith, refl)) (All-head P (pointer_use pointer) rest later))
      (uses-found insts (λ n at. named n (Contains-append_right (inst_numbers (Store value pointer is_aligned)) (flat_map inst_numbers insts) n at)) (All-tail P (pointer_use pointer) rest later)))

  typed-renamed : IsTyped kernel → IsTyped renamed
  typed-renamed typed =
      uses-same Asks renamed.insts
      (subst (λ insts. All (λ used. Asks used.name.number used.value_type) (flat_map used_by insts)) (sym is.insts)
      (uses-renamed Asks f kernel.insts
      (uses-found kernel.insts (λ n at. Contains-append_right (map param_number kernel.params) (flat_map inst_numbers kernel.insts) n at) typed)))

pub renamed-typed : RenamedAreTyped
renamed-typed = typed-renamed
