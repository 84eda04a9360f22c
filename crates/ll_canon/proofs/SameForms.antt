-- Kernels that are the same but for the numbers of their names have one canonical form.
use Rattle.std.proofs.Common.{◌≡◌, ℕ, suc, zero, ◌+◌, Bool, true, false, cond, not, ◌&&◌, nat_eq, nat_lt, nat_le, List, [], ◌∷◌, ◌++◌, Option, None, Some, map, flat_map, length, slice_get, refl, sym, ◌∙◌, ap, ap₂, unwrap_or}
use Rattle.std.proofs.lemmas.Bool.{eqb-true, eq-eqb}
use Rattle.std.specs.Prelude.{find, is_some}
use Rattle.std.specs.List.{list_all, range_with_len}
use Rattle.std.specs.Option.{option_map, option_to_list}
use Rattle.inst_walk.specs.Places.{place_of}
use Rattle.ll_tree.specs.declared.name.Name.{Name}
use Rattle.ll_tree.specs.declared.name.NameText.{NameText}
use Rattle.kernel_tree.specs.declared.kernel.Kernel.{Kernel}
use Rattle.kernel_tree.specs.declared.kernel.KernelInst.{KernelInst}
use Rattle.kernel_tree.specs.declared.kernel.KernelInst.TheVariants.{Add, Load, Store}
use Rattle.kernel_tree.specs.declared.kernel.KernelParam.{KernelParam}
use Rattle.kernel_tree.specs.declared.kernel.ValueType.{ValueType}
use Rattle.kernel_tree.specs.declared.names.Definition.{Definition}
use Rattle.kernel_tree.specs.declared.names.Use.{Use}
use Rattle.kernel_tree.specs.Canonical.{canonical, inst_aligned, inst_numbered, number_entry, numbered_name, param_numbered}
use Rattle.kernel_tree.specs.Covered.{all_first, first_undefined, has_type, in_sequence, is_at, is_covered, is_found, is_next, is_type, is_undefined, next_behind, number_of_entry, use_fits, used_byte, uses_fit}
use Rattle.kernel_tree.specs.Names.{block_definition, defined_above, defined_by, definitions, param_definition, used_by, uses}
use Rattle.kernel_tree.specs.Numbered.{number_defined}
use Rattle.kernel_tree.specs.Same.{HasOnce, IsSameInst, IsSameKernel, IsSameName, IsSameParam, Pairwise}
use Rattle.ll_canon.proofs.CanonicalMade.{form-is, parts-are}

Pairwise-append : {A : Type 0} (R : A → A → Type 0) (xs ys zs ws : List A) → Pairwise R xs ys → Pairwise R zs ws → Pairwise R (xs ++ zs) (ys ++ ws)
Pairwise-append R [] [] zs ws p q = q
Pairwise-append R [] (y ∷ ys) zs ws p q = absurd p
Pairwise-append R (x ∷ xs) [] zs ws p q = absurd p
Pairwise-append R (x ∷ xs) (y ∷ ys) zs ws p q = (p.0, Pairwise-append R xs ys zs ws p.1 q)

Pairwise-length : {A : Type 0} (R : A → A → Type 0) (xs ys : List A) → Pairwise R xs ys → length xs ≡ length ys
Pairwise-length R [] [] p = refl
Pairwise-length R [] (y ∷ ys) p = absurd p
Pairwise-length R (x ∷ xs) [] p = absurd p
Pairwise-length R (x ∷ xs) (y ∷ ys) p = ap suc (Pairwise-length R xs ys p.1)

some-is : {A : Type 0} (x y : A) → Some x ≡ Some y → x ≡ y
some-is x y e = cc

module _ (t1 t2 : List NameText) (once1 : HasOnce t1) (once2 : HasOnce t2) where
  abbrev SameName : Name → Name → Type 0
  SameName = IsSameName t1 t2

  abbrev SameDefinition : Definition → Definition → Type 0
  SameDefinition d e = SameName d.name e.name × (d.value_type ≡ e.value_type)

  abbrev SameUse : Use → Use → Type 0
  SameUse u v = SameName u.name v.name × (u.value_type ≡ v.value_type)

  -- names are one in one kernel where they are in the other
  then-one : (a b c d : Name) → SameName a b → SameName c d → a.number ≡ c.number → b.number ≡ d.number
  then-one a b c d p q e =
      let one : Some p.entry ≡ Some q.entry = sym p.named ∙ (ap (slice_get t1) e ∙ q.named) in
      once2 b.number d.number p.entry p.also_named (q.also_named ∙ sym one)

  then-also : (a b c d : Name) → SameName a b → SameName c d → b.number ≡ d.number → a.number ≡ c.number
  then-also a b c d p q e =
      let one : Some p.entry ≡ Some q.entry = sym p.also_named ∙ (ap (slice_get t2) e ∙ q.also_named) in
      once1 a.number c.number p.entry p.named (q.named ∙ sym one)

  tests-agree : (b c : Bool) → (b ≡ true → c ≡ true) → (c ≡ true → b ≡ true) → b ≡ c
  tests-agree true true f g = refl
  tests-agree false false f g = refl
  tests-agree true false f g = sym (f refl)
  tests-agree false true f g = g refl

  same-test : (a b c d : Name) → SameName a b → SameName c d → nat_eq a.number c.number ≡ nat_eq b.number d.number
  same-test a b c d p q =
      tests-agree (nat_eq a.number c.number) (nat_eq b.number d.number)
      (λ e. is-eq b.number d.number (then-one a b c d p q (eqb-true a.number c.number e)))
      (λ e. is-eq a.number c.number (then-also a b c d p q (eqb-true b.number d.number e)))
    where
      is-eq : (n m : ℕ) → n ≡ m → nat_eq n m ≡ true
      is-eq n m e = eq-eqb n m e

  same-place : (ds es : List Definition) (u v : Name) → Pairwise SameDefinition ds es → SameName u v
      → place_of nat_eq (map number_defined ds) u.number ≡ place_of nat_eq (map number_defined es) v.number
  same-place [] [] u v p q = refl
  same-place [] (e ∷ es) u v p q = absurd p
  same-place (d ∷ ds) [] u v p q = absurd p
  same-place (d ∷ ds) (e ∷ es) u v p q =
      ap₂ (λ (b : Bool) (o : Option ℕ). cond b (Some 0) (option_map suc o)) (same-test d.name e.name u v p.0.0 q) (same-place ds es u v p.1 q)

  params-same : (ps qs : List KernelParam) → Pairwise (IsSameParam t1 t2) ps qs → Pairwise SameDefinition (map param_definition ps) (map param_definition qs)
  params-same [] [] p = tt
  params-same [] (y ∷ ys) p = absurd p
  params-same (x ∷ xs) [] p = absurd p
  params-same (x ∷ xs) (y ∷ ys) p = ((p.0.1, ap Some p.0.0), params-same xs ys p.1)

  results-same : (is js : List KernelInst) → Pairwise (IsSameInst t1 t2) is js → Pairwise SameDefinition (flat_map defined_by is) (flat_map defined_by js)
  results-same [] [] p = tt
  results-same [] (j ∷ js) p = absurd p
  results-same (i ∷ is) [] p = absurd p
  results-same (Add s l r ∷ is) (Add s' l' r' ∷ js) p = ((p.0.0, refl), results-same is js p.1)
  results-same (Load v q a ∷ is) (Load v' q' a' ∷ js) p = ((p.0.0, refl), results-same is js p.1)
  results-same (Store v q a ∷ is) (Store v' q' a' ∷ js) p = results-same is js p.1
  results-same (Add s l r ∷ is) (Load v' q' a' ∷ js) p = absurd p.0
  results-same (Add s l r ∷ is) (Store v' q' a' ∷ js) p = absurd p.0
  results-same (Load v q a ∷ is) (Add s' l' r' ∷ js) p = absurd p.0
  results-same (Load v q a ∷ is) (Store v' q' a' ∷ js) p = absurd p.0
  results-same (Store v q a ∷ is) (Add s' l' r' ∷ js) p = absurd p.0
  results-same (Store v q a ∷ is) (Load v' q' a' ∷ js) p = absurd p.0

  uses-same : (is js : List KernelInst) → Pairwise (IsSameInst t1 t2) is js → Pairwise SameUse (flat_map used_by is) (flat_map used_by js)
  uses-same [] [] p = tt
  uses-same [] (j ∷ js) p = absurd p
  uses-same (i ∷ is) [] p = absurd p
  uses-same (Add s l r ∷ is) (Add s' l' r' ∷ js) p = ((p.0.1, refl), ((p.0.2, refl), uses-same is js p.1))
  uses-same (Load v q a ∷ is) (Load v' q' a' ∷ js) p = ((p.0.1, refl), uses-same is js p.1)
  uses-same (Store v q a ∷ is) (Store v' q' a' ∷ js) p = ((p.0.0, refl), ((p.0.1, refl), uses-same is js p.1))
  uses-same (Add s l r ∷ is) (Load v' q' a' ∷ js) p = absurd p.0
  uses-same (Add s l r ∷ is) (Store v' q' a' ∷ js) p = absurd p.0
  uses-same (Load v q a ∷ is) (Add s' l' r' ∷ js) p = absurd p.0
  uses-same (Load v q a ∷ is) (Store v' q' a' ∷ js) p = absurd p.0
  uses-same (Store v q a ∷ is) (Add s' l' r' ∷ js) p = absurd p.0
  uses-same (Store v q a ∷ is) (Load v' q' a' ∷ js) p = absurd p.0

  module _ (ds es : List Definition) (same : Pairwise SameDefinition ds es) where
    abbrev ns : List ℕ
    ns = map number_defined ds

    abbrev ms : List ℕ
    ms = map number_defined es

    undefined-same : (us vs : List Use) → Pairwise SameUse us vs → option_map used_byte (find (is_undefined ns) us) ≡ option_map used_byte (find (is_undefined ms) vs)
    undefined-same [] [] p = refl
    undefined-same [] (v ∷ vs) p = absurd p
    undefined-same (u ∷ us) [] p = absurd p
    undefined-same (u ∷ us) (v ∷ vs) p =
        undefined-cases (is_undefined ns u) (is_undefined ms v) u v us vs (ap (λ (o : Option ℕ). not (is_some o)) (same-place ds es u.name v.name same p.0.0)) p.0.0.placed (undefined-same us vs p.1)
      where
        undefined-cases : (b c : Bool) (u v : Use) (us vs : List Use) → b ≡ c → u.name.byte ≡ v.name.byte
            → option_map used_byte (find (is_undefined ns) us) ≡ option_map used_byte (find (is_undefined ms) vs)
            → option_map used_byte (cond b (Some u) (find (is_undefined ns) us)) ≡ option_map used_byte (cond c (Some v) (find (is_undefined ms) vs))
        undefined-cases true true u v us vs e at rest = ap Some at
        undefined-cases false false u v us vs e at rest = rest
        undefined-cases true false u v us vs e at rest = absurd cc
        undefined-cases false true u v us vs e at rest = absurd cc

    first-same : (at : ℕ) (xs ys : List Definition) → Pairwise SameDefinition xs ys → all_first ns at (map number_defined xs) ≡ all_first ms at (map number_defined ys)
    first-same at [] [] p = refl
    first-same at [] (y ∷ ys) p = absurd p
    first-same at (x ∷ xs) [] p = absurd p
    first-same at (x ∷ xs) (y ∷ ys) p =
        ap₂ (λ (o : Option ℕ) (b : Bool). is_at at o && b) (same-place ds es x.name y.name same p.0.0) (first-same (at + 1) xs ys p.1)

    sequence-same : (next : ℕ) (xs ys : List Definition) → Pairwise SameDefinition xs ys → in_sequence t1 next (map number_defined xs) ≡ in_sequence t2 next (map number_defined ys)
    sequence-same next [] [] p = refl
    sequence-same next [] (y ∷ ys) p = absurd p
    sequence-same next (x ∷ xs) [] p = absurd p
    sequence-same next (x ∷ xs) (y ∷ ys) p =
        let entry : slice_get t1 x.name.number ≡ slice_get t2 y.name.number = p.0.0.named ∙ sym p.0.0.also_named in
        ap (λ (o : Option NameText). is_next next (number_of_entry o) && in_sequence t1 (next_behind next (number_of_entry o)) (map number_defined xs)) entry
        ∙ ap (λ (b : Bool). is_next next (number_of_entry (slice_get t2 y.name.number)) && b) (sequence-same (next_behind next (number_of_entry (slice_get t2 y.name.number))) xs ys p.1)

    types-same : (place : ℕ) (wanted : ValueType) (xs ys : List Definition) → Pairwise SameDefinition xs ys → has_type wanted (slice_get xs place) ≡ has_type wanted (slice_get ys place)
    types-same place wanted [] [] p = refl
    types-same place wanted [] (y ∷ ys) p = absurd p
    types-same place wanted (x ∷ xs) [] p = absurd p
    types-same zero wanted (x ∷ xs) (y ∷ ys) p = ap (is_type wanted) p.0.1
    types-same (suc place) wanted (x ∷ xs) (y ∷ ys) p = types-same place wanted xs ys p.1

    found-same : (above : ℕ) (wanted : ValueType) (o o' : Option ℕ) → o ≡ o' → is_found ds above wanted o ≡ is_found es above wanted o'
    found-same above wanted None None e = refl
    found-same above wanted (Some n) (Some m) e =
        ap (λ (o : Option ℕ). is_found ds above wanted o) e ∙ ap (λ (b : Bool). nat_lt m above && b) (types-same m wanted ds es same)
    found-same above wanted None (Some m) e = absurd cc
    found-same above wanted (Some n) None e = absurd cc

    use-same : (above : ℕ) (u v : Use) → SameUse u v → use_fits ds above u ≡ use_fits es above v
    use-same above u v p =
        ap (λ (w : ValueType). is_found ds above w (place_of nat_eq ns u.name.number)) p.1
        ∙ found-same above v.value_type _ _ (same-place ds es u.name v.name same p.0)

    list-same : (above : ℕ) (us vs : List Use) → Pairwise SameUse us vs → list_all (use_fits ds above) us ≡ list_all (use_fits es above) vs
    list-same above [] [] p = refl
    list-same above [] (v ∷ vs) p = absurd p
    list-same above (u ∷ us) [] p = absurd p
    list-same above (u ∷ us) (v ∷ vs) p = ap₂ (λ (a b : Bool). a && b) (use-same above u v p.0) (list-same above us vs p.1)

    fit-step : (above : ℕ) (i j : KernelInst) (is js : List KernelInst) → Pairwise SameUse (used_by i) (used_by j) → length (defined_by i) ≡ length (defined_by j)
        → ((a : ℕ) → uses_fit ds a is ≡ uses_fit es a js) → uses_fit ds above (i ∷ is) ≡ uses_fit es above (j ∷ js)
    fit-step above i j is js p n rest =
        ap₂ (λ (a b : Bool). a && b) (list-same above (used_by i) (used_by j) p)
        (ap (λ (k : ℕ). uses_fit ds (above + k) is) n ∙ rest (above + length (defined_by j)))

    fit-same : (above : ℕ) (is js : List KernelInst) → Pairwise (IsSameInst t1 t2) is js → uses_fit ds above is ≡ uses_fit es above js
    fit-same above [] [] p = refl
    fit-same above [] (j ∷ js) p = absurd p
    fit-same above (i ∷ is) [] p = absurd p
    fit-same above (Add s l r ∷ is) (Add s' l' r' ∷ js) p = fit-step above (Add s l r) (Add s' l' r') is js ((p.0.1, refl), ((p.0.2, refl), tt)) refl (λ a. fit-same a is js p.1)
    fit-same above (Load v q a ∷ is) (Load v' q' a' ∷ js) p = fit-step above (Load v q a) (Load v' q' a') is js ((p.0.1, refl), tt) refl (λ n. fit-same n is js p.1)
    fit-same above (Store v q a ∷ is) (Store v' q' a' ∷ js) p = fit-step above (Store v q a) (Store v' q' a') is js ((p.0.0, refl), ((p.0.1, refl), tt)) refl (λ n. fit-same n is js p.1)
    fit-same above (Add s l r ∷ is) (Load v' q' a' ∷ js) p = absurd p.0
    fit-same above (Add s l r ∷ is) (Store v' q' a' ∷ js) p = absurd p.0
    fit-same above (Load v q a ∷ is) (Add s' l' r' ∷ js) p = absurd p.0
    fit-same above (Load v q a ∷ is) (Store v' q' a' ∷ js) p = absurd p.0
    fit-same above (Store v q a ∷ is) (Add s' l' r' ∷ js) p = absurd p.0
    fit-same above (Store v q a ∷ is) (Load v' q' a' ∷ js) p = absurd p.0

    name-same : (a b : Name) → SameName a b → numbered_name ns a ≡ numbered_name ms b
    name-same a b p = ap placeless (same-place ds es a b same p)
      where
        placeless : Option ℕ → Name
        placeless o = record { number = 1 + unwrap_or o 0; byte = 0 }

    numbered-params : (ps qs : List KernelParam) → Pairwise (IsSameParam t1 t2) ps qs → map (param_numbered ns) ps ≡ map (param_numbered ms) qs
    numbered-params [] [] p = refl
    numbered-params [] (y ∷ ys) p = absurd p
    numbered-params (x ∷ xs) [] p = absurd p
    numbered-params (x ∷ xs) (y ∷ ys) p =
        ap₂ (λ (x : KernelParam) (rest : List KernelParam). x ∷ rest) (ap₂ typed p.0.0 (name-same x.name y.name p.0.1)) (numbered-params xs ys p.1)
      where
        typed : ValueType → Name → KernelParam
        typed value_type name = record { value_type = value_type; name = name }

    numbered-insts : (is js : List KernelInst) → Pairwise (IsSameInst t1 t2) is js → map (inst_numbered ns) (map inst_aligned is) ≡ map (inst_numbered ms) (map inst_aligned js)
    numbered-insts [] [] p = refl
    numbered-insts [] (j ∷ js) p = absurd p
    numbered-insts (i ∷ is) [] p = absurd p
    numbered-insts (Add s l r ∷ is) (Add s' l' r' ∷ js) p =
        ap₂ (λ (x : KernelInst) (rest : List KernelInst). x ∷ rest)
        (ap₂ (λ (x y : Name). Add x y (numbered_name ns r)) (name-same s s' p.0.0) (name-same l l' p.0.1) ∙ ap (Add (numbered_name ms s') (numbered_name ms l')) (name-same r r' p.0.2))
        (numbered-insts is js p.1)
    numbered-insts (Load v q a ∷ is) (Load v' q' a' ∷ js) p =
        ap₂ (λ (x : KernelInst) (rest : List KernelInst). x ∷ rest) (ap₂ (λ (x y : Name). Load x y true) (name-same v v' p.0.0) (name-same q q' p.0.1)) (numbered-insts is js p.1)
    numbered-insts (Store v q a ∷ is) (Store v' q' a' ∷ js) p =
        ap₂ (λ (x : KernelInst) (rest : List KernelInst). x ∷ rest) (ap₂ (λ (x y : Name). Store x y true) (name-same v v' p.0.0) (name-same q q' p.0.1)) (numbered-insts is js p.1)
    numbered-insts (Add s l r ∷ is) (Load v' q' a' ∷ js) p = absurd p.0
    numbered-insts (Add s l r ∷ is) (Store v' q' a' ∷ js) p = absurd p.0
    numbered-insts (Load v q a ∷ is) (Add s' l' r' ∷ js) p = absurd p.0
    numbered-insts (Load v q a ∷ is) (Store v' q' a' ∷ js) p = absurd p.0
    numbered-insts (Store v q a ∷ is) (Add s' l' r' ∷ js) p = absurd p.0
    numbered-insts (Store v q a ∷ is) (Load v' q' a' ∷ js) p = absurd p.0

module _ (k l : Kernel) (once1 : HasOnce k.names) (once2 : HasOnce l.names) (same : IsSameKernel k l) where
  abbrev Same : Definition → Definition → Type 0
  Same d e = IsSameName k.names l.names d.name e.name × (d.value_type ≡ e.value_type)

  definitions-same : Pairwise Same (definitions k) (definitions l)
  definitions-same =
      Pairwise-append Same (defined_above k) (defined_above l) (flat_map defined_by k.insts) (flat_map defined_by l.insts)
      (Pairwise-append Same (map param_definition k.params) (map param_definition l.params) (block_definition k.block ∷ []) (block_definition l.block ∷ [])
      (params-same k.names l.names once1 once2 k.params l.params same.params) ((same.block, refl), tt))
      (results-same k.names l.names once1 once2 k.insts l.insts same.insts)

  params-count : length k.params ≡ length l.params
  params-count = Pairwise-length (IsSameParam k.names l.names) k.params l.params same.params

  pub undefined-is : first_undefined k ≡ first_undefined l
  undefined-is = undefined-same k.names l.names once1 once2 (definitions k) (definitions l) definitions-same (uses k) (uses l) (uses-same k.names l.names once1 once2 k.insts l.insts same.insts)

  pub covered-is : is_covered k ≡ is_covered l
  covered-is =
      ap₂ (λ (a b : Bool). a && b) (ap (λ (n : ℕ). nat_le n 255) params-count)
      (ap₂ (λ (a b : Bool). a && b) (first-same k.names l.names once1 once2 (definitions k) (definitions l) definitions-same 0 (definitions k) (definitions l) definitions-same)
      (ap₂ (λ (a b : Bool). a && b) (sequence-same k.names l.names once1 once2 (definitions k) (definitions l) definitions-same 0 (definitions k) (definitions l) definitions-same)
      (ap (λ (n : ℕ). uses_fit (definitions k) (n + 1) k.insts) params-count ∙ fit-same k.names l.names once1 once2 (definitions k) (definitions l) definitions-same (length l.params + 1) k.insts l.insts same.insts)))

  pub canonical-is : canonical k ≡ canonical l
  canonical-is =
      form-is k
      ∙ (parts-are _ _ _ _ _ _ _ _ (numbered-params k.names l.names once1 once2 (definitions k) (definitions l) definitions-same k.params l.params same.params)
      (name-same k.names l.names once1 once2 (definitions k) (definitions l) definitions-same k.block l.block same.block)
      (numbered-insts k.names l.names once1 once2 (definitions k) (definitions l) definitions-same k.insts l.insts same.insts)
      (ap₂ (λ (o : Option NameText) (n : ℕ). option_to_list o ++ map number_entry (range_with_len 0 n)) (same.name.named ∙ sym same.name.also_named) (Pairwise-length Same (definitions k) (definitions l) definitions-same))
      ∙ sym (form-is l))
