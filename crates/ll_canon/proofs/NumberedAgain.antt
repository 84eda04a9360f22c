-- The canonical form of a canonical form is that form.
use Rattle.std.proofs.Common.{◌≡◌, ℕ, suc, zero, ◌+◌, ◌<◌, Bool, true, false, cond, nat_eq, List, [], ◌∷◌, ◌++◌, Option, None, Some, map, length, slice_get, refl, sym, ◌∙◌, ap, ap₂, subst, arith, unwrap_or}
use Rattle.std.proofs.lemmas.Bool.Decides.{nat_tests}
use Rattle.std.specs.Prelude.{is_some}
use Rattle.std.specs.List.{range_with_len}
use Rattle.std.specs.Option.{option_map, option_to_list}
use Rattle.std.proofs.lemmas.List.{length-map}
use Rattle.inst_walk.specs.Places.{place_of}
use Rattle.ll_tree.specs.declared.name.Name.{Name}
use Rattle.ll_tree.specs.declared.name.NameText.{NameText}
use Rattle.kernel_tree.specs.declared.kernel.Kernel.{Kernel}
use Rattle.kernel_tree.specs.declared.kernel.KernelInst.{KernelInst}
use Rattle.kernel_tree.specs.declared.kernel.KernelInst.TheVariants.{Add, Load, Store}
use Rattle.kernel_tree.specs.declared.kernel.KernelParam.{KernelParam}
use Rattle.kernel_tree.specs.Canonical.{aligned, canonical, inst_aligned, inst_numbered, number_entry, numbered, numbered_name, numbers_defined, param_numbered, with_targets}
use Rattle.kernel_tree.specs.Covered.{are_distinct, is_covered}
use Rattle.kernel_tree.specs.Names.{definitions}
use Rattle.kernel_tree.specs.Numbered.{definition_count, number_defined}
use Rattle.kernel_tree.proofs.AlignedNames.{definitions-aligned}
use Rattle.ll_canon.proofs.CanonicalMade.{parts-are}
use Rattle.ll_canon.proofs.NumberedForms.{covered-distinct, definitions-numbered, definition_numbered, number-below, number_by, numbered-is, some-defined}

place-here : (b : Bool) (rest : Option ℕ) → b ≡ true → cond b (Some 0) rest ≡ Some 0
place-here true rest e = refl
place-here false rest e = absurd cc

place-behind : (b : Bool) (rest : Option ℕ) (p : ℕ) → b ≡ false → rest ≡ Some p → cond b (Some 0) (option_map suc rest) ≡ Some (suc p)
place-behind true rest p e is = absurd cc
place-behind false rest p e is = ap (option_map suc) is

same-test : (a : ℕ) → nat_eq a (a + 0) ≡ true
same-test a = grind (arith, nat_tests)

other-test : (a p : ℕ) → nat_eq a (a + suc p) ≡ false
other-test a p = grind (arith, nat_tests)

moved : (a p : ℕ) → a + suc p ≡ (a + 1) + p
moved a p = omega arith

-- where a number stands among those that count up
range-place : (a n p : ℕ) → p < n → place_of nat_eq (range_with_len a n) (a + p) ≡ Some p
range-place a zero p lt = absurd (omega (arith, lt))
range-place a (suc n) zero lt = place-here (nat_eq a (a + 0)) _ (same-test a)
range-place a (suc n) (suc p) lt =
    place-behind (nat_eq a (a + suc p)) (place_of nat_eq (range_with_len (a + 1) n) (a + suc p)) p (other-test a p)
    (ap (λ (x : ℕ). place_of nat_eq (range_with_len (a + 1) n) x) (moved a p) ∙ range-place (a + 1) n p (omega (arith, lt)))

abbrev unplaced : ℕ → Name
unplaced n = record { number = n; byte = 0 }

abbrev with_name : KernelParam → Name → KernelParam
with_name param name = record { value_type = param.value_type; name = name }

module _ (ns ms : List ℕ) (counts : ms ≡ range_with_len 1 (length ns)) (some : 0 < length ns) where
  number-again : (x : ℕ) → number_by ms (number_by ns x) ≡ number_by ns x
  number-again x =
      let p = unwrap_or (place_of nat_eq ns x) 0 in
      let below : 1 + p < length ns + 1 = number-below ns x (place_of nat_eq ns x) refl some in
      ap (λ (o : Option ℕ). 1 + unwrap_or o 0) (ap (λ (xs : List ℕ). place_of nat_eq xs (1 + p)) counts ∙ range-place 1 (length ns) p (omega (arith, below)))

  name-again : (name : Name) → numbered_name ms (numbered_name ns name) ≡ numbered_name ns name
  name-again name = ap unplaced (number-again name.number)

  param-again : (param : KernelParam) → param_numbered ms (param_numbered ns param) ≡ param_numbered ns param
  param-again param = ap (with_name param) (name-again param.name)

  params-again : (params : List KernelParam) → map (param_numbered ms) (map (param_numbered ns) params) ≡ map (param_numbered ns) params
  params-again [] = refl
  params-again (param ∷ params) = ap₂ (λ (x : KernelParam) (xs : List KernelParam). x ∷ xs) (param-again param) (params-again params)

  inst-again : (inst : KernelInst) → inst_numbered ms (inst_numbered ns inst) ≡ inst_numbered ns inst
  inst-again (Add sum left right) =
      ap₂ (λ (x : Name) (y : Name). Add x y (numbered_name ms (numbered_name ns right))) (name-again sum) (name-again left)
      ∙ ap (Add (numbered_name ns sum) (numbered_name ns left)) (name-again right)
  inst-again (Load loaded pointer is_aligned) = ap₂ (λ (x : Name) (y : Name). Load x y is_aligned) (name-again loaded) (name-again pointer)
  inst-again (Store value pointer is_aligned) = ap₂ (λ (x : Name) (y : Name). Store x y is_aligned) (name-again value) (name-again pointer)

  insts-again : (insts : List KernelInst) → map (inst_numbered ms) (map (inst_numbered ns) insts) ≡ map (inst_numbered ns) insts
  insts-again [] = refl
  insts-again (inst ∷ insts) = ap₂ (λ (x : KernelInst) (xs : List KernelInst). x ∷ xs) (inst-again inst) (insts-again insts)

-- alignments are written already
aligned-again : (ns : List ℕ) (insts : List KernelInst) → map inst_aligned (map (inst_numbered ns) (map inst_aligned insts)) ≡ map (inst_numbered ns) (map inst_aligned insts)
aligned-again ns [] = refl
aligned-again ns (Add sum left right ∷ insts) = ap (λ (xs : List KernelInst). inst_numbered ns (Add sum left right) ∷ xs) (aligned-again ns insts)
aligned-again ns (Load loaded pointer is_aligned ∷ insts) = ap (λ (xs : List KernelInst). inst_numbered ns (Load loaded pointer true) ∷ xs) (aligned-again ns insts)
aligned-again ns (Store value pointer is_aligned ∷ insts) = ap (λ (xs : List KernelInst). inst_numbered ns (Store value pointer true) ∷ xs) (aligned-again ns insts)

first-entry : (entry : Option NameText) (behind : List NameText) → is_some entry ≡ true → slice_get (option_to_list entry ++ behind) 0 ≡ entry
first-entry None behind some = absurd cc
first-entry (Some e) behind some = refl

abbrev with_insts : Kernel → List KernelInst → Kernel
with_insts kernel insts = record { has_targets = true; name = kernel.name; params = kernel.params; block = kernel.block; insts = insts; names = kernel.names }

numbered-again : (kernel : Kernel) → are_distinct (numbers_defined kernel) ≡ true → is_some (slice_get kernel.names kernel.name.number) ≡ true
    → kernel.has_targets ≡ true → numbered (numbered kernel) ≡ numbered kernel
numbered-again kernel distinct named targets =
    let ns = numbers_defined kernel in
    let form = numbered kernel in
    let is = numbered-is kernel distinct in
    let counted : length ns ≡ definition_count kernel = length-map (definitions kernel) number_defined in
    let count : definition_count form ≡ length ns = ap length (definitions-numbered kernel) ∙ length-map (definitions kernel) (definition_numbered ns) ∙ sym counted in
    let some : 0 < length ns = subst (λ n. 0 < n) (sym counted) (some-defined kernel) in
    let counts : numbers_defined form ≡ range_with_len 1 (length ns) = is.defined ∙ ap (λ (n : ℕ). range_with_len 1 n) count in
    let ms = numbers_defined form in
    ap (λ (b : Bool). record { has_targets = b; name = record { number = 0; byte = 0 }; params = map (param_numbered ms) form.params; block = numbered_name ms form.block; insts = map (inst_numbered ms) form.insts; names = option_to_list (slice_get form.names 0) ++ map number_entry (range_with_len 0 (definition_count form)) }) targets
    ∙ (parts-are _ _ _ _ _ _ _ _ (params-again ns ms counts some kernel.params) (name-again ns ms counts some kernel.block) (insts-again ns ms counts some kernel.insts)
    (ap (λ (o : Option NameText). option_to_list o ++ map number_entry (range_with_len 0 (definition_count form))) (first-entry (slice_get kernel.names kernel.name.number) _ named)
    ∙ ap (λ (n : ℕ). option_to_list (slice_get kernel.names kernel.name.number) ++ map number_entry (range_with_len 0 n)) (count ∙ counted))
    ∙ ap (λ (b : Bool). record { has_targets = b; name = record { number = 0; byte = 0 }; params = form.params; block = form.block; insts = form.insts; names = form.names }) (sym targets))

pub canonical-again : (kernel : Kernel) → is_covered kernel ≡ true → is_some (slice_get kernel.names kernel.name.number) ≡ true → canonical (canonical kernel) ≡ canonical kernel
canonical-again kernel covered named =
    let plain = aligned (with_targets kernel) in
    let distinct : are_distinct (numbers_defined plain) ≡ true = subst (λ (ds : _). are_distinct (map number_defined ds) ≡ true) (sym (definitions-aligned kernel)) (covered-distinct kernel covered) in
    ap (λ (insts : List KernelInst). numbered (with_insts (numbered plain) insts)) (aligned-again (numbers_defined plain) kernel.insts)
    ∙ numbered-again plain distinct named refl
