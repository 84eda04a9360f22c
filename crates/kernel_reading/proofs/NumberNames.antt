-- The names of a canonical kernel are numbers, and its table has each name once.
use Rattle.std.proofs.Common.{◌≡◌, ℕ, suc, zero, ◌+◌, ◌-◌, ◌^◌, ◌<◌, ◌≤◌, nat_eq, List, [], ◌∷◌, Option, Some, map, length, slice_get, refl, sym, ◌∙◌, ap, subst, arith, unwrap_or}
use Rattle.std.specs.List.{range_with_len}
use Rattle.inst_walk.specs.Places.{place_of}
use Rattle.ll_tree.specs.declared.name.Name.{Name}
use Rattle.ll_tree.specs.declared.name.NameKind.TheVariants.{Global}
use Rattle.ll_tree.specs.declared.name.NameText.{NameText}
use Rattle.ll_parser.specs.NameCodes.{kind_code}
use Rattle.ll_parser.specs.Tables.{NoNameTwice}
use Rattle.kernel_tree.specs.declared.kernel.Kernel.{Kernel}
use Rattle.kernel_tree.specs.declared.kernel.KernelInst.{KernelInst}
use Rattle.kernel_tree.specs.declared.kernel.KernelInst.TheVariants.{Add, Load, Store}
use Rattle.kernel_tree.specs.declared.kernel.KernelParam.{KernelParam}
use Rattle.kernel_tree.specs.Canonical.{aligned, canonical, inst_aligned, inst_numbered, number_entry, numbered_name, numbers_defined, param_numbered, with_targets}
use Rattle.kernel_tree.specs.Covered.{number_of_entry}
use Rattle.kernel_tree.specs.Numbered.{definition_count}
use Rattle.kernel_tree.proofs.AlignedNames.{definitions-aligned}
use Rattle.ll_canon.proofs.NumberedForms.{number-below}
use Rattle.kernel_reading.specs.CanonicalKernels.{IsCanonicalKernel, IsOwnName}
use Rattle.kernel_reading.proofs.CanonicalForms.{counted, entry, names-are, some, table-entry, table_of}
use Rattle.kernel_reading.proofs.InstReads.{AreNumberedInsts}
use Rattle.kernel_reading.proofs.KernelReads.{HasNumberNames}
use Rattle.kernel_reading.proofs.NameReads.{IsNumberName}
use Rattle.kernel_reading.proofs.ParamReads.{AreNumbered}

one-less : (p : ℕ) → p ≡ (1 + p) - 1
one-less p = omega arith

number-small : (n p : ℕ) → p < n → n ≤ 4194303 → (1 + p) - 1 < 2 ^ 31
number-small n p lt le = omega (arith, lt, le)

module _ (own : NameText) (ns : List ℕ) (some : 0 < length ns) (few : length ns ≤ 4194303) where
  abbrev table : List NameText
  table = table_of own (length ns)

  name-numbered : (name : Name) → IsNumberName table (numbered_name ns name)
  name-numbered name =
      let p = unwrap_or (place_of nat_eq ns name.number) 0 in
      let below : 1 + p < length ns + 1 = number-below ns name.number (place_of nat_eq ns name.number) refl some in
      let lt : p < length ns = omega (arith, below) in
      record {
        entry = table-entry own (length ns) p lt ∙ ap (λ (x : ℕ). Some (number_entry x)) (one-less p);
        small = number-small (length ns) p lt few;
      }

  params-are : (params : List KernelParam) → AreNumbered table (map (param_numbered ns) params)
  params-are [] = tt
  params-are (param ∷ params) = (name-numbered param.name, params-are params)

  insts-are : (insts : List KernelInst) → AreNumberedInsts table (map (inst_numbered ns) (map inst_aligned insts))
  insts-are [] = tt
  insts-are (Add sum left right ∷ insts) = ((name-numbered sum, name-numbered left, name-numbered right), insts-are insts)
  insts-are (Load loaded pointer is_aligned ∷ insts) = ((name-numbered loaded, name-numbered pointer), insts-are insts)
  insts-are (Store value pointer is_aligned ∷ insts) = ((name-numbered value, name-numbered pointer), insts-are insts)

-- the kernel's own name stands first in the table
name-first : (kernel : Kernel) → canonical kernel ≡ kernel → 0 ≡ kernel.name.number
name-first kernel its_own = ap (λ (k : Kernel). k.name.number) its_own

pub own-named : (kernel : Kernel) → IsCanonicalKernel kernel → IsOwnName (slice_get kernel.names kernel.name.number)
own-named kernel is = subst (λ (n : ℕ). IsOwnName (slice_get kernel.names n)) (name-first kernel is.its_own) is.own_name

some-same : (x y : NameText) → Some x ≡ Some y → x ≡ y
some-same x y same = ap (λ (o : Option NameText). unwrap_or o x) same

one-further : (n p : ℕ) → n + suc p ≡ (n + 1) + p
one-further n p = omega arith

nothing-more : (n : ℕ) → n + 0 ≡ n
nothing-more n = omega arith

-- what stands in a table of numbers
entry-counted : (start n p : ℕ) (found : NameText) → slice_get (map number_entry (range_with_len start n)) p ≡ Some found → number_entry (start + p) ≡ found
entry-counted start zero p found is = absurd cc
entry-counted start (suc n) zero found is = ap number_entry (nothing-more start) ∙ some-same (number_entry start) found is
entry-counted start (suc n) (suc p) found is = ap number_entry (one-further start p) ∙ entry-counted (start + 1) n p found is

same-number : (i j : ℕ) (found : NameText) → number_entry (0 + i) ≡ found → number_entry (0 + j) ≡ found → i ≡ j
same-number i j found is also =
    let same : 0 + i ≡ 0 + j = ap (λ (e : NameText). unwrap_or (number_of_entry (Some e)) 0) (is ∙ sym also) in
    omega (arith, same)

no-number : (own found : NameText) (i : ℕ) → own.kind ≡ Global → own ≡ found → number_entry (0 + i) ≡ found → ⊥
no-number own found i global is also =
    let same : 1 ≡ 0 = ap kind_code (sym global) ∙ ap (λ (e : NameText). kind_code e.kind) (is ∙ sym also) in
    absurd (omega (arith, same))

table-once : (own : NameText) (n : ℕ) → own.kind ≡ Global → NoNameTwice (table_of own n)
table-once own n global zero zero found is also = refl
table-once own n global zero (suc j) found is also = absurd (no-number own found j global (some-same own found is) (entry-counted 0 n j found also))
table-once own n global (suc i) zero found is also = absurd (no-number own found i global (some-same own found also) (entry-counted 0 n i found is))
table-once own n global (suc i) (suc j) found is also = ap suc (same-number i j found (entry-counted 0 n i found is) (entry-counted 0 n j found also))

module _ (kernel : Kernel) (is : IsCanonicalKernel kernel) where
  abbrev ns : List ℕ
  ns = numbers_defined (aligned (with_targets kernel))

  abbrev own : NameText
  own = entry kernel is.covered (own-named kernel is)

  names : (canonical kernel).names ≡ table_of own (length ns)
  names = names-are kernel is.covered (own-named kernel is)

  pub each-once : NoNameTwice kernel.names
  each-once =
      subst NoNameTwice (sym names ∙ ap (λ (k : Kernel). k.names) is.its_own) (table-once own (length ns) refl)

  pub number-names : definition_count kernel ≤ 4194303 → HasNumberNames kernel
  number-names few =
      let count : length ns ≡ definition_count kernel = counted kernel is.covered (own-named kernel is) ∙ ap length (definitions-aligned kernel) in
      let some_numbers = some kernel is.covered (own-named kernel is) in
      let few_numbers : length ns ≤ 4194303 = subst (λ (n : ℕ). n ≤ 4194303) (sym count) few in
      let form : HasNumberNames (canonical kernel) = record {
        params = subst (λ (t : List NameText). AreNumbered t (canonical kernel).params) (sym names) (params-are own ns some_numbers few_numbers kernel.params);
        block = subst (λ (t : List NameText). IsNumberName t (canonical kernel).block) (sym names) (name-numbered own ns some_numbers few_numbers kernel.block);
        insts = subst (λ (t : List NameText). AreNumberedInsts t (canonical kernel).insts) (sym names) (insts-are own ns some_numbers few_numbers kernel.insts);
      } in
      subst HasNumberNames is.its_own form
