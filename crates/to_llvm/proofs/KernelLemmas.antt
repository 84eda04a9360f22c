-- A canonical kernel is made of its parts.
use Rattle.std.proofs.Common.{◌≡◌, ℕ, ◌+◌, true, List, [], ◌∷◌, ◌++◌, map, flat_map, length, Option, Some, slice_get, refl, sym, ◌∙◌, ap, ap₂, subst, length-append}
use Rattle.std.specs.List.{range_with_len}
use Rattle.std.specs.Option.{option_to_list}
use Rattle.std.proofs.lemmas.List.{length-map}
use Rattle.ll_tree.specs.declared.name.Name.{Name}
use Rattle.ll_tree.specs.declared.name.NameText.{NameText}
use Rattle.kernel_tree.specs.declared.kernel.Kernel.{Kernel}
use Rattle.kernel_tree.specs.declared.kernel.KernelInst.{KernelInst}
use Rattle.kernel_tree.specs.declared.kernel.KernelInst.TheVariants.{Add, Load, Store}
use Rattle.kernel_tree.specs.declared.kernel.KernelParam.{KernelParam}
use Rattle.kernel_tree.specs.declared.names.Definition.{Definition}
use Rattle.kernel_tree.specs.Canonical.{aligned, canonical, inst_aligned, inst_numbered, number_entry, numbers_defined, param_numbered, with_targets}
use Rattle.kernel_tree.specs.Names.{block_definition, defined_by, param_definition}
use Rattle.kernel_tree.specs.Numbered.{IsNumbered, bytes_of_entry, definition_count, name_bytes}
use Rattle.kernel_tree.proofs.AlignedNames.{definitions-aligned}
use Rattle.ll_canon.proofs.NumberedForms.{canonical-numbered, covered-distinct}
use Rattle.to_spirv.specs.SameKernels.{bare, bare_param, bare_inst}
use Rattle.kernel_reading.specs.CanonicalKernels.{IsCanonicalKernel}
use Rattle.to_llvm.specs.Guesses.{own_entry, name_count, kernel_with}

-- names of a canonical form have no places, and accesses have their alignments
params-bare : (ns : List ℕ) (params : List KernelParam) → map bare_param (map (param_numbered ns) params) ≡ map (param_numbered ns) params
params-bare ns [] = refl
params-bare ns (param ∷ params) = ap (λ (ps : List KernelParam). param_numbered ns param ∷ ps) (params-bare ns params)

insts-bare : (ns : List ℕ) (insts : List KernelInst)
    → map bare_inst (map (inst_numbered ns) (map inst_aligned insts)) ≡ map (inst_numbered ns) (map inst_aligned insts)
insts-bare ns [] = refl
insts-bare ns (Add sum left right ∷ insts) = ap (λ (is : List KernelInst). inst_numbered ns (Add sum left right) ∷ is) (insts-bare ns insts)
insts-bare ns (Load loaded pointer is_aligned ∷ insts) = ap (λ (is : List KernelInst). inst_numbered ns (Load loaded pointer true) ∷ is) (insts-bare ns insts)
insts-bare ns (Store value pointer is_aligned ∷ insts) = ap (λ (is : List KernelInst). inst_numbered ns (Store value pointer true) ∷ is) (insts-bare ns insts)

count-parts : (params : List Definition) (block : Definition) (results : List Definition)
    → length ((params ++ block ∷ []) ++ results) ≡ length params + 1 + length results
count-parts params block results = length-append (params ++ block ∷ []) results ∙ ap (λ (n : ℕ). n + length results) (length-append params (block ∷ []))

count-is : (kernel : Kernel) → definition_count kernel ≡ name_count kernel.params kernel.insts
count-is kernel =
    count-parts (map param_definition kernel.params) (block_definition kernel.block) (flat_map defined_by kernel.insts)
    ∙ ap (λ (n : ℕ). n + 1 + length (flat_map defined_by kernel.insts)) (length-map kernel.params param_definition)

module _ (kernel : Kernel) (is : IsCanonicalKernel kernel) where
  abbrev plain : Kernel
  plain = aligned (with_targets kernel)

  made : kernel ≡ canonical kernel
  made = sym is.its_own

  pub first-name : kernel.name.number ≡ 0
  first-name = ap (λ (k : Kernel). k.name.number) made

  own-entry : slice_get kernel.names kernel.name.number ≡ Some (own_entry is.own_name.bytes)
  own-entry = ap (slice_get kernel.names) first-name ∙ is.own_name.entry_is

  name-is : name_bytes kernel ≡ is.own_name.bytes
  name-is = ap bytes_of_entry own-entry

  params-are : map bare_param kernel.params ≡ kernel.params
  params-are =
      ap (λ (k : Kernel). map bare_param k.params) made ∙ (params-bare (numbers_defined plain) kernel.params ∙ ap (λ (k : Kernel). k.params) is.its_own)

  block-is : bare kernel.block ≡ kernel.block
  block-is = ap (λ (k : Kernel). bare k.block) made ∙ ap (λ (k : Kernel). k.block) is.its_own

  insts-are : map bare_inst kernel.insts ≡ kernel.insts
  insts-are =
      ap (λ (k : Kernel). map bare_inst k.insts) made ∙ (insts-bare (numbers_defined plain) kernel.insts ∙ ap (λ (k : Kernel). k.insts) is.its_own)

  names-are : own_entry is.own_name.bytes ∷ map number_entry (range_with_len 0 (name_count kernel.params kernel.insts)) ≡ kernel.names
  names-are =
      ap₂ (λ (entry : Option NameText) (count : ℕ). option_to_list entry ++ map number_entry (range_with_len 0 count)) (sym own-entry)
      (sym (count-is kernel) ∙ ap length (sym (definitions-aligned kernel)))
      ∙ ap (λ (k : Kernel). k.names) is.its_own

  whole : kernel_with is.own_name.bytes kernel.params kernel.block kernel.insts ≡ kernel
  whole =
      let targets : true ≡ kernel.has_targets = ap (λ (k : Kernel). k.has_targets) is.its_own in
      let name : record { number = 0; byte = 0 } ≡ kernel.name = ap (λ (k : Kernel). k.name) is.its_own in
      let names = names-are in
      λ i. record { has_targets = targets i; name = name i; params = kernel.params; block = kernel.block; insts = kernel.insts; names = names i }

  pub parts-whole : kernel_with (name_bytes kernel) (map bare_param kernel.params) (bare kernel.block) (map bare_inst kernel.insts) ≡ kernel
  parts-whole =
      ap (λ (text : List ℕ). kernel_with text (map bare_param kernel.params) (bare kernel.block) (map bare_inst kernel.insts)) name-is
      ∙ (ap (λ (params : List KernelParam). kernel_with is.own_name.bytes params (bare kernel.block) (map bare_inst kernel.insts)) params-are
      ∙ (ap (λ (block : Name). kernel_with is.own_name.bytes kernel.params block (map bare_inst kernel.insts)) block-is
      ∙ (ap (kernel_with is.own_name.bytes kernel.params kernel.block) insts-are ∙ whole)))

  pub kernel-numbered : IsNumbered kernel
  kernel-numbered = subst IsNumbered is.its_own (canonical-numbered kernel (covered-distinct kernel is.covered))
