-- A kernel that is made part by part is the canonical form.
use Rattle.std.proofs.Common.{◌≡◌, ℕ, ◌+◌, true, List, [], ◌∷◌, ◌++◌, map, length, slice_get, sym, ◌∙◌, ap, arith, append_assoc}
use Rattle.std.proofs.lemmas.List.{length-map}
use Rattle.std.proofs.lemmas.List.FromFn.{map-range_with_len_more}
use Rattle.std.specs.List.{range_with_len}
use Rattle.std.specs.Option.{option_to_list}
use Rattle.ll_tree.specs.declared.name.Name.{Name}
use Rattle.ll_tree.specs.declared.name.NameText.{NameText}
use Rattle.kernel_tree.specs.declared.kernel.Kernel.{Kernel}
use Rattle.kernel_tree.specs.declared.kernel.KernelInst.{KernelInst}
use Rattle.kernel_tree.specs.declared.kernel.KernelParam.{KernelParam}
use Rattle.kernel_tree.specs.declared.names.Definition.{Definition}
use Rattle.kernel_tree.specs.Canonical.{canonical, inst_aligned, inst_numbered, number_entry, numbered_name, numbers_defined, param_numbered}
use Rattle.kernel_tree.specs.Names.{definitions}
use Rattle.kernel_tree.specs.Numbered.{number_defined}
use Rattle.kernel_tree.proofs.AlignedNames.{definitions-aligned}

abbrev pub names_with : Kernel → ℕ → List NameText
names_with kernel count = option_to_list (slice_get kernel.names kernel.name.number) ++ map number_entry (range_with_len 0 count)

abbrev pub kernel_of : List KernelParam → Name → List KernelInst → List NameText → Kernel
kernel_of params block insts names =
    record { has_targets = true; name = record { number = 0; byte = 0 }; params = params; block = block; insts = insts; names = names }

abbrev form_by : Kernel → List ℕ → ℕ → Kernel
form_by kernel numbers count =
    kernel_of (map (param_numbered numbers) kernel.params) (numbered_name numbers kernel.block)
    (map (inst_numbered numbers) (map inst_aligned kernel.insts)) (names_with kernel count)

pub form-is : (kernel : Kernel) → canonical kernel ≡ form_by kernel (numbers_defined kernel) (length (definitions kernel))
form-is kernel = ap (λ (ds : List Definition). form_by kernel (map number_defined ds) (length ds)) (definitions-aligned kernel)

pub parts-are : (params params' : List KernelParam) (block block' : Name) (insts insts' : List KernelInst) (names names' : List NameText)
    → params ≡ params' → block ≡ block' → insts ≡ insts' → names ≡ names' → kernel_of params block insts names ≡ kernel_of params' block' insts' names'
parts-are params params' block block' insts insts' names names' p b i n =
    ap (λ x. kernel_of x block insts names) p ∙ (ap (λ x. kernel_of params' x insts names) b ∙ (ap (λ x. kernel_of params' block' x names) i ∙ ap (kernel_of params' block' insts') n))

pub canonical-made : (kernel : Kernel) (numbers : List ℕ) (params : List KernelParam) (block : Name) (insts : List KernelInst) (names : List NameText)
    → numbers ≡ numbers_defined kernel → params ≡ map (param_numbered numbers) kernel.params → block ≡ numbered_name numbers kernel.block
    → insts ≡ map (inst_numbered numbers) (map inst_aligned kernel.insts) → names ≡ names_with kernel (length numbers)
    → kernel_of params block insts names ≡ canonical kernel
canonical-made kernel numbers params block insts names are p b i n =
    parts-are _ _ _ _ _ _ _ _ p b i n
    ∙ (ap (λ (ns : List ℕ). form_by kernel ns (length ns)) are
    ∙ (ap (form_by kernel (numbers_defined kernel)) (length-map (definitions kernel) number_defined) ∙ sym (form-is kernel)))

-- a table with one number more
pub number-more : (start before after : List NameText) (n m : ℕ) → m ≡ n → before ≡ start ++ map number_entry (range_with_len 0 n)
    → after ≡ before ++ number_entry m ∷ [] → after ≡ start ++ map number_entry (range_with_len 0 (n + 1))
number-more start before after n m same had pushed =
    pushed ∙ (ap (λ x. before ++ number_entry x ∷ []) same ∙ (ap (λ x. x ++ number_entry n ∷ []) had
    ∙ (append_assoc start (map number_entry (range_with_len 0 n)) (number_entry n ∷ [])
    ∙ ap (λ x. start ++ x) (sym (map-range_with_len_more number_entry 0 n n (omega arith))))))
