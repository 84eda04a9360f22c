-- Kernels without the places of their names: all that is told of them is the same.
use Rattle.std.proofs.Common.{◌≡◌, ℕ, suc, zero, ◌+◌, Bool, true, false, ◌&&◌, cond, nat_eq, nat_lt, nat_le, List, [], ◌∷◌, ◌++◌, Option, None, Some, map, flat_map, length, slice_get, refl, sym, ◌∙◌, ap, ap₂}
use Rattle.std.specs.Prelude.{find}
use Rattle.std.specs.List.{range_with_len}
use Rattle.std.specs.Option.{option_map, option_to_list}
use Rattle.std.proofs.lemmas.List.{length-map, map-append}
use Rattle.inst_walk.specs.Places.{place_of}
use Rattle.ll_tree.specs.declared.name.Name.{Name}
use Rattle.kernel_tree.specs.declared.kernel.Kernel.{Kernel}
use Rattle.kernel_tree.specs.declared.kernel.KernelInst.{KernelInst}
use Rattle.kernel_tree.specs.declared.kernel.KernelInst.TheVariants.{Add, Load, Store}
use Rattle.kernel_tree.specs.declared.kernel.KernelParam.{KernelParam}
use Rattle.kernel_tree.specs.declared.kernel.ValueType.{ValueType}
use Rattle.kernel_tree.specs.declared.names.Definition.{Definition}
use Rattle.kernel_tree.specs.declared.names.Use.{Use}
use Rattle.kernel_tree.specs.Canonical.{canonical, inst_aligned, inst_numbered, number_entry, numbered_name, numbers_defined, param_numbered}
use Rattle.kernel_tree.specs.Covered.{are_distinct, first_undefined, has_type, in_sequence, is_covered, is_found, is_undefined, use_fits, used_byte, uses_fit}
use Rattle.kernel_tree.specs.Names.{block_definition, defined_above, defined_by, definitions, int_use, param_definition, pointer_use, used_by, uses}
use Rattle.kernel_tree.specs.Numbered.{number_defined}
use Rattle.kernel_tree.proofs.AlignedNames.{definitions-aligned}

abbrev pub bare_name : Name → Name
bare_name name = record { number = name.number; byte = 0 }

abbrev pub bare_param : KernelParam → KernelParam
bare_param param = record { value_type = param.value_type; name = bare_name param.name }

abbrev pub bare_inst : KernelInst → KernelInst
bare_inst (Add sum left right) = Add (bare_name sum) (bare_name left) (bare_name right)
bare_inst (Load loaded pointer is_aligned) = Load (bare_name loaded) (bare_name pointer) is_aligned
bare_inst (Store value pointer is_aligned) = Store (bare_name value) (bare_name pointer) is_aligned

abbrev pub bare : Kernel → Kernel
bare kernel = record {
  has_targets = kernel.has_targets;
  name = bare_name kernel.name;
  params = map bare_param kernel.params;
  block = bare_name kernel.block;
  insts = map bare_inst kernel.insts;
  names = kernel.names;
}

abbrev bare_definition : Definition → Definition
bare_definition d = record { name = bare_name d.name; value_type = d.value_type }

abbrev bare_use : Use → Use
bare_use u = record { name = bare_name u.name; value_type = u.value_type }

params-bare : (params : List KernelParam) → map param_definition (map bare_param params) ≡ map bare_definition (map param_definition params)
params-bare [] = refl
params-bare (param ∷ params) = ap (λ (ds : List Definition). param_definition (bare_param param) ∷ ds) (params-bare params)

results-bare : (insts : List KernelInst) → flat_map defined_by (map bare_inst insts) ≡ map bare_definition (flat_map defined_by insts)
results-bare [] = refl
results-bare (Add sum left right ∷ insts) = ap (λ (ds : List Definition). defined_by (bare_inst (Add sum left right)) ++ ds) (results-bare insts)
results-bare (Load loaded pointer is_aligned ∷ insts) = ap (λ (ds : List Definition). defined_by (bare_inst (Load loaded pointer is_aligned)) ++ ds) (results-bare insts)
results-bare (Store value pointer is_aligned ∷ insts) = results-bare insts

uses-bare : (insts : List KernelInst) → flat_map used_by (map bare_inst insts) ≡ map bare_use (flat_map used_by insts)
uses-bare [] = refl
uses-bare (Add sum left right ∷ insts) = ap (λ (us : List Use). used_by (bare_inst (Add sum left right)) ++ us) (uses-bare insts)
uses-bare (Load loaded pointer is_aligned ∷ insts) = ap (λ (us : List Use). used_by (bare_inst (Load loaded pointer is_aligned)) ++ us) (uses-bare insts)
uses-bare (Store value pointer is_aligned ∷ insts) = ap (λ (us : List Use). used_by (bare_inst (Store value pointer is_aligned)) ++ us) (uses-bare insts)

definitions-bare : (kernel : Kernel) → definitions (bare kernel) ≡ map bare_definition (definitions kernel)
definitions-bare kernel =
    ap₂ (λ (ps : List Definition) (rs : List Definition). (ps ++ (block_definition (bare_name kernel.block) ∷ [])) ++ rs) (params-bare kernel.params) (results-bare kernel.insts)
    ∙ sym (map-append bare_definition (defined_above kernel) (flat_map defined_by kernel.insts)
    ∙ ap (λ (ds : List Definition). ds ++ map bare_definition (flat_map defined_by kernel.insts)) (map-append bare_definition (map param_definition kernel.params) (block_definition kernel.block ∷ [])))

numbers-same : (ds : List Definition) → map number_defined (map bare_definition ds) ≡ map number_defined ds
numbers-same [] = refl
numbers-same (d ∷ ds) = ap (λ (ns : List ℕ). number_defined d ∷ ns) (numbers-same ds)

numbers-bare : (kernel : Kernel) → numbers_defined (bare kernel) ≡ numbers_defined kernel
numbers-bare kernel = ap (map number_defined) (definitions-bare kernel) ∙ numbers-same (definitions kernel)

types-bare : (wanted : ValueType) (ds : List Definition) (p : ℕ) → has_type wanted (slice_get (map bare_definition ds) p) ≡ has_type wanted (slice_get ds p)
types-bare wanted [] p = refl
types-bare wanted (d ∷ ds) zero = refl
types-bare wanted (d ∷ ds) (suc p) = types-bare wanted ds p

found-bare : (ds : List Definition) (above : ℕ) (wanted : ValueType) (place : Option ℕ) → is_found (map bare_definition ds) above wanted place ≡ is_found ds above wanted place
found-bare ds above wanted None = refl
found-bare ds above wanted (Some p) = ap (λ (b : Bool). nat_lt p above && b) (types-bare wanted ds p)

use-bare : (ds : List Definition) (above : ℕ) (u : Use) → use_fits (map bare_definition ds) above (bare_use u) ≡ use_fits ds above u
use-bare ds above u =
    ap (λ (ns : List ℕ). is_found (map bare_definition ds) above u.value_type (place_of nat_eq ns u.name.number)) (numbers-same ds)
    ∙ found-bare ds above u.value_type (place_of nat_eq (map number_defined ds) u.name.number)

fits-bare : (ds : List Definition) (above : ℕ) (insts : List KernelInst) → uses_fit (map bare_definition ds) above (map bare_inst insts) ≡ uses_fit ds above insts
fits-bare ds above [] = refl
fits-bare ds above (Add sum left right ∷ insts) =
    ap₂ (λ (a b : Bool). a && b) (ap₂ (λ (a b : Bool). a && (b && true)) (use-bare ds above (int_use left)) (use-bare ds above (int_use right))) (fits-bare ds (above + 1) insts)
fits-bare ds above (Load loaded pointer is_aligned ∷ insts) =
    ap₂ (λ (a b : Bool). a && b) (ap (λ (a : Bool). a && true) (use-bare ds above (pointer_use pointer))) (fits-bare ds (above + 1) insts)
fits-bare ds above (Store value pointer is_aligned ∷ insts) =
    ap₂ (λ (a b : Bool). a && b) (ap₂ (λ (a b : Bool). a && (b && true)) (use-bare ds above (int_use value)) (use-bare ds above (pointer_use pointer))) (fits-bare ds (above + 0) insts)

pub covered-bare : (kernel : Kernel) → is_covered (bare kernel) ≡ is_covered kernel
covered-bare kernel =
    ap₂ (λ (a b : Bool). a && b) (ap (λ (n : ℕ). nat_le n 255) (length-map kernel.params bare_param))
    (ap₂ (λ (a b : Bool). a && b) (ap are_distinct (numbers-bare kernel))
    (ap₂ (λ (a b : Bool). a && b) (ap (in_sequence kernel.names 0) (numbers-bare kernel))
    (ap₂ (λ (ds : List Definition) (n : ℕ). uses_fit ds (n + 1) (map bare_inst kernel.insts)) (definitions-bare kernel) (length-map kernel.params bare_param)
    ∙ fits-bare (definitions kernel) (length kernel.params + 1) kernel.insts)))

-- no name is undefined, in both or in neither
bare-then : (b : Bool) (ns : List ℕ) (u : Use) (us : List Use)
    → (option_map used_byte (find (is_undefined ns) us) ≡ None → option_map used_byte (find (is_undefined ns) (map bare_use us)) ≡ None)
    → option_map used_byte (cond b (Some u) (find (is_undefined ns) us)) ≡ None → option_map used_byte (cond b (Some (bare_use u)) (find (is_undefined ns) (map bare_use us))) ≡ None
bare-then true ns u us rest none = absurd cc
bare-then false ns u us rest none = rest none

none-then-bare : (ns : List ℕ) (us : List Use) → option_map used_byte (find (is_undefined ns) us) ≡ None → option_map used_byte (find (is_undefined ns) (map bare_use us)) ≡ None
none-then-bare ns [] none = refl
none-then-bare ns (u ∷ us) none = bare-then (is_undefined ns u) ns u us (none-then-bare ns us) none

then-full : (b : Bool) (ns : List ℕ) (u : Use) (us : List Use)
    → (option_map used_byte (find (is_undefined ns) (map bare_use us)) ≡ None → option_map used_byte (find (is_undefined ns) us) ≡ None)
    → option_map used_byte (cond b (Some (bare_use u)) (find (is_undefined ns) (map bare_use us))) ≡ None → option_map used_byte (cond b (Some u) (find (is_undefined ns) us)) ≡ None
then-full true ns u us rest none = absurd cc
then-full false ns u us rest none = rest none

bare-none-then : (ns : List ℕ) (us : List Use) → option_map used_byte (find (is_undefined ns) (map bare_use us)) ≡ None → option_map used_byte (find (is_undefined ns) us) ≡ None
bare-none-then ns [] none = refl
bare-none-then ns (u ∷ us) none = then-full (is_undefined ns u) ns u us (bare-none-then ns us) none

undefined-bare : (kernel : Kernel) → first_undefined (bare kernel) ≡ option_map used_byte (find (is_undefined (numbers_defined kernel)) (map bare_use (uses kernel)))
undefined-bare kernel =
    ap₂ (λ (ns : List ℕ) (us : List Use). option_map used_byte (find (is_undefined ns) us)) (numbers-bare kernel) (uses-bare kernel.insts)

pub defined-then-bare : (kernel : Kernel) → first_undefined kernel ≡ None → first_undefined (bare kernel) ≡ None
defined-then-bare kernel none = undefined-bare kernel ∙ none-then-bare (numbers_defined kernel) (uses kernel) none

pub bare-defined-then : (kernel : Kernel) → first_undefined (bare kernel) ≡ None → first_undefined kernel ≡ None
bare-defined-then kernel none = bare-none-then (numbers_defined kernel) (uses kernel) (sym (undefined-bare kernel) ∙ none)

-- the canonical form, by the numbers that are defined and how many there are
abbrev form_by : Kernel → List ℕ → ℕ → Kernel
form_by kernel ns count = record {
  has_targets = true;
  name = record { number = 0; byte = 0 };
  params = map (param_numbered ns) kernel.params;
  block = numbered_name ns kernel.block;
  insts = map (inst_numbered ns) (map inst_aligned kernel.insts);
  names = option_to_list (slice_get kernel.names kernel.name.number) ++ map number_entry (range_with_len 0 count);
}

form-is : (kernel : Kernel) → canonical kernel ≡ form_by kernel (numbers_defined kernel) (length (definitions kernel))
form-is kernel = ap (λ (ds : List Definition). form_by kernel (map number_defined ds) (length ds)) (definitions-aligned kernel)

params-form : (ns : List ℕ) (params : List KernelParam) → map (param_numbered ns) (map bare_param params) ≡ map (param_numbered ns) params
params-form ns [] = refl
params-form ns (param ∷ params) = ap (λ (ps : List KernelParam). param_numbered ns param ∷ ps) (params-form ns params)

insts-form : (ns : List ℕ) (insts : List KernelInst) → map (inst_numbered ns) (map inst_aligned (map bare_inst insts)) ≡ map (inst_numbered ns) (map inst_aligned insts)
insts-form ns [] = refl
insts-form ns (Add sum left right ∷ insts) = ap (λ (is : List KernelInst). inst_numbered ns (Add sum left right) ∷ is) (insts-form ns insts)
insts-form ns (Load loaded pointer is_aligned ∷ insts) = ap (λ (is : List KernelInst). inst_numbered ns (Load loaded pointer true) ∷ is) (insts-form ns insts)
insts-form ns (Store value pointer is_aligned ∷ insts) = ap (λ (is : List KernelInst). inst_numbered ns (Store value pointer true) ∷ is) (insts-form ns insts)

abbrev with_parts : Kernel → ℕ → List ℕ → List KernelParam → List KernelInst → Kernel
with_parts kernel count ns params insts = record {
  has_targets = true;
  name = record { number = 0; byte = 0 };
  params = params;
  block = numbered_name ns kernel.block;
  insts = insts;
  names = option_to_list (slice_get kernel.names kernel.name.number) ++ map number_entry (range_with_len 0 count);
}

pub canonical-bare : (kernel : Kernel) → canonical (bare kernel) ≡ canonical kernel
canonical-bare kernel =
    form-is (bare kernel)
    ∙ (ap₂ (form_by (bare kernel)) (numbers-bare kernel) (ap length (definitions-bare kernel) ∙ length-map (definitions kernel) bare_definition)
    ∙ (ap₂ (with_parts kernel (length (definitions kernel)) (numbers_defined kernel)) (params-form (numbers_defined kernel) kernel.params) (insts-form (numbers_defined kernel) kernel.insts)
    ∙ sym (form-is kernel)))
