-- The instructions of a kernel's module, whose types are one of four lists.
use Rattle.std.proofs.Common.{ℕ, Bool, List, refl, subst, sym}
use Rattle.std.specs.List.{list_any}
use Rattle.spv_codec.specs.declared.module.RawInst.{RawInst}
use Rattle.spv_module.specs.Sections.{sections}
use Rattle.kernel_tree.specs.declared.kernel.Kernel.{Kernel}
use Rattle.kernel_tree.specs.declared.kernel.KernelParam.{KernelParam}
use Rattle.to_spirv.specs.ClosedTypes.{has_value, ids_by, needed_where, takes_pointer}
use Rattle.to_spirv.specs.KernelTypes.{row_of_params}
use Rattle.to_spirv.specs.Partner.{partner}
use Rattle.to_spirv.proofs.LimitLemmas.{partner-parts}
use Rattle.to_spirv.proofs.SectionLemmas.{all_insts, param_type_ids, type_insts}

-- where a parameter is a pointer, where there are these parameters, and where an instruction has a value
abbrev pub insts_of : Bool → List KernelParam → Bool → List ℕ → Kernel → List RawInst
insts_of pointer params value types kernel =
    all_insts (ids_by (needed_where pointer params value)) (type_insts (needed_where pointer params value) types) kernel

-- what holds of these holds of the module
pub of-sections : (P : List RawInst → Type 0) (kernel : Kernel)
    → ((pointer : Bool) (params : List KernelParam) (value : Bool) (types : List ℕ) → P (insts_of pointer params value types kernel)) → P (sections (partner kernel))
of-sections P kernel holds =
    subst P (sym (partner-parts kernel (needed_where (list_any takes_pointer kernel.params) kernel.params (list_any has_value kernel.insts)) refl))
    (holds (list_any takes_pointer kernel.params) kernel.params (list_any has_value kernel.insts)
    (param_type_ids (needed_where (list_any takes_pointer kernel.params) kernel.params (list_any has_value kernel.insts)) (row_of_params kernel.params) (row_of_params kernel.params)))
