-- The module of text that a kernel is does what the kernel's instructions do.
use Rattle.std.proofs.Common.{◌≡◌, ℕ, zero, suc, true, false, cond, List, [], ◌∷◌, ◌++◌, Some, None, map, zip, slice_get, sym, ◌∙◌, ap, ap₂, refl}
use Rattle.std.specs.Prelude.{Option, unwrap_or}
use Rattle.std.specs.Str.{bytes_eq}
use Rattle.inst_walk.specs.RenamedBody.{IsInjectiveOn}
use Rattle.kern_types.specs.Layouts.{◌>>=◌}
use Rattle.kern_events.specs.declared.item.Inputs.{Inputs}
use Rattle.kern_acts.specs.Acts.{Return}
use Rattle.kern_acts.specs.Shapes.{Shape}
use Rattle.kern_acts.specs.States.{Values, Parameter, started}
use Rattle.ll_tree.specs.declared.inst.Inst.{Inst}
use Rattle.ll_tree.specs.declared.name.NameText.{NameText}
use Rattle.ll_tree.specs.declared.name.Spelling.{Spelling}
use Rattle.ll_tree.specs.declared.name.Spelling.TheVariants.{Number, Text}
use Rattle.ll_play.specs.Types.{shape_of}
use Rattle.ll_play.specs.Acts.{act_of}
use Rattle.ll_play.specs.Meaning as meaning
use Rattle.kernel_tree.specs.declared.kernel.Kernel.{Kernel}
use Rattle.kernel_tree.specs.declared.kernel.KernelInst.{KernelInst}
use Rattle.kernel_tree.specs.declared.kernel.KernelInst.TheVariants as inst
use Rattle.kernel_tree.specs.declared.kernel.KernelParam.{KernelParam}
use Rattle.kernel_tree.specs.declared.kernel.ValueType.{ValueType}
use Rattle.kernel_tree.specs.declared.kernel.ValueType.TheVariants.{Int, Pointer}
use Rattle.kernel_tree.specs.Modules.{text_module, instruction, end_of_block, parameter, type_of}
use Rattle.kernel_tree.specs.Numbered.{name_bytes, bytes_of_entry}
use Rattle.kernel_runs.specs.Images.{same_number, inst_plain, param_plain}
use Rattle.kernel_runs.specs.Names.{value_numbers}
use Rattle.kernel_runs.proofs.Plays.{Plays, kernel_act, frame_at}
use Rattle.kernel_runs.proofs.Starts.{value_shape, kernel_parameter, kernel_start, map-map, map-same}

-- the act of an instruction, by its kind and whether its alignment is written
inst-act : (position : ℕ) (values : Values) (i : KernelInst)
    → act_of (frame_at position values) (instruction i).defines (instruction i).op ≡ Some (kernel_act same_number values i)
inst-act position values (inst.Add sum left right) = refl
inst-act position values (inst.Load loaded pointer true) = refl
inst-act position values (inst.Load loaded pointer false) = refl
inst-act position values (inst.Store value pointer true) = refl
inst-act position values (inst.Store value pointer false) = refl

acts-at : (at : ℕ) (values : Values) (is : List KernelInst) (position : ℕ)
    → (slice_get (map instruction is ++ end_of_block ∷ []) position >>= λ (i : Inst). act_of (frame_at at values) i.defines i.op)
    ≡ slice_get (map (kernel_act same_number values) is ++ Return ∷ []) position
acts-at at values [] zero = refl
acts-at at values [] (suc position) = refl
acts-at at values (i ∷ is) zero = inst-act at values i
acts-at at values (i ∷ is) (suc position) = acts-at at values is position

plain-act : (f : ℕ → ℕ) (values : Values) (i : KernelInst) → kernel_act f values i ≡ kernel_act same_number values (inst_plain f i)
plain-act f values (inst.Add sum left right) = refl
plain-act f values (inst.Load loaded pointer is_aligned) = refl
plain-act f values (inst.Store value pointer is_aligned) = refl

-- all acts, by the plain instructions
plain-acts : (f : ℕ → ℕ) (values : Values) (is : List KernelInst) → map (kernel_act f values) is ≡ map (kernel_act same_number values) (map (inst_plain f) is)
plain-acts f values is =
    map-same (kernel_act f values) (λ i. kernel_act same_number values (inst_plain f i)) (plain-act f values) is
    ∙ sym (map-map (kernel_act same_number values) (inst_plain f) is)

-- the module of a kernel does what another kernel with its instructions does
pub text-plays : (kernel : Kernel) (f : ℕ → ℕ) (renamed : Kernel) → IsInjectiveOn f (value_numbers kernel)
    → map (inst_plain same_number) renamed.insts ≡ map (inst_plain f) kernel.insts → Plays kernel f (meaning.llvm_program (text_module renamed))
text-plays kernel f renamed injective insts = record {
  injective = injective;
  waits = λ s. refl;
  acts = λ s position values.
      let same : map (kernel_act same_number values) renamed.insts ≡ map (kernel_act f values) kernel.insts =
      plain-acts same_number values renamed.insts ∙ (ap (map (kernel_act same_number values)) insts ∙ sym (plain-acts f values kernel.insts)) in
      acts-at position values renamed.insts position ∙ ap (λ acts. slice_get (acts ++ Return ∷ []) position) same;
}

-- the bytes of a name
bytes-same : (entry : Option NameText) → meaning.entry_bytes entry ≡ bytes_of_entry entry
bytes-same None = refl
bytes-same (Some entry) = by_spelling entry.spelling
  where
    by_spelling : (s : Spelling) → meaning.bytes_of s ≡ bytes_of_entry (Some (record entry { spelling = s }))
    by_spelling (Number n) = refl
    by_spelling (Text bytes) = refl

shape-text : (t : ValueType) → unwrap_or (shape_of (type_of t)) meaning.no_lanes ≡ value_shape t
shape-text Int = refl
shape-text Pointer = refl

params-text : (params : List KernelParam)
    → map meaning.parameter_of (zip (map (λ (p : KernelParam). p.name.number) params) (map parameter params)) ≡ map (kernel_parameter same_number) params
params-text [] = refl
params-text (param ∷ params) =
    let made : Shape → Parameter = λ shape. record { name = param.name.number; shape = shape } in
    ap₂ (λ first more. first ∷ more) (ap made (shape-text param.value_type)) (params-text params)

plain-params : (f : ℕ → ℕ) (params : List KernelParam) → map (kernel_parameter f) params ≡ map (kernel_parameter same_number) (map (param_plain f) params)
plain-params f params = sym (map-map (kernel_parameter same_number) (param_plain f) params)

-- where the module of a kernel starts, under the names of another kernel with its parameters
pub text-start : (kernel : Kernel) (f : ℕ → ℕ) (renamed : Kernel) → name_bytes renamed ≡ name_bytes kernel
    → map (param_plain same_number) renamed.params ≡ map (param_plain f) kernel.params → (name : List ℕ) (inputs : Inputs)
    → meaning.llvm_start (text_module renamed) name inputs ≡ cond (bytes_eq (name_bytes kernel) name) (Some (kernel_start kernel f inputs)) None
unfolding meaning.llvm_start
text-start kernel f renamed bytes params name inputs =
    let same : map meaning.parameter_of (zip (map (λ (p : KernelParam). p.name.number) renamed.params) (map parameter renamed.params)) ≡ map (kernel_parameter f) kernel.params =
    params-text renamed.params ∙ (plain-params same_number renamed.params ∙ (ap (map (kernel_parameter same_number)) params ∙ sym (plain-params f kernel.params))) in
    ap₂ (λ text ps. cond (bytes_eq text name) (Some (started 0 ps inputs)) None) (bytes-same (slice_get renamed.names renamed.name.number) ∙ bytes) same
