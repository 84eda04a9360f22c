-- No text is in two of the tables of names
use Rattle.std.proofs.Common.{◌≡◌, ℕ, List, Option, Some, None, sym, ap, ◌∙◌, refl}
use Rattle.std.specs.List.{find}
use Rattle.std.specs.Str.{bytes_eq}
use Rattle.std.proofs.lemmas.Slice.Eq.{bytes_eq-Decides}
use Rattle.ocl_names.specs.declared.barrier.BarrierCall.{BarrierCall}
use Rattle.ocl_names.specs.declared.barrier.BarrierFunction.{BarrierFunction}
use Rattle.ocl_names.specs.declared.barrier.BarrierFunction.TheVariants.{Barrier, WorkGroupBarrier, WorkGroupBarrierInScope, ControlBarrier, MemFence, ReadMemFence, WriteMemFence}
use Rattle.ocl_names.specs.declared.work_item.BuiltIn.{BuiltIn}
use Rattle.ocl_names.specs.declared.work_item.BuiltIn.TheVariants.{NumWorkgroups, WorkgroupSize, WorkgroupId, LocalInvocationId, GlobalInvocationId, LocalInvocationIndex, WorkDim, GlobalSize, EnqueuedWorkgroupSize, GlobalOffset, GlobalLinearId}
use Rattle.ocl_names.specs.WorkItems.{builtin_number, function_text as work_item_text, builtins, builtin_of}
use Rattle.ocl_names.specs.Barriers.{function_text as barrier_text, call_of, functions as barriers, barrier_of}
use Rattle.ocl_names.specs.Atomics.{atomic_of}
use Rattle.ocl_names.specs.Laws.{TablesAreDisjoint}
use Rattle.ocl_names.proofs.SearchLemmas.{find_passes, option_map_some}

-- no work-item function has the name of a barrier or an atomic
work_item : (b : BuiltIn) → (barrier_of (work_item_text b) ≡ None) × (atomic_of (work_item_text b) ≡ None)
unfolding barrier_of atomic_of
work_item NumWorkgroups = (refl, refl)
work_item WorkgroupSize = (refl, refl)
work_item WorkgroupId = (refl, refl)
work_item LocalInvocationId = (refl, refl)
work_item GlobalInvocationId = (refl, refl)
work_item LocalInvocationIndex = (refl, refl)
work_item WorkDim = (refl, refl)
work_item GlobalSize = (refl, refl)
work_item EnqueuedWorkgroupSize = (refl, refl)
work_item GlobalOffset = (refl, refl)
work_item GlobalLinearId = (refl, refl)

-- no barrier or fence has that of a work-item function or an atomic
barrier : (f : BarrierFunction) → (builtin_of (barrier_text f) ≡ None) × (atomic_of (barrier_text f) ≡ None)
unfolding builtin_of atomic_of
barrier Barrier = (refl, refl)
barrier WorkGroupBarrier = (refl, refl)
barrier WorkGroupBarrierInScope = (refl, refl)
barrier ControlBarrier = (refl, refl)
barrier MemFence = (refl, refl)
barrier ReadMemFence = (refl, refl)
barrier WriteMemFence = (refl, refl)

of_work_item : (text : List ℕ) (number : ℕ) → builtin_of text ≡ Some number → (barrier_of text ≡ None) × (atomic_of text ≡ None)
unfolding builtin_of
of_work_item text number e =
    option_map_some builtin_number (find (λ b. bytes_eq (work_item_text b) text) builtins) number e
    (λ b found same.
    let passes = find_passes (λ b. bytes_eq (work_item_text b) text) builtins b found in
    let named : text ≡ work_item_text b = sym ((bytes_eq-Decides (work_item_text b) text).0 passes) in
    (ap barrier_of named ∙ (work_item b).0, ap atomic_of named ∙ (work_item b).1))

of_barrier : (text : List ℕ) (call : BarrierCall) → barrier_of text ≡ Some call → (builtin_of text ≡ None) × (atomic_of text ≡ None)
unfolding barrier_of
of_barrier text call e =
    option_map_some call_of (find (λ f. bytes_eq (barrier_text f) text) barriers) call e
    (λ f found same.
    let passes = find_passes (λ f. bytes_eq (barrier_text f) text) barriers f found in
    let named : text ≡ barrier_text f = sym ((bytes_eq-Decides (barrier_text f) text).0 passes) in
    (ap builtin_of named ∙ (barrier f).0, ap atomic_of named ∙ (barrier f).1))

-- what is not in one table where it is in another
absent : {A B : Type 0} (call : B) (r : Option A) (s : Option B) → s ≡ Some call → ((x : A) → r ≡ Some x → s ≡ None) → r ≡ None
absent call None s e other = refl
absent call (Some x) s e other = let none : s ≡ None = other x refl in absurd (cc)

pub disjoint : TablesAreDisjoint
disjoint = record {
  of_work_item = of_work_item;
  of_barrier = of_barrier;
  of_atomic = λ text call e. (
    absent call (builtin_of text) (atomic_of text) e (λ number found. (of_work_item text number found).1),
    absent call (barrier_of text) (atomic_of text) e (λ other found. (of_barrier text other found).1),
  );
}
