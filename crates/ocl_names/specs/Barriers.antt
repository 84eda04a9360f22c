-- The barriers and fences and their names (OpenCL C 1.2, 6.12.8 and 6.12.9; OpenCL C 2.0, 6.13.8; SPIR-V 1.2,
-- 3.32.20)
use Rattle.std.specs.Prelude.{ℕ, List, [], ◌∷◌, codes, Option}
use Rattle.std.specs.List.{find}
use Rattle.std.specs.Option.{option_map}
use Rattle.std.specs.Str.{bytes_eq}
use Rattle.ocl_names.specs.Mangling.{mangled}
use Rattle.ocl_names.specs.declared.ordering.Ordering.TheVariants.{Acquire, Release, AcquireRelease}
use Rattle.ocl_names.specs.declared.barrier.BarrierCall.{BarrierCall}
use Rattle.ocl_names.specs.declared.barrier.BarrierCall.TheVariants.{Flags, FlagsScope, Words, Fence}
use Rattle.ocl_names.specs.declared.barrier.BarrierFunction.{BarrierFunction}
use Rattle.ocl_names.specs.declared.barrier.BarrierFunction.TheVariants.{Barrier, WorkGroupBarrier, WorkGroupBarrierInScope, ControlBarrier, MemFence, ReadMemFence, WriteMemFence}

-- the mangled name of a barrier or fence
abbrev pub function_text : BarrierFunction → List ℕ
function_text Barrier = mangled (codes "barrier") (codes "j")
function_text WorkGroupBarrier = mangled (codes "work_group_barrier") (codes "j")
function_text WorkGroupBarrierInScope = mangled (codes "work_group_barrier") (codes "j12memory_scope")
function_text ControlBarrier = mangled (codes "__spirv_ControlBarrier") (codes "jjj")
function_text MemFence = mangled (codes "mem_fence") (codes "j")
function_text ReadMemFence = mangled (codes "read_mem_fence") (codes "j")
function_text WriteMemFence = mangled (codes "write_mem_fence") (codes "j")

-- what it is called with
abbrev pub call_of : BarrierFunction → BarrierCall
call_of Barrier = Flags
call_of WorkGroupBarrier = Flags
call_of WorkGroupBarrierInScope = FlagsScope
call_of ControlBarrier = Words
call_of MemFence = Fence AcquireRelease
call_of ReadMemFence = Fence Acquire
call_of WriteMemFence = Fence Release

-- all of them
abbrev pub functions : List BarrierFunction
functions =
    Barrier ∷ WorkGroupBarrier ∷ WorkGroupBarrierInScope ∷ ControlBarrier ∷ MemFence ∷ ReadMemFence ∷ WriteMemFence ∷ []

-- the barrier or fence of a name, if it is one of these
unfoldable pub barrier_of : List ℕ → Option BarrierCall
barrier_of text = option_map call_of (find (λ f. bytes_eq (function_text f) text) functions)
