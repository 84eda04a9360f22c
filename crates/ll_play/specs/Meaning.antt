-- The meaning of a module of text: its steps, and the runs of its kernels (LLVM 14, Module Structure; Functions).
use Rattle.std.specs.Prelude.{ℕ, suc, ◌&&◌, Bool, cond, List, [], ◌∷◌, length, map, zip, slice_get, is_some, Option, Some, None, option_map, unwrap_or}
use Rattle.std.specs.Str.{bytes_eq}
use Rattle.inst_walk.specs.declared.body.Body.{Body}
use Rattle.kern_lanes.specs.declared.width.Width.TheVariants.{W1}
use Rattle.kern_events.specs.declared.item.Inputs.{Inputs}
use Rattle.kern_runs.specs.Runs.{Run}
use Rattle.kern_runs.specs.Machines.{run}
use Rattle.ll_tree.specs.declared.inst.Inst.{Inst}
use Rattle.ll_tree.specs.declared.module.Function.{Function}
use Rattle.ll_tree.specs.declared.module.LlModule.{LlModule}
use Rattle.ll_tree.specs.declared.module.Param.{Param}
use Rattle.ll_tree.specs.declared.name.NameText.{NameText}
use Rattle.ll_tree.specs.declared.name.Spelling.{Spelling}
use Rattle.ll_tree.specs.declared.name.Spelling.TheVariants.{Number, Text}
use Rattle.kern_acts.specs.Shapes.{Shape}
use Rattle.kern_acts.specs.Acts.{Act}
use Rattle.kern_acts.specs.States.{Frame, State, Parameter, started}
use Rattle.kern_acts.specs.Steps.{Program, Step, step, machine}
use Rattle.kern_acts.specs.Bodies.{program_of}
use Rattle.ll_play.specs.Types.{shape_of}
use Rattle.ll_play.specs.Acts.{act_of}

-- a variable of the module waits while fewer are placed than stand in the module up to it
abbrev pub is_placing : LlModule → State → Bool
is_placing m state = is_some (slice_get m.variables (length state.placed))

abbrev pub inst_act : State → Frame → Inst → Option Act
inst_act state frame inst = act_of frame inst.defines inst.op

-- the module as steps see it. Its size is the number of its instructions; constant expressions, which would count too, aren't covered.
abbrev pub llvm_program : LlModule → Program
llvm_program m = program_of m.bodies (is_placing m) inst_act

-- a step: none where the state is over, or at an instruction that isn't covered; else an event or none, and the next state
unfoldable pub llvm_step : LlModule → State → Option Step
llvm_step m state = step (llvm_program m) state

-- the bytes of a name, none of a name that is a number
abbrev pub bytes_of : Spelling → List ℕ
bytes_of (Number number) = []
bytes_of (Text bytes) = bytes

abbrev pub entry_bytes : Option NameText → List ℕ
entry_bytes None = []
entry_bytes (Some entry) = bytes_of entry.spelling

abbrev pub name_bytes : List NameText → ℕ → List ℕ
name_bytes table number = entry_bytes (slice_get table number)

-- whether the function is a kernel of this name
abbrev pub is_kernel_named : List NameText → List ℕ → Function → Bool
is_kernel_named table name function = function.head.is_kernel && bytes_eq (name_bytes table function.head.name.number) name

-- a value without lanes, as one of a type that isn't covered here counts
abbrev pub no_lanes : Shape
no_lanes = record { width = W1; count = 0 }

abbrev pub parameter_of : ℕ × Param → Parameter
parameter_of given = record { name = given.0; shape = unwrap_or (shape_of given.1.ty) no_lanes }

abbrev pub parameters_of : Function → Body Inst ℕ → List Parameter
parameters_of function body = map parameter_of (zip body.params function.head.params)

-- the first kernel of this name, of those from a place on, at its start
abbrev pub start_among : List NameText → List ℕ → Inputs → ℕ → List Function → List (Body Inst ℕ) → Option State
start_among table name inputs place (function ∷ functions) (body ∷ bodies) =
    cond (is_kernel_named table name function) (Some (started place (parameters_of function body) inputs))
    (start_among table name inputs (suc place) functions bodies)
start_among table name inputs place functions bodies = None

-- the state in which the kernel of this name starts, none where there is no such kernel
unfoldable pub llvm_start : LlModule → List ℕ → Inputs → Option State
llvm_start m name inputs = start_among m.names name inputs 0 m.functions m.bodies

-- what the first so many steps of the kernel of this name show, none where there is no such kernel
unfoldable pub llvm_run : LlModule → List ℕ → Inputs → ℕ → Option Run
llvm_run m name inputs steps = option_map (λ state. run (machine (llvm_program m)) state steps) (llvm_start m name inputs)
