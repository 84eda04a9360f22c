-- The meaning of the module of a binary: its steps, and the runs of its entry points (SPIR-V 1.2, 2.4 "Logical Layout of a Module";
-- OpEntryPoint).
use Rattle.std.specs.Prelude.{ℕ, suc, ◌==◌, Bool, true, false, cond, List, [], ◌∷◌, length, map, filter, slice_get, find, is_some, Option, Some, None, option_map, unwrap_or}
use Rattle.std.specs.Str.{bytes_eq}
use Rattle.kern_lanes.specs.declared.width.Width.TheVariants.{W1}
use Rattle.kern_types.specs.declared.class.Class.{Class}
use Rattle.kern_types.specs.declared.class.Class.TheVariants as class
use Rattle.kern_types.specs.Layouts.{◌>>=◌}
use Rattle.kern_events.specs.declared.item.Inputs.{Inputs}
use Rattle.kern_runs.specs.Runs.{Run}
use Rattle.kern_runs.specs.Machines.{run}
use Rattle.spv_module.specs.declared.inst.SpvInst.{SpvInst}
use Rattle.spv_module.specs.declared.module.Entry.{Entry}
use Rattle.spv_module.specs.declared.module.Function.{Function}
use Rattle.spv_module.specs.declared.module.Param.{Param}
use Rattle.spv_module.specs.declared.module.SpvModule.{SpvModule}
use Rattle.spv_module.specs.declared.module.Variable.{Variable}
use Rattle.kern_acts.specs.Shapes.{Shape}
use Rattle.kern_acts.specs.Acts.{Act}
use Rattle.kern_acts.specs.States.{Frame, State, Parameter, started}
use Rattle.kern_acts.specs.Steps.{Program, Step, step, machine}
use Rattle.kern_acts.specs.Bodies.{program_of}
use Rattle.spv_play.specs.Types.{type_named, shape_by}
use Rattle.spv_play.specs.Acts.{act_of}

-- whether variables of the class are placed: built-in ones aren't
abbrev pub is_placed_class : Class → Bool
is_placed_class class.Private = true
is_placed_class class.Global = true
is_placed_class class.Constant = true
is_placed_class class.Local = true
is_placed_class class.Generic = true
is_placed_class class.Input = false

abbrev pub placed_variables : SpvModule → List Variable
placed_variables m = filter (λ (variable : Variable). is_placed_class variable.class) m.variables

-- a variable of the module waits while fewer are placed than stand in the module up to it
abbrev pub is_placing : SpvModule → State → Bool
is_placing m state = is_some (slice_get (placed_variables m) (length state.placed))

abbrev pub inst_act : SpvModule → State → Frame → SpvInst → Option Act
inst_act m state frame inst = act_of m frame inst

-- the module as steps see it. Its size is the number of its instructions.
abbrev pub spirv_program : SpvModule → Program
spirv_program m = program_of m.bodies (is_placing m) (inst_act m)

-- a step: none where the state is over, or at an instruction that isn't covered; else an event or none, and the next state
unfoldable pub spirv_step : SpvModule → State → Option Step
spirv_step m state = step (spirv_program m) state

-- a value without lanes, as one of a type that isn't covered here counts
abbrev pub no_lanes : Shape
no_lanes = record { width = W1; count = 0 }

abbrev pub parameter_of : SpvModule → Param → Parameter
parameter_of m param = record { name = param.id; shape = unwrap_or (type_named m param.ty >>= shape_by) no_lanes }

abbrev pub parameters_of : SpvModule → Function → List Parameter
parameters_of m function = map (parameter_of m) function.params

abbrev pub entry_named : SpvModule → List ℕ → Option Entry
entry_named m name = find (λ (entry : Entry). bytes_eq entry.name name) m.entries

-- the function with an id at its start, of those from a place on
abbrev pub start_among : SpvModule → ℕ → Inputs → ℕ → List Function → Option State
start_among m id inputs place [] = None
start_among m id inputs place (function ∷ functions) =
    cond (function.id == id) (Some (started place (parameters_of m function) inputs)) (start_among m id inputs (suc place) functions)

-- the state in which the kernel of this name starts, none where there is no such kernel
unfoldable pub spirv_start : SpvModule → List ℕ → Inputs → Option State
spirv_start m name inputs = entry_named m name >>= λ entry. start_among m entry.function inputs 0 m.functions

-- what the first so many steps of the kernel of this name show, none where there is no such kernel
unfoldable pub spirv_run : SpvModule → List ℕ → Inputs → ℕ → Option Run
spirv_run m name inputs steps = option_map (λ state. run (machine (spirv_program m)) state steps) (spirv_start m name inputs)
