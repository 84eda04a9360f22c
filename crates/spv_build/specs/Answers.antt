-- What building a module may answer.
use Rattle.std.specs.Prelude.{◌≡◌, Some, None, Result, Ok, Err, ⊤}
use Rattle.ports.specs.declared.faults.OutOfMemory.{OutOfMemory}
use Rattle.ports.specs.declared.faults.SpvError.{SpvError}
use Rattle.ports.specs.declared.faults.SpvError.TheVariants.{NoMemory, Fault}
use Rattle.spv_codec.specs.declared.module.RawModule.{RawModule}
use Rattle.spv_module.specs.declared.module.SpvModule.{SpvModule}
use Rattle.spv_names.specs.NameRules.{names_fault}
use Rattle.spv_build.specs.Modules.{module_of}

-- the module that the binary says, where it breaks no rule of sections, ids and functions, or the fault that is told of them
abbrev pub IsBuildAnswer : RawModule → Result SpvModule SpvError → Type 0
IsBuildAnswer raw (Ok m) = (names_fault raw ≡ None) × (m ≡ module_of raw)
IsBuildAnswer raw (Err NoMemory) = ⊤
IsBuildAnswer raw (Err (Fault fault)) = names_fault raw ≡ Some fault

-- a module that was made, or want of memory
abbrev pub built_by : Result SpvModule OutOfMemory → Result SpvModule SpvError
built_by (Ok m) = Ok m
built_by (Err error) = Err NoMemory
