-- The entry points of a module, each with its modes (SPIR-V 1.2, OpEntryPoint and OpExecutionMode).
use Rattle.std.specs.Prelude.{ℕ, ◌+◌, ◌==◌, if◌then◌else◌, List, [], ◌∷◌, ◌++◌, Option, Some, None}
use Rattle.spv_codec.specs.declared.module.RawInst.{RawInst}
use Rattle.spv_codec.specs.Operands.{read_string}
use Rattle.spv_layout.specs.declared.opcode.Opcode.TheVariants as op
use Rattle.spv_module.specs.declared.module.Entry.{Entry}
use Rattle.spv_build.specs.declared.entries.GivenMode.{GivenMode}
use Rattle.spv_names.specs.Uses.{behind_reading}
use Rattle.spv_build.specs.Items.{items_of, said_by, text_of}

-- the words behind the literal string that words begin with
unfoldable pub behind_text : List ℕ → List ℕ
behind_text words = behind_reading (read_string words)

-- an entry point, without modes yet
abbrev pub entry_by : ℕ → List ℕ → Option Entry
entry_by place (model ∷ function ∷ words) =
    Some (record { function = function; name = text_of words; interface = behind_text words; modes = []; place = place })
entry_by place words = None

abbrev pub entry_of : RawInst → Option Entry
entry_of inst = said_by op.EntryPoint entry_by inst

-- a mode with the function that it is given to
abbrev pub mode_by : ℕ → List ℕ → Option GivenMode
mode_by place (function ∷ kind ∷ words) =
    Some (record { function = function; mode = record { kind = kind; words = words; place = place } })
mode_by place words = None

abbrev pub mode_of : RawInst → Option GivenMode
mode_of inst = said_by op.ExecutionMode mode_by inst

abbrev pub with_mode : Entry → GivenMode → Entry
with_mode entry given = record entry { modes = entry.modes ++ given.mode ∷ [] }

-- a mode is that of the first entry point of its function
abbrev pub put_mode : GivenMode → List Entry → List Entry
put_mode given [] = []
put_mode given (entry ∷ entries) =
    if entry.function == given.function then with_mode entry given ∷ entries else entry ∷ put_mode given entries

abbrev pub put_modes : List GivenMode → List Entry → List Entry
put_modes [] entries = entries
put_modes (given ∷ rest) entries = put_modes rest (put_mode given entries)

-- the entry points that instructions say, with the modes that they say
unfoldable pub entries_of : List RawInst → List Entry
entries_of insts = put_modes (items_of mode_of insts) (items_of entry_of insts)

-- the index of the first entry point of a function, where so many stand before these
abbrev pub index_from : ℕ → List Entry → ℕ → Option ℕ
index_from index [] function = None
index_from index (entry ∷ entries) function = if entry.function == function then Some index else index_from (index + 1) entries function

abbrev pub index_of : List Entry → ℕ → Option ℕ
index_of entries function = index_from 0 entries function
