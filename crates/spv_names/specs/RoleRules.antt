-- The places at which an id has another role than the form asks (SPIR-V 1.2, 2.2 "Terms" and 3.32 "Instructions").
use Rattle.std.specs.Prelude.{ℕ, ◌+◌, ◌%◌, ◌==◌, Bool, true, false, ◌||◌, not, if◌then◌else◌, List, [], ◌∷◌, slice_get, Option, Some, None}
use Rattle.std.specs.List.{list_any}
use Rattle.std.specs.Option.{is_none}
use Rattle.spv_codec.specs.declared.module.RawInst.{RawInst}
use Rattle.spv_codec.specs.Ids.{is_id}
use Rattle.spv_layout.specs.declared.opcode.Opcode.{Opcode}
use Rattle.spv_layout.specs.declared.opcode.Opcode.TheVariants as op
use Rattle.spv_layout.specs.Forms.{number_of, opcode_of}
use Rattle.spv_module.specs.Roles.{has_result_type}
use Rattle.spv_names.specs.declared.definitions.Definition.{Definition}
use Rattle.spv_names.specs.declared.asks.Ask.{Ask}
use Rattle.spv_names.specs.declared.asks.Ask.TheVariants as ask
use Rattle.spv_names.specs.declared.asks.Asks.{Asks}
use Rattle.spv_names.specs.declared.asks.Asks.TheVariants.{Each, Then, Both, Choices}
use Rattle.spv_names.specs.declared.asks.Role.{Role}
use Rattle.spv_names.specs.declared.asks.Role.TheVariants as role
use Rattle.spv_names.specs.Definitions.{definition_of, entry_of}
use Rattle.spv_sections.specs.Places.{places_where}
use Rattle.spv_names.specs.Uses.{uses_of}

-- the role of what an instruction defines
abbrev pub role_at : Option Opcode → Role
role_at (Some op.TypeVoid) = role.TypeRole
role_at (Some op.TypeBool) = role.TypeRole
role_at (Some op.TypeInt) = role.TypeRole
role_at (Some op.TypeVector) = role.TypeRole
role_at (Some op.TypeArray) = role.TypeRole
role_at (Some op.TypeStruct) = role.TypeRole
role_at (Some op.TypePointer) = role.TypeRole
role_at (Some op.TypeFunction) = role.TypeRole
role_at (Some op.ConstantTrue) = role.Constant
role_at (Some op.ConstantFalse) = role.Constant
role_at (Some op.Constant) = role.Constant
role_at (Some op.ConstantComposite) = role.Constant
role_at (Some op.ConstantNull) = role.Constant
role_at (Some op.Variable) = role.Variable
role_at (Some op.Function) = role.Function
role_at (Some op.Label) = role.Label
role_at (Some op.String) = role.Text
role_at (Some op.ExtInstImport) = role.Import
role_at (Some op.DecorationGroup) = role.Group
role_at opcode = role.Value

unfoldable pub role_of : RawInst → Role
role_of inst = role_at (opcode_of inst.op)

-- what a form asks of the ids that it uses, where it begins with the type of a result or not
abbrev pub asks_at : Bool → Option Opcode → Asks
asks_at typed (Some op.TypeVector) = Each ask.TypeRole
asks_at typed (Some op.TypeStruct) = Each ask.TypeRole
asks_at typed (Some op.TypePointer) = Each ask.TypeRole
asks_at typed (Some op.TypeFunction) = Each ask.TypeRole
asks_at typed (Some op.Function) = Each ask.TypeRole
asks_at typed (Some op.TypeArray) = Then ask.TypeRole ask.Constant
asks_at typed (Some op.ConstantComposite) = Then ask.TypeRole ask.Constant
asks_at typed (Some op.EntryPoint) = Then ask.Function ask.ModuleVariable
asks_at typed (Some op.ExecutionMode) = Each ask.EntryPoint
asks_at typed (Some op.Source) = Each ask.Text
asks_at typed (Some op.ExtInst) = Both ask.TypeRole ask.Import ask.Value
asks_at typed (Some op.FunctionCall) = Both ask.TypeRole ask.Function ask.Value
asks_at typed (Some op.GroupDecorate) = Then ask.Group ask.Any
asks_at typed (Some op.Decorate) = Each ask.Any
asks_at typed (Some op.MemberDecorate) = Each ask.Any
asks_at typed (Some op.Branch) = Each ask.Label
asks_at typed (Some op.BranchConditional) = Then ask.Value ask.Label
asks_at typed (Some op.Switch) = Then ask.Value ask.Label
asks_at typed (Some op.Phi) = Choices
asks_at true opcode = Then ask.TypeRole ask.Value
asks_at false opcode = Each ask.Value

unfoldable pub asks_of : RawInst → Asks
asks_of inst = asks_at (has_result_type inst.op) (opcode_of inst.op)

-- what is asked of the id at an index
abbrev pub ask_at : Asks → ℕ → Ask
ask_at (Each each) index = each
ask_at (Then first others) index = if index == 0 then first else others
ask_at (Both first second others) index = if index == 0 then first else (if index == 1 then second else others)
ask_at Choices index = if index == 0 then ask.TypeRole else (if index % 2 == 1 then ask.Value else ask.Label)

-- whether a role is one that is asked, of an entry point's function or not, and of something outside functions or not
abbrev pub is_asked : Bool → Bool → Ask → Role → Bool
is_asked entry outside ask.Any role = true
is_asked entry outside ask.TypeRole role.TypeRole = true
is_asked entry outside ask.Constant role.Constant = true
is_asked entry outside ask.Value role.Constant = true
is_asked entry outside ask.Value role.Variable = true
is_asked entry outside ask.Value role.Value = true
is_asked entry outside ask.ModuleVariable role.Variable = outside
is_asked entry outside ask.Function role.Function = true
is_asked entry outside ask.EntryPoint role.Function = entry
is_asked entry outside ask.Label role.Label = true
is_asked entry outside ask.Text role.Text = true
is_asked entry outside ask.Import role.Import = true
is_asked entry outside ask.Group role.Group = true
is_asked entry outside ask role = false

-- the function of an OpEntryPoint
abbrev pub entry_function : RawInst → Option ℕ
entry_function inst = if inst.op == number_of op.EntryPoint then slice_get inst.operands 1 else None

abbrev pub is_entry : List RawInst → ℕ → Bool
is_entry insts id = list_any (λ inst. is_id id (entry_function inst)) insts

-- whether an id is defined outside functions
abbrev pub is_outside : Option Definition → Bool
is_outside None = false
is_outside (Some definition) = is_none definition.function

-- whether what is defined has another role than is asked; what is defined nowhere has none
abbrev pub differs : Bool → Bool → Ask → Option RawInst → Bool
differs entry outside ask None = false
differs entry outside ask (Some inst) = not (is_asked entry outside ask (role_of inst))

abbrev pub has_other_role : List RawInst → Ask → ℕ → Bool
has_other_role insts ask id = differs (is_entry insts id) (is_outside (entry_of insts id)) ask (definition_of insts id)

-- whether one of these ids, of which the first is asked for at an index, has another role
abbrev pub have_other_role : List RawInst → Asks → ℕ → List ℕ → Bool
have_other_role insts asks index [] = false
have_other_role insts asks index (id ∷ ids) = has_other_role insts (ask_at asks index) id || have_other_role insts asks (index + 1) ids

-- whether an instruction of a module, behind others, uses an id that has another role than its form asks
abbrev pub misuses : List RawInst → List RawInst → RawInst → Bool
misuses insts before inst = have_other_role insts (asks_of inst) 0 (uses_of insts before inst)

abbrev pub role_places : List RawInst → List ℕ
role_places insts = places_where (misuses insts) insts
