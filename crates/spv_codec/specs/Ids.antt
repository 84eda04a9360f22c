-- What earlier instructions say of the ids that literal numbers take their width from (SPIR-V 1.2, 2.2.1 "Literal" and 3.32.7
-- "OpConstant").
use Rattle.std.specs.Prelude.{ℕ, ◌==◌, Bool, false, if◌then◌else◌, List, [], ◌∷◌, slice_get, Option, Some, None, unwrap_or}
use Rattle.std.specs.Option.{option_map}
use Rattle.spv_layout.specs.declared.operands.OperandKind.{OperandKind}
use Rattle.spv_layout.specs.declared.operands.OperandKind.TheVariants.{T, R}
use Rattle.spv_layout.specs.declared.opcode.Opcode.TheVariants.{Constant, Switch, TypeInt}
use Rattle.spv_layout.specs.Forms.{form_at, number_of}
use Rattle.spv_codec.specs.declared.ids.IdKind.{IdKind}
use Rattle.spv_codec.specs.declared.ids.IdKind.TheVariants.{Integer, Value, Other}
use Rattle.spv_codec.specs.declared.module.RawInst.{RawInst}

-- the id of the result, where a form has one
abbrev pub result_id : List OperandKind → List ℕ → Option ℕ
result_id (T ∷ R ∷ kinds) words = slice_get words 1
result_id (R ∷ kinds) words = slice_get words 0
result_id kinds words = None

-- the operands of the form of an opcode
abbrev pub kinds_of : ℕ → List OperandKind
kinds_of op = unwrap_or (option_map (λ form. form.operands) (form_at op)) []

-- the width of an integer type
abbrev pub integer_of : List ℕ → IdKind
integer_of (id ∷ width ∷ rest) = Integer width
integer_of words = Other

-- the type of a value, where the form has one
abbrev pub value_of : List OperandKind → List ℕ → IdKind
value_of (T ∷ kinds) (type ∷ words) = Value type
value_of kinds words = Other

-- what the result of an instruction is
abbrev pub id_kind : ℕ → List OperandKind → List ℕ → IdKind
id_kind op kinds words = if op == number_of TypeInt then integer_of words else value_of kinds words

-- whether an id is the one that is there
abbrev pub is_id : ℕ → Option ℕ → Bool
is_id id None = false
is_id id (Some other) = other == id

-- what an id is: its first definition counts
abbrev pub ids_of : List RawInst → ℕ → Option IdKind
ids_of [] id = None
ids_of (inst ∷ insts) id =
    if is_id id (result_id (kinds_of inst.op) inst.operands)
    then Some (id_kind inst.op (kinds_of inst.op) inst.operands)
    else ids_of insts id

-- the width of a type that an id may be
abbrev pub width_of : Option IdKind → Option ℕ
width_of (Some (Integer width)) = Some width
width_of kind = None

-- the width of the type of a value that an id may be
abbrev pub value_width : (ℕ → Option IdKind) → Option IdKind → Option ℕ
value_width ids (Some (Value type)) = width_of (ids type)
value_width ids kind = None

-- the width of an instruction's literal numbers: of OpConstant's type, or of the type of OpSwitch's selector
abbrev pub literal_width : (ℕ → Option IdKind) → ℕ → List ℕ → Option ℕ
literal_width ids op [] = None
literal_width ids op (first ∷ words) =
    if op == number_of Constant then width_of (ids first)
    else (if op == number_of Switch then value_width ids (ids first) else None)
