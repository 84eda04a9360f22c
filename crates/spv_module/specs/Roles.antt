-- What the ids of an instruction name, by its form and its opcode (SPIR-V 1.2, 3.32.9 "Function Instructions" and 3.32.17 "Control-Flow
-- Instructions").
use Rattle.std.specs.Prelude.{ℕ, ◌==◌, Bool, true, false, List, [], ◌∷◌, unwrap_or}
use Rattle.std.specs.Map.{lookup}
use Rattle.spv_codec.specs.Ids.{kinds_of}
use Rattle.spv_layout.specs.declared.opcode.Opcode.TheVariants.{FunctionCall, Phi, LoopMerge, SelectionMerge, Branch, BranchConditional, Switch}
use Rattle.spv_layout.specs.declared.operands.OperandKind.{OperandKind}
use Rattle.spv_layout.specs.declared.operands.OperandKind.TheVariants.{T, R}
use Rattle.spv_layout.specs.Forms.{number_of}
use Rattle.spv_module.specs.declared.roles.IdRoles.{IdRoles}
use Rattle.spv_module.specs.declared.roles.IdRoles.TheVariants.{Values, Call, Choices, Targets, Labels}

-- whether a form begins with the id of a result, behind its type or not
abbrev pub results_stand : List OperandKind → Bool
results_stand (R ∷ kinds) = true
results_stand (T ∷ R ∷ kinds) = true
results_stand kinds = false

-- whether a form begins with the type of a result
abbrev pub types_stand : List OperandKind → Bool
types_stand (T ∷ kinds) = true
types_stand kinds = false

abbrev pub has_result : ℕ → Bool
has_result op = results_stand (kinds_of op)

abbrev pub has_result_type : ℕ → Bool
has_result_type op = types_stand (kinds_of op)

-- the opcodes of which not each id is a value that is taken
abbrev pub role_table : List (ℕ × IdRoles)
role_table =
    (number_of FunctionCall, Call) ∷ (number_of Phi, Choices) ∷ (number_of LoopMerge, Labels) ∷ (number_of SelectionMerge, Labels) ∷
    (number_of Branch, Targets 0) ∷ (number_of BranchConditional, Targets 1) ∷ (number_of Switch, Targets 1) ∷ []

abbrev pub roles_of : ℕ → IdRoles
roles_of op = unwrap_or (lookup (λ number. op == number) role_table) Values
