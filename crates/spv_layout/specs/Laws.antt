-- Rules that the tables of forms and enumerants keep.
use Rattle.std.specs.Prelude.{◌≡◌, ℕ, ◌^◌, ◌==◌, ◌&&◌, Bool, true, false, not, List, [], ◌∷◌, nat_lt, ◌≤◌, count_by, map, find, Option, Some, IsTrue}
use Rattle.std.specs.Str.{bytes_eq}
use Rattle.std.specs.List.{list_all, list_any}
use Rattle.spv_layout.specs.declared.opcode.Opcode.{Opcode}
use Rattle.spv_layout.specs.declared.opcode.TheConstants.{OPCODES}
use Rattle.spv_layout.specs.declared.operands.EnumKind.{EnumKind}
use Rattle.spv_layout.specs.declared.operands.ExtraOperand.{ExtraOperand}
use Rattle.spv_layout.specs.declared.operands.ExtraOperand.TheVariants.{W as Word, S as Text, E as Enum}
use Rattle.spv_layout.specs.declared.operands.OperandKind.{OperandKind}
use Rattle.spv_layout.specs.declared.operands.OperandKind.TheVariants.{T, R, I, W, S, N, E, OptI, OptIS, OptWW, OptE, ManyI, ManyW, ManyII, ManyNI}
use Rattle.spv_layout.specs.Forms.{row_of, number_of, operands_of, opcode_of}
use Rattle.spv_layout.specs.Enumerants.{enumerants_of, is_mask_kind, has_elements}

-- an opcode is found by its number
abbrev pub FoundByNumber : Type 0
FoundByNumber = (opcode : Opcode) → opcode_of (number_of opcode) ≡ Some opcode

-- whether each number is below the next
abbrev pub rises : List ℕ → Bool
rises [] = true
rises (number ∷ []) = true
rises (number ∷ next ∷ rest) = nat_lt number next && rises (next ∷ rest)

abbrev pub NumbersRise : Type 0
NumbersRise = IsTrue (rises (map number_of OPCODES))

abbrev pub name_text : Opcode → List ℕ
name_text opcode = (row_of opcode).name

-- the opcode with this name
abbrev pub opcode_named : List ℕ → Option Opcode
opcode_named name = find (λ opcode. bytes_eq (name_text opcode) name) OPCODES

-- an opcode is found by its name
abbrev pub FoundByName : Type 0
FoundByName = (opcode : Opcode) → opcode_named (name_text opcode) ≡ Some opcode

-- whether an operand is always there, once
abbrev pub is_single : OperandKind → Bool
is_single T = true
is_single R = true
is_single I = true
is_single W = true
is_single S = true
is_single N = true
is_single (E kind) = true
is_single OptI = false
is_single OptIS = false
is_single OptWW = false
is_single (OptE kind) = false
is_single ManyI = false
is_single ManyW = false
is_single ManyII = false
is_single ManyNI = false

-- whether all operands but the last are always there, once
abbrev pub runs_last : List OperandKind → Bool
runs_last [] = true
runs_last (kind ∷ []) = true
runs_last (kind ∷ next ∷ rest) = is_single kind && runs_last (next ∷ rest)

abbrev pub RunsStandLast : Type 0
RunsStandLast = (opcode : Opcode) → IsTrue (runs_last (operands_of opcode))

abbrev pub ValuesRise : Type 0
ValuesRise = (kind : EnumKind) → IsTrue (rises (map (λ e. e.value) (enumerants_of kind)))

-- whether a number is one of the first four powers of two
abbrev pub is_bit : ℕ → Bool
is_bit value = list_any (λ k. 2 ^ k == value) (0 ∷ 1 ∷ 2 ∷ 3 ∷ [])

abbrev pub BitsAreSingle : Type 0
BitsAreSingle = (kind : EnumKind) → IsTrue (is_mask_kind kind) → IsTrue (list_all (λ e. is_bit e.value) (enumerants_of kind))

-- whether nothing follows the enumerants of a kind
abbrev pub are_plain : EnumKind → Bool
are_plain kind = list_all (λ e. not (has_elements e.extra)) (enumerants_of kind)

abbrev pub is_plain : ExtraOperand → Bool
is_plain Word = true
is_plain Text = true
is_plain (Enum kind) = are_plain kind

abbrev pub ExtraOperandsArePlain : Type 0
ExtraOperandsArePlain = (kind : EnumKind) → IsTrue (list_all (λ e. list_all is_plain e.extra) (enumerants_of kind))

abbrev pub OneBitHasExtraOperands : Type 0
OneBitHasExtraOperands =
    (kind : EnumKind) → IsTrue (is_mask_kind kind) → count_by (λ e. has_elements e.extra) (enumerants_of kind) ≤ 1
