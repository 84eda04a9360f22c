-- The instructions that words spell (SPIR-V 1.2, 2.3 "Physical Layout of a SPIR-V Module and Instruction").
use Rattle.std.specs.Prelude.{◌≡◌, ℕ, ◌+◌, ◌-◌, ◌*◌, ◌/◌, ◌%◌, ◌^◌, ◌<◌, ◌≤◌, ◌==◌, nat_lt, if◌then◌else◌, List, [], ◌∷◌, ◌++◌, length, take, drop, Option, Some, None, Ok, Err, All, ⊤}
use Rattle.std.specs.List.{flat_map}
use Rattle.std.specs.Option.{option_or}
use Rattle.ports.specs.declared.faults.SpvFault.{SpvFault}
use Rattle.ports.specs.declared.faults.SpvError.{SpvError}
use Rattle.ports.specs.declared.faults.SpvError.TheVariants.{NoMemory, Fault}
use Rattle.spv_layout.specs.Forms.{FormRow, form_at}
use Rattle.spv_codec.specs.declared.ids.IdKind.{IdKind}
use Rattle.spv_codec.specs.declared.module.RawInst.{RawInst}
use Rattle.spv_codec.specs.declared.operands.OperandError.{OperandError}
use Rattle.spv_codec.specs.declared.operands.OperandError.TheVariants.{NoMemory as NoOperandMemory, Fault as OperandRule}
use Rattle.spv_codec.specs.declared.operands.OperandFault.{OperandFault}
use Rattle.spv_codec.specs.declared.operands.OperandFault.TheVariants.{Misfit, Unknown, BadString, HighBits}
use Rattle.spv_codec.specs.declared.instructions.InstError.{InstError}
use Rattle.spv_codec.specs.declared.instructions.InstError.TheVariants.{NoMemory as NoMemoryHere, Rule}
use Rattle.spv_codec.specs.Ids.{ids_of, literal_width, is_id, result_id, kinds_of, id_kind}
use Rattle.spv_codec.specs.Operands.{Reading, read_operands}

-- the words of an instruction: the first has how many there are in its high half, and the opcode in its low half
abbrev pub spelling : RawInst → List ℕ
spelling inst = (65536 * (length inst.operands + 1) + inst.op) ∷ inst.operands

abbrev pub spellings : List RawInst → List ℕ
spellings insts = flat_map spelling insts

-- the number of the rule that operands break
abbrev pub rule_of : OperandFault → ℕ
rule_of Misfit = 10
rule_of Unknown = 11
rule_of BadString = 12
rule_of HighBits = 13

abbrev pub reading_rule : Reading → Option ℕ
reading_rule (Ok rest) = None
reading_rule (Err fault) = Some (rule_of fault)

abbrev pub form_rule : (ℕ → Option IdKind) → ℕ → List ℕ → Option FormRow → Option ℕ
form_rule ids op operands None = Some 9
form_rule ids op operands (Some form) = reading_rule (read_operands (literal_width ids op operands) form.operands operands)

-- the rule that an instruction breaks, where the ids are known that earlier ones define: rule 9, where the opcode is none, or that of its
-- operands
abbrev pub operands_rule : (ℕ → Option IdKind) → ℕ → List ℕ → Option ℕ
operands_rule ids op operands = form_rule ids op operands (form_at op)

-- the rule that the number of words breaks in an instruction that begins with this word, where these follow up to the end: rule 7, where it
-- has none, or rule 8, where it has more than there are
abbrev pub count_rule : ℕ → List ℕ → Option ℕ
count_rule first behind =
    if first / 65536 == 0 then Some 7 else (if nat_lt (length behind + 1) (first / 65536) then Some 8 else None)

-- the operands of such an instruction
abbrev pub operands_at : ℕ → List ℕ → List ℕ
operands_at first behind = take (first / 65536 - 1) behind

-- the rule that such an instruction breaks
abbrev pub first_rule : (ℕ → Option IdKind) → ℕ → List ℕ → Option ℕ
first_rule ids first behind =
    option_or (count_rule first behind) (operands_rule ids (first % 65536) (operands_at first behind))

-- an instruction breaks no rule behind these
pub record Fits (before : List RawInst) (inst : RawInst) : Type 0 where
  pub right : operands_rule (ids_of before) inst.op inst.operands ≡ None
  pub op : inst.op < 65536
  pub short : length inst.operands < 65535
  pub in_range : All (λ word. word < 2 ^ 32) inst.operands
  pub placed : inst.place ≡ 5 + length (spellings before)

-- each instruction breaks no rule behind those before it
abbrev pub AllFit : List RawInst → List RawInst → Type 0
AllFit before [] = ⊤
AllFit before (inst ∷ insts) = Fits before inst × AllFit (before ++ inst ∷ []) insts

-- an instruction that breaks a rule stands in these words behind the header, and those before it break none
pub record IsInstFault (words : List ℕ) (fault : SpvFault) : Type 0 where
  pub insts : List RawInst
  pub fit : AllFit [] insts
  pub first : ℕ
  pub behind : List ℕ
  pub spelled : words ≡ spellings insts ++ first ∷ behind
  pub rule : first_rule (ids_of insts) first behind ≡ Some fault.rule
  pub placed : fault.word ≡ 5 + length (spellings insts)

abbrev pub IsInstError : List ℕ → SpvError → Type 0
IsInstError words NoMemory = ⊤
IsInstError words (Fault fault) = IsInstFault words fault

-- what a call may answer that tells a rule
abbrev pub TellsRule : Option ℕ → InstError → Type 0
TellsRule rule NoMemoryHere = ⊤
TellsRule rule (Rule number) = rule ≡ Some number

-- words begin with an instruction, of which this is the rest of its words
pub record Splits (first : ℕ) (behind : List ℕ) (op : ℕ) (operands : List ℕ) : Type 0 where
  pub opcode : op ≡ first % 65536
  pub rest : operands ≡ operands_at first behind
  pub counted : count_rule first behind ≡ None

-- such an instruction was read, and what it defines was noted
pub record Reads (old new : ℕ → Option IdKind) (first : ℕ) (behind : List ℕ) (place : ℕ) (inst : RawInst) : Type 0 where
  pub spelled : first ∷ behind ≡ spelling inst ++ drop (length inst.operands) behind
  pub within : length inst.operands ≤ length behind
  pub right : operands_rule old inst.op inst.operands ≡ None
  pub op : inst.op < 65536
  pub short : length inst.operands < 65535
  pub in_range : All (λ word. word < 2 ^ 32) inst.operands
  pub placed : inst.place ≡ place
  pub noted : (id : ℕ) → new id ≡ option_or (old id)
      (if is_id id (result_id (kinds_of inst.op) inst.operands) then Some (id_kind inst.op (kinds_of inst.op) inst.operands) else None)

-- what an error of operands is told as
abbrev pub told_error : OperandError → InstError
told_error NoOperandMemory = NoMemoryHere
told_error (OperandRule fault) = Rule (rule_of fault)

-- the error of an instruction at a place
abbrev pub error_at : InstError → ℕ → SpvError
error_at NoMemoryHere place = NoMemory
error_at (Rule number) place = Fault (record { rule = number; word = place })
