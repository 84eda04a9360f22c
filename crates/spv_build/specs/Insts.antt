-- An instruction of a function body by its words: its ids and its literal words in two lists (SPIR-V 1.2, 2.3 and 3.32).
use Rattle.std.specs.Prelude.{ℕ, Bool, true, false, ◌&&◌, if◌then◌else◌, List, [], ◌∷◌, ◌++◌, take, drop, get_or, unwrap_or}
use Rattle.spv_codec.specs.declared.module.RawInst.{RawInst}
use Rattle.spv_codec.specs.Ids.{kinds_of, result_id}
use Rattle.spv_layout.specs.declared.operands.EnumKind.TheVariants.{Class}
use Rattle.spv_layout.specs.declared.operands.OperandKind.{OperandKind}
use Rattle.spv_layout.specs.declared.operands.OperandKind.TheVariants.{T, R, I, W, S, N, E, OptI, OptIS, OptWW, OptE, ManyI, ManyW, ManyII, ManyNI}
use Rattle.spv_module.specs.declared.inst.SpvInst.{SpvInst}
use Rattle.spv_module.specs.Roles.{has_result_type}
use Rattle.spv_names.specs.Uses.{case_ids}

-- the numbers of the cases of an OpSwitch, each of two words or of one before its label
abbrev pub case_numbers : Bool → List ℕ → List ℕ
case_numbers true (low ∷ high ∷ id ∷ words) = low ∷ high ∷ case_numbers true words
case_numbers false (number ∷ id ∷ words) = number ∷ case_numbers false words
case_numbers wide words = []

-- the ids of an operand with which words begin, but for the result and its type
abbrev pub ids_at : Bool → OperandKind → List ℕ → List ℕ
ids_at wide I words = take 1 words
ids_at wide OptI words = words
ids_at wide OptIS words = take 1 words
ids_at wide ManyI words = words
ids_at wide ManyII words = words
ids_at wide ManyNI words = case_ids wide words
ids_at wide kind words = []

-- its literal words
abbrev pub words_at : Bool → OperandKind → List ℕ → List ℕ
words_at wide W words = take 1 words
words_at wide (E kind) words = take 1 words
words_at wide S words = words
words_at wide N words = words
words_at wide OptIS words = drop 1 words
words_at wide OptWW words = words
words_at wide (OptE kind) words = words
words_at wide ManyW words = words
words_at wide ManyNI words = case_numbers wide words
words_at wide kind words = []

-- the words behind it: an operand of more than one word is the last
abbrev pub rest_behind : OperandKind → List ℕ → List ℕ
rest_behind T words = drop 1 words
rest_behind R words = drop 1 words
rest_behind I words = drop 1 words
rest_behind W words = drop 1 words
rest_behind (E kind) words = drop 1 words
rest_behind kind words = []

-- the ids of the operands of a form, in order
abbrev pub ids_in : Bool → List OperandKind → List ℕ → List ℕ
ids_in wide [] words = []
ids_in wide (kind ∷ kinds) words = ids_at wide kind words ++ ids_in wide kinds (rest_behind kind words)

-- their literal words
abbrev pub words_in : Bool → List OperandKind → List ℕ → List ℕ
words_in wide [] words = []
words_in wide (kind ∷ kinds) words = words_at wide kind words ++ words_in wide kinds (rest_behind kind words)

-- the instruction, where its literal numbers take two words or one
unfoldable pub inst_of : Bool → RawInst → SpvInst
inst_of wide raw = record {
  op = raw.op;
  ty = if has_result_type raw.op then get_or raw.operands 0 0 else 0;
  result = unwrap_or (result_id (kinds_of raw.op) raw.operands) 0;
  operands = record { ids = ids_in wide (kinds_of raw.op) raw.operands; words = words_in wide (kinds_of raw.op) raw.operands };
  place = raw.place;
}

-- the cases of an OpSwitch, each a number of two words or of one and a label
abbrev pub are_cases : Bool → List ℕ → Bool
are_cases wide [] = true
are_cases true (low ∷ high ∷ id ∷ words) = are_cases true words
are_cases false (number ∷ id ∷ words) = are_cases false words
are_cases wide words = false

abbrev pub is_end : List OperandKind → Bool
is_end [] = true
is_end (kind ∷ kinds) = false

abbrev pub is_empty : List ℕ → Bool
is_empty [] = true
is_empty (word ∷ words) = false

-- one word, and then what is asked of the others
abbrev pub word_then : (List ℕ → Bool) → List ℕ → Bool
word_then rest [] = false
word_then rest (word ∷ words) = rest words

-- whether words have each operand of a form, of which the last alone may be of more than one word
abbrev pub are_whole : Bool → List OperandKind → List ℕ → Bool
are_whole wide [] words = is_empty words
are_whole wide (T ∷ kinds) words = false
are_whole wide (R ∷ kinds) words = false
are_whole wide (I ∷ kinds) words = word_then (are_whole wide kinds) words
are_whole wide (W ∷ kinds) words = word_then (are_whole wide kinds) words
are_whole wide (E kind ∷ kinds) words = word_then (are_whole wide kinds) words
are_whole wide (ManyNI ∷ kinds) words = is_end kinds && are_cases wide words
are_whole wide (kind ∷ kinds) words = is_end kinds

-- the same behind a result and its type
abbrev pub are_operands : Bool → List OperandKind → List ℕ → Bool
are_operands wide (T ∷ R ∷ kinds) (type ∷ id ∷ words) = are_whole wide kinds words
are_operands wide (R ∷ kinds) (id ∷ words) = are_whole wide kinds words
are_operands wide kinds words = are_whole wide kinds words

-- whether the operands of a form are one word each, but for the last. A storage class is an enumerant without operands of its own.
abbrev pub is_plain : List OperandKind → Bool
is_plain [] = true
is_plain (T ∷ kinds) = false
is_plain (R ∷ kinds) = false
is_plain (I ∷ kinds) = is_plain kinds
is_plain (W ∷ kinds) = is_plain kinds
is_plain (E Class ∷ kinds) = is_plain kinds
is_plain (E kind ∷ kinds) = false
is_plain (kind ∷ kinds) = is_end kinds

-- the same behind a result and its type
abbrev pub is_plain_form : List OperandKind → Bool
is_plain_form (T ∷ R ∷ kinds) = is_plain kinds
is_plain_form (R ∷ kinds) = is_plain kinds
is_plain_form kinds = is_plain kinds
