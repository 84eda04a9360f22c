-- How words spell the operands of an instruction (SPIR-V 1.2, 2.2.1 and 2.3). Each definition gives the words that are left behind an
-- operand, or the fault where it can't be read.
use Rattle.std.specs.Prelude.{◌≡◌, ℕ, ◌+◌, ◌/◌, ◌==◌, nat_lt, nat_le, Bool, true, false, ◌&&◌, if◌then◌else◌, List, [], ◌∷◌, length, take, drop, Option, Some, None, Result, Ok, Err, ⊤}
use Rattle.std.proofs.Common.{Bor}
use Rattle.std.specs.List.{before_first}
use Rattle.std.specs.Str.{is_utf8, bytes_eq}
use Rattle.spv_words.specs.declared.words.Order.TheVariants.{Little}
use Rattle.spv_words.specs.Words.{words_bytes}
use Rattle.spv_words.specs.Strings.{terminated}
use Rattle.spv_layout.specs.declared.operands.EnumKind.{EnumKind}
use Rattle.spv_layout.specs.declared.operands.ExtraOperand.{ExtraOperand}
use Rattle.spv_layout.specs.declared.operands.ExtraOperand.TheVariants.{W as Word, S as Text, E as Enum}
use Rattle.spv_layout.specs.declared.operands.OperandKind.{OperandKind}
use Rattle.spv_layout.specs.declared.operands.OperandKind.TheVariants.{T, R, I, W, S, N, E, OptI, OptIS, OptWW, OptE, ManyI, ManyW, ManyII, ManyNI}
use Rattle.spv_layout.specs.Enumerants.{is_known, extra_operands_of}
use Rattle.spv_codec.specs.declared.operands.OperandFault.{OperandFault}
use Rattle.spv_codec.specs.declared.operands.OperandFault.TheVariants.{Misfit, Unknown, BadString, HighBits}
use Rattle.spv_codec.specs.declared.operands.OperandError.{OperandError}
use Rattle.spv_codec.specs.declared.operands.OperandError.TheVariants.{NoMemory, Fault}

-- the words behind an operand, or why it can't be read
abbrev pub Reading : Type 0
Reading = Result (List ℕ) OperandFault

-- one operand, and then what follows
abbrev pub and_then : Reading → (List ℕ → Reading) → Reading
and_then (Ok rest) next = next rest
and_then (Err fault) next = Err fault

abbrev pub read_word : List ℕ → Reading
read_word [] = Err Misfit
read_word (word ∷ rest) = Ok rest

-- the text of the literal string that words begin with: what stands before their first zero byte
abbrev pub string_text : List ℕ → List ℕ
string_text words = before_first (λ byte. byte == 0) (words_bytes Little words)

-- how many words it takes
abbrev pub string_len : List ℕ → ℕ
string_len words = length (string_text words) / 4 + 1

-- whether words begin a literal string: there is a zero byte, nothing else behind it in its word, and UTF-8 before it
abbrev pub begins_string : List ℕ → Bool
begins_string words =
    nat_le (string_len words) (length words)
    && is_utf8 (string_text words)
    && bytes_eq (words_bytes Little (take (string_len words) words)) (terminated (string_text words))

abbrev pub read_string : List ℕ → Reading
read_string [] = Err Misfit
read_string (word ∷ rest) =
    if begins_string (word ∷ rest) then Ok (drop (string_len (word ∷ rest)) (word ∷ rest)) else Err BadString

-- a number of 64 bits takes two words, the lower one first
abbrev pub is_wide : Option ℕ → Bool
is_wide None = false
is_wide (Some width) = width == 64

-- a number of 8 or 16 bits has no bits above these
abbrev pub fits_width : Option ℕ → ℕ → Bool
fits_width None word = true
fits_width (Some width) word =
    if width == 8 then nat_lt word 256 else (if width == 16 then nat_lt word 65536 else true)

-- a literal number, of this width where its type is one of integers
abbrev pub read_number : Option ℕ → List ℕ → Reading
read_number width [] = Err Misfit
read_number width (low ∷ rest) =
    if is_wide width then read_word rest else (if fits_width width low then Ok rest else Err HighBits)

-- an enumerant that nothing follows
abbrev pub read_plain : EnumKind → List ℕ → Reading
read_plain kind [] = Err Misfit
read_plain kind (word ∷ rest) = if is_known kind word then Ok rest else Err Unknown

abbrev pub read_extra : ExtraOperand → List ℕ → Reading
read_extra Word words = read_word words
read_extra Text words = read_string words
read_extra (Enum kind) words = read_plain kind words

abbrev pub read_extras : List ExtraOperand → List ℕ → Reading
read_extras [] words = Ok words
read_extras (extra ∷ extras) words = and_then (read_extra extra words) (read_extras extras)

-- an enumerant or a mask, and what follows it
abbrev pub read_enumerant : EnumKind → List ℕ → Reading
read_enumerant kind [] = Err Misfit
read_enumerant kind (word ∷ rest) = if is_known kind word then read_extras (extra_operands_of kind word) rest else Err Unknown

-- an id, and a string behind it where there is one
abbrev pub read_id_and_string : List ℕ → Reading
read_id_and_string [] = Err Misfit
read_id_and_string (id ∷ []) = Ok []
read_id_and_string (id ∷ word ∷ rest) = read_string (word ∷ rest)

abbrev pub read_pairs : List ℕ → Reading
read_pairs [] = Ok []
read_pairs (first ∷ []) = Err Misfit
read_pairs (first ∷ second ∷ rest) = read_pairs rest

-- pairs of a number of two words and an id
abbrev pub read_wide_cases : List ℕ → Reading
read_wide_cases [] = Ok []
read_wide_cases (low ∷ []) = Err Misfit
read_wide_cases (low ∷ high ∷ []) = Err Misfit
read_wide_cases (low ∷ high ∷ id ∷ rest) = read_wide_cases rest

-- pairs of a number of one word and an id
abbrev pub read_narrow_cases : Option ℕ → List ℕ → Reading
read_narrow_cases width [] = Ok []
read_narrow_cases width (number ∷ []) = if fits_width width number then Err Misfit else Err HighBits
read_narrow_cases width (number ∷ id ∷ rest) = if fits_width width number then read_narrow_cases width rest else Err HighBits

abbrev pub read_cases : Option ℕ → List ℕ → Reading
read_cases width words = if is_wide width then read_wide_cases words else read_narrow_cases width words

-- two words
abbrev pub read_two : List ℕ → Reading
read_two words = and_then (read_word words) read_word

-- an operand that may be left out
abbrev pub read_optional : (List ℕ → Reading) → List ℕ → Reading
read_optional read [] = Ok []
read_optional read (word ∷ rest) = read (word ∷ rest)

abbrev pub read_operand : Option ℕ → OperandKind → List ℕ → Reading
read_operand width T words = read_word words
read_operand width R words = read_word words
read_operand width I words = read_word words
read_operand width W words = read_word words
read_operand width S words = read_string words
read_operand width N words = read_number width words
read_operand width (E kind) words = read_enumerant kind words
read_operand width OptI words = read_optional read_word words
read_operand width OptIS words = read_optional read_id_and_string words
read_operand width OptWW words = read_optional read_two words
read_operand width (OptE kind) words = read_optional (read_enumerant kind) words
read_operand width ManyI words = Ok []
read_operand width ManyW words = Ok []
read_operand width ManyII words = read_pairs words
read_operand width ManyNI words = read_cases width words

-- words that are left over are no operands
abbrev pub read_end : List ℕ → Reading
read_end [] = Ok []
read_end (word ∷ rest) = Err Misfit

-- the operands of a form, from left to right, and nothing behind them
abbrev pub read_operands : Option ℕ → List OperandKind → List ℕ → Reading
read_operands width [] words = read_end words
read_operands width (kind ∷ kinds) words = and_then (read_operand width kind words) (read_operands width kinds)

-- what a call that reads may answer: the words that are left, the fault, or want of memory
abbrev pub IsRead : {A : Type 0} → (A → List ℕ) → Result A OperandError → Reading → Type 0
IsRead shown (Ok rest) reading = reading ≡ Ok (shown rest)
IsRead shown (Err NoMemory) reading = ⊤
IsRead shown (Err (Fault fault)) reading = reading ≡ Err fault

-- what a call shows that takes no memory
abbrev pub shown_reading : Result (Bor (List ℕ)) OperandFault → Reading
shown_reading (Ok rest) = Ok rest.now
shown_reading (Err fault) = Err fault
