-- Binaries (SPIR-V 1.2, 2.3 "Physical Layout of a SPIR-V Module and Instruction"): the module that bytes spell, and the first rule that they
-- break.
use Rattle.std.specs.Prelude.{◌≡◌, ℕ, ◌+◌, ◌^◌, ◌<◌, ◌≤◌, ◌==◌, nat_lt, nat_le, Bool, not, ◌&&◌, if◌then◌else◌, List, [], ◌∷◌, ◌++◌, length, take, Option, Some, None, All, ⊤, ◌⊎◌}
use Rattle.std.specs.List.{list_any}
use Rattle.ports.specs.declared.faults.SpvFault.{SpvFault}
use Rattle.ports.specs.declared.faults.SpvError.{SpvError}
use Rattle.ports.specs.declared.faults.SpvError.TheVariants.{NoMemory, Fault}
use Rattle.spv_words.specs.declared.words.Order.{Order}
use Rattle.spv_words.specs.declared.words.TheConstants.{MAGIC}
use Rattle.spv_words.specs.Words.{words_bytes}
use Rattle.spv_words.specs.Feeds.{magic_order}
use Rattle.spv_codec.specs.declared.module.RawInst.{RawInst}
use Rattle.spv_codec.specs.declared.module.RawModule.{RawModule}
use Rattle.spv_codec.specs.Instructions.{spellings, AllFit, IsInstFault}

abbrev pub fault_at : ℕ → ℕ → SpvFault
fault_at rule word = record { rule = rule; word = word }

-- the version words of 1.0, 1.1 and 1.2
abbrev pub is_version : ℕ → Bool
is_version word = list_any (λ version. version == word) (0x10000 ∷ 0x10100 ∷ 0x10200 ∷ [])

-- a bound is at least 1, and at most 4,194,303 (SPIR-V 1.2, 2.17 "Universal Limits")
abbrev pub is_bound : ℕ → Bool
is_bound word = nat_lt 0 word && nat_le word 0x3FFFFF

-- the first rule that a header breaks: rule 4 of its version, rule 6 of its bound, or rule 5 of its schema, which is 0
abbrev pub header_fault : ℕ → ℕ → ℕ → Option SpvFault
header_fault version bound schema =
    if not (is_version version) then Some (fault_at 4 1)
    else (if not (is_bound bound) then Some (fault_at 6 3)
    else (if schema == 0 then None else Some (fault_at 5 4)))

-- the words of a module: the magic number, the version, the generator, the bound, the schema, and the instructions
abbrev pub module_words : RawModule → List ℕ
module_words raw = MAGIC ∷ raw.version ∷ raw.generator ∷ raw.bound ∷ 0 ∷ spellings raw.insts

-- a module keeps the rules of framing
pub record IsRight (raw : RawModule) : Type 0 where
  pub header : header_fault raw.version raw.bound 0 ≡ None
  pub generator : raw.generator < 2 ^ 32
  pub fit : AllFit [] raw.insts

-- bytes spell a module
pub record IsSpirv (bytes : List ℕ) (raw : RawModule) : Type 0 where
  pub spelled : bytes ≡ words_bytes raw.order (module_words raw)
  pub right : IsRight raw

-- bytes begin with the words of a header, behind which stand whole words and the bytes of an incomplete one
pub record Opens (bytes : List ℕ) (order : Order) (version generator bound schema : ℕ) (body rest : List ℕ) : Type 0 where
  pub spelled : bytes ≡ words_bytes order (MAGIC ∷ version ∷ generator ∷ bound ∷ schema ∷ body) ++ rest
  pub in_range : All (λ word. word < 2 ^ 32) (MAGIC ∷ version ∷ generator ∷ bound ∷ schema ∷ body)
  pub short : length rest < 4

-- the bytes are fewer than a header has: rule 1, where there is but an incomplete word, else rule 2
abbrev pub short_fault : ℕ → SpvFault
short_fault count = if nat_lt 0 count && nat_lt count 4 then fault_at 1 0 else fault_at 2 0

pub record IsShort (bytes : List ℕ) (fault : SpvFault) : Type 0 where
  pub short : length bytes < 20
  pub due : fault ≡ short_fault (length bytes)

-- the first four bytes are the magic number in neither order
pub record IsStrange (bytes : List ℕ) (fault : SpvFault) : Type 0 where
  pub enough : 20 ≤ length bytes
  pub neither : magic_order (take 4 bytes) ≡ None
  pub due : fault ≡ fault_at 3 0

-- a word of the header is not allowed
pub record IsHeaderFault (bytes : List ℕ) (fault : SpvFault) : Type 0 where
  pub order : Order
  pub version : ℕ
  pub generator : ℕ
  pub bound : ℕ
  pub schema : ℕ
  pub body : List ℕ
  pub rest : List ℕ
  pub opens : Opens bytes order version generator bound schema body rest
  pub due : header_fault version bound schema ≡ Some fault

-- the header is right, and an instruction breaks a rule
pub record IsBodyFault (bytes : List ℕ) (fault : SpvFault) : Type 0 where
  pub order : Order
  pub version : ℕ
  pub generator : ℕ
  pub bound : ℕ
  pub schema : ℕ
  pub body : List ℕ
  pub rest : List ℕ
  pub opens : Opens bytes order version generator bound schema body rest
  pub header : header_fault version bound schema ≡ None
  pub inst : IsInstFault body fault

-- the header and the instructions are right, and an incomplete word stands behind them
pub record IsCut (bytes : List ℕ) (fault : SpvFault) : Type 0 where
  pub order : Order
  pub version : ℕ
  pub generator : ℕ
  pub bound : ℕ
  pub schema : ℕ
  pub body : List ℕ
  pub rest : List ℕ
  pub opens : Opens bytes order version generator bound schema body rest
  pub header : header_fault version bound schema ≡ None
  pub insts : List RawInst
  pub spelled : body ≡ spellings insts
  pub fit : AllFit [] insts
  pub more : 0 < length rest
  pub due : fault ≡ fault_at 1 (5 + length body)

-- the rule of framing that bytes break first: at the least place, and of those there the one with the least number
abbrev pub IsFramingFault : List ℕ → SpvFault → Type 0
IsFramingFault bytes fault =
    IsShort bytes fault ⊎ IsStrange bytes fault ⊎ IsHeaderFault bytes fault ⊎ IsBodyFault bytes fault ⊎ IsCut bytes fault

-- why bytes weren't decoded
abbrev pub IsFramingError : List ℕ → SpvError → Type 0
IsFramingError bytes NoMemory = ⊤
IsFramingError bytes (Fault fault) = IsFramingFault bytes fault

-- the whole words of bytes that begin with the magic number, and what is behind them
pub record HasWords (bytes : List ℕ) (order : Order) (words : List ℕ) : Type 0 where
  pub rest : List ℕ
  pub spelled : bytes ≡ words_bytes order words ++ rest
  pub short : length rest < 4
  pub magic : magic_order (take 4 bytes) ≡ Some order

abbrev pub IsStrangeError : List ℕ → SpvError → Type 0
IsStrangeError bytes NoMemory = ⊤
IsStrangeError bytes (Fault fault) = IsStrange bytes fault
