-- The operands of an instruction as groups of words, one group an operand (SPIR-V 1.2, 2.2.1 and 3.32).
use Rattle.std.specs.Prelude.{◌≡◌, ℕ, Bool, true, false, List, [], ◌∷◌, ◌++◌, length, Option, IsTrue, All, ◌⊎◌, ⊤}
use Rattle.std.specs.List.{flat_map}
use Rattle.spv_words.specs.Strings.{BeginsString}
use Rattle.spv_layout.specs.declared.operands.EnumKind.{EnumKind}
use Rattle.spv_layout.specs.declared.operands.ExtraOperand.{ExtraOperand}
use Rattle.spv_layout.specs.declared.operands.ExtraOperand.TheVariants.{W as Word, S as Text, E as Enum}
use Rattle.spv_layout.specs.declared.operands.OperandKind.{OperandKind}
use Rattle.spv_layout.specs.declared.operands.OperandKind.TheVariants.{T, R, I, W, S, N, E, OptI, OptIS, OptWW, OptE, ManyI, ManyW, ManyII, ManyNI}
use Rattle.spv_layout.specs.Enumerants.{is_known, extra_operands_of}
use Rattle.spv_codec.specs.Operands.{is_wide, fits_width}

-- one word
abbrev pub IsWord : List ℕ → Type 0
IsWord words = (word : ℕ) × (words ≡ word ∷ [])

-- the words of a literal string
abbrev pub IsString : List ℕ → Type 0
IsString words = (text : List ℕ) × BeginsString words text (length words)

-- the words of a literal number: two of 64 bits, else one, with no bits above the width of its type
abbrev pub IsNumberOf : Bool → Option ℕ → List ℕ → Type 0
IsNumberOf true width words = (low : ℕ) × (high : ℕ) × (words ≡ low ∷ high ∷ [])
IsNumberOf false width words = (word : ℕ) × (words ≡ word ∷ []) × IsTrue (fits_width width word)

abbrev pub IsNumber : Option ℕ → List ℕ → Type 0
IsNumber width words = IsNumberOf (is_wide width) width words

-- an enumerant that nothing follows
abbrev pub IsPlain : EnumKind → List ℕ → Type 0
IsPlain kind words = (word : ℕ) × (words ≡ word ∷ []) × IsTrue (is_known kind word)

abbrev pub IsExtra : ExtraOperand → List ℕ → Type 0
IsExtra Word words = IsWord words
IsExtra Text words = IsString words
IsExtra (Enum kind) words = IsPlain kind words

-- words in two parts
pub record InParts (words : List ℕ) (First Second : List ℕ → Type 0) : Type 0 where
  pub front : List ℕ
  pub back : List ℕ
  pub whole : words ≡ front ++ back
  pub first : First front
  pub second : Second back

-- one group for each of these
abbrev pub AreExtras : List ExtraOperand → List ℕ → Type 0
AreExtras [] words = words ≡ []
AreExtras (extra ∷ extras) words = InParts words (IsExtra extra) (AreExtras extras)

-- an enumerant or a mask, and the groups of what follows it
pub record IsEnumerant (kind : EnumKind) (words : List ℕ) : Type 0 where
  pub word : ℕ
  pub extra : List ℕ
  pub whole : words ≡ word ∷ extra
  pub known : IsTrue (is_known kind word)
  pub extras : AreExtras (extra_operands_of kind word) extra

-- nothing, or a group
abbrev pub IsOptional : (List ℕ → Type 0) → List ℕ → Type 0
IsOptional Group words = (words ≡ []) ⊎ Group words

-- an id, and a string behind it or nothing
abbrev pub IsIdAndString : List ℕ → Type 0
IsIdAndString words = InParts words IsWord (IsOptional IsString)

-- pairs of words
abbrev pub ArePairs : List ℕ → Type 0
ArePairs words = (pairs : List (ℕ × ℕ)) × (words ≡ flat_map (λ pair. pair.0 ∷ pair.1 ∷ []) pairs)

-- the number and the id of a case of a switch
pub record Case : Type 0 where
  pub number : List ℕ
  pub label : ℕ

-- pairs of a literal number and an id
pub record AreCases (width : Option ℕ) (words : List ℕ) : Type 0 where
  pub cases : List Case
  pub whole : words ≡ flat_map (λ case. case.number ++ case.label ∷ []) cases
  pub numbers : All (λ case. IsNumber width case.number) cases

-- the words of an operand of a form, where its literal numbers have this width
abbrev pub IsGroup : Option ℕ → OperandKind → List ℕ → Type 0
IsGroup width T words = IsWord words
IsGroup width R words = IsWord words
IsGroup width I words = IsWord words
IsGroup width W words = IsWord words
IsGroup width S words = IsString words
IsGroup width N words = IsNumber width words
IsGroup width (E kind) words = IsEnumerant kind words
IsGroup width OptI words = IsOptional IsWord words
IsGroup width OptIS words = IsOptional IsIdAndString words
IsGroup width OptWW words = IsOptional (λ ws. InParts ws IsWord IsWord) words
IsGroup width (OptE kind) words = IsOptional (IsEnumerant kind) words
IsGroup width ManyI words = ⊤
IsGroup width ManyW words = ⊤
IsGroup width ManyII words = ArePairs words
IsGroup width ManyNI words = AreCases width words

-- the operand words of an instruction are one group for each operand of its form, in order
abbrev pub AreGroups : Option ℕ → List OperandKind → List ℕ → Type 0
AreGroups width [] words = words ≡ []
AreGroups width (kind ∷ kinds) words = InParts words (IsGroup width kind) (AreGroups width kinds)
