-- The operands of an instruction of a function body in the order of its form (SPIR-V 1.2, 2.3 and 3.32).
use Rattle.std.specs.Prelude.{ℕ, ◌/◌, ◌==◌, if◌then◌else◌, List, [], ◌∷◌, ◌++◌, length, take, drop}
use Rattle.spv_codec.specs.Ids.{kinds_of}
use Rattle.spv_codec.specs.declared.module.RawInst.{RawInst}
use Rattle.spv_layout.specs.declared.operands.OperandKind.{OperandKind}
use Rattle.spv_layout.specs.declared.operands.OperandKind.TheVariants.{T, R, I, W, S, N, E, OptI, OptIS, OptWW, OptE, ManyI, ManyW, ManyII, ManyNI}
use Rattle.spv_module.specs.declared.inst.SpvInst.{SpvInst}
use Rattle.spv_module.specs.declared.woven.Share.{Share}
use Rattle.spv_module.specs.declared.woven.Share.TheVariants.{Nothing, One, All}

-- how many of the ids that are left an operand takes
abbrev pub id_share : OperandKind → Share
id_share T = Nothing
id_share R = Nothing
id_share I = One
id_share W = Nothing
id_share S = Nothing
id_share N = Nothing
id_share (E kind) = Nothing
id_share OptI = All
id_share OptIS = All
id_share OptWW = Nothing
id_share (OptE kind) = Nothing
id_share ManyI = All
id_share ManyW = Nothing
id_share ManyII = All
id_share ManyNI = All

-- how many of the literal words that are left an operand takes
abbrev pub word_share : OperandKind → Share
word_share T = Nothing
word_share R = Nothing
word_share I = Nothing
word_share W = One
word_share S = All
word_share N = All
word_share (E kind) = One
word_share OptI = Nothing
word_share OptIS = All
word_share OptWW = All
word_share (OptE kind) = All
word_share ManyI = Nothing
word_share ManyW = All
word_share ManyII = Nothing
word_share ManyNI = All

abbrev pub front : Share → List ℕ → List ℕ
front Nothing list = []
front One list = take 1 list
front All list = list

abbrev pub behind : Share → List ℕ → List ℕ
behind Nothing list = list
behind One list = drop 1 list
behind All list = []

-- the cases of an OpSwitch: so many words, and then the label
abbrev pub cases : ℕ → List ℕ → List ℕ → List ℕ
cases width [] words = words
cases width (id ∷ ids) words = take width words ++ (id ∷ cases width ids (drop width words))

-- how many words each case has
abbrev pub case_width : List ℕ → List ℕ → ℕ
case_width ids words = if length ids == 0 then 0 else length words / length ids

-- the words of one operand, which takes these ids and literal words
abbrev pub operand_words : OperandKind → SpvInst → List ℕ → List ℕ → List ℕ
operand_words T inst ids words = inst.ty ∷ []
operand_words R inst ids words = inst.result ∷ []
operand_words ManyNI inst ids words = cases (case_width ids words) ids words
operand_words kind inst ids words = ids ++ words

-- the words of the operands of a form
abbrev pub woven : SpvInst → List OperandKind → List ℕ → List ℕ → List ℕ
woven inst [] ids words = ids ++ words
woven inst (kind ∷ kinds) ids words =
    operand_words kind inst (front (id_share kind) ids) (front (word_share kind) words)
    ++ woven inst kinds (behind (id_share kind) ids) (behind (word_share kind) words)

-- the instruction as its words spell it
abbrev pub inst_spelled : SpvInst → RawInst
inst_spelled inst = record { op = inst.op; place = 0; operands = woven inst (kinds_of inst.op) inst.operands.ids inst.operands.words }
