-- The parts of a kernel's text as they are read, each with as many tokens as belong to it.
use Rattle.std.specs.Prelude.{◌≡◌, ℕ, ◌⊎◌, Bool, true, false, List, [], ◌∷◌}
use Rattle.ll_tokens.specs.declared.kinds.TokenKind.TheVariants.{Label}
use Rattle.ll_tokens.specs.Tokens.{Lexeme}
use Rattle.ll_tree.specs.declared.name.Name.{Name}
use Rattle.ll_tree.specs.declared.name.NameText.{NameText}
use Rattle.ll_parser.specs.GrammarFunctions.{IsNumbered, begins_at}
use Rattle.ll_parser.specs.NameReading.{DerivesNoneWith, any_of}
use Rattle.ll_parser.specs.Productions.{Production, ◌>>◌, each, listed, each_behind_comma}
use Rattle.ll_parser.specs.Reading.{EndsNowhere}
use Rattle.kernel_tree.specs.declared.kernel.KernelInst.{KernelInst}
use Rattle.kernel_tree.specs.declared.kernel.KernelInst.TheVariants.{Add, Load, Store}
use Rattle.kernel_tree.specs.declared.kernel.KernelParam.{KernelParam}
use Rattle.kernel_text.specs.declared.blocks.BlockText.{BlockText}
use Rattle.kernel_text.specs.declared.error.KernelTextError.{KernelTextError}
use Rattle.kernel_text.specs.declared.error.KernelTextError.TheVariants.{NoMemory, Outside}
use Rattle.kernel_text.specs.declared.name_sorts.NameSort.TheVariants as sort
use Rattle.kernel_text.specs.declared.operands.Access.{Access}
use Rattle.kernel_text.specs.declared.operands.Operation.{Operation}
use Rattle.kernel_text.specs.declared.operands.Operation.TheVariants as op
use Rattle.kernel_text.specs.declared.operands.StoreOperands.{StoreOperands}
use Rattle.kernel_text.specs.declared.phrases.Phrase.TheVariants as phrase
use Rattle.kernel_text.specs.declared.signatures.Signature.{Signature}
use Rattle.kernel_text.specs.Grammar.{targets, suffix, param, inst, inst_with, block_name}
use Rattle.kernel_text.specs.NameSorts.{written_name}
use Rattle.kernel_text.specs.Phrases.{words_of}

-- no comma begins the tokens
abbrev pub NoComma : List Lexeme → Type 0
NoComma tokens = EndsNowhere (words_of phrase.Comma) tokens

-- an alignment where a comma stands
abbrev pub align_here : Bool → Production
align_here true tokens rest = words_of phrase.Align tokens rest
align_here false tokens rest = NoComma tokens × (tokens ≡ rest)

-- two names with a comma between them
abbrev pub pair : List NameText → Name × Name → Production
pair names p = written_name sort.Value names p.0 >> words_of phrase.Comma >> written_name sort.Value names p.1

abbrev pub access : List NameText → Access → Production
access names a = written_name sort.Value names a.pointer >> align_here a.is_aligned

abbrev pub store_operands : List NameText → StoreOperands → Production
store_operands names s = written_name sort.Value names s.value >> words_of phrase.PointerOperand >> access names s.access

abbrev pub load : List NameText → Access → Production
load names a = words_of phrase.LoadWords >> access names a

-- what stands behind the name that an instruction defines
abbrev pub operation : List NameText → Operation → Production
operation names (op.Add left right) = words_of phrase.AddWords >> pair names (left, right)
operation names (op.Load a) = load names a

abbrev pub defining : Name → Operation → KernelInst
defining name (op.Add left right) = Add name left right
defining name (op.Load a) = Load name a.pointer a.is_aligned

abbrev pub storing : StoreOperands → KernelInst
storing s = Store s.value s.access.pointer s.access.is_aligned

abbrev pub definition : List NameText → Name × Operation → Production
definition names d = written_name sort.Value names d.0 >> operation names d.1

abbrev pub inst_here : List NameText → KernelInst → Production
inst_here = inst_with align_here

-- `ret` begins the tokens
abbrev pub AtReturn : List Lexeme → Type 0
AtReturn tokens = (rest : List Lexeme) × words_of phrase.Return tokens rest

abbrev pub typed_name : List NameText → KernelParam → Production
typed_name names p = suffix p.value_type >> written_name sort.Value names p.name

abbrev pub next_param : List NameText → KernelParam → Production
next_param names p = words_of phrase.Comma >> param names p

-- as many items as there are: the next one can't begin behind them
abbrev pub all_of : {A : Type 0} → (List NameText → A → Production) → (List Lexeme → Type 0) → List NameText → List A → Production
all_of item Stop names xs tokens rest = each (item names) xs tokens rest × Stop rest

-- an item is to come, and none does
abbrev pub NextFails : {A : Type 0} → (List NameText → A → Production) → (List Lexeme → Type 0) → List Lexeme → KernelTextError → Type 0
NextFails item Stop tokens NoMemory = Unit {0}
NextFails item Stop tokens Outside = (Stop tokens → ⊥) × DerivesNoneWith item tokens

-- parameters behind the first, with the `) {` behind them
abbrev pub params_end : List NameText → List KernelParam → Production
params_end names ps = each_behind_comma (param names) ps >> words_of phrase.BodyStart

-- the first parameter and what stands behind it
abbrev pub some_params : List NameText → List KernelParam → Production
some_params names [] tokens rest = ⊥
some_params names (p ∷ ps) tokens rest = (param names p >> params_end names ps) tokens rest

abbrev pub params : List NameText → List KernelParam → Production
params names ps = listed (param names) ps >> words_of phrase.BodyStart

abbrev pub insts_end : List NameText → List KernelInst → Production
insts_end names is = each (inst names) is >> words_of phrase.BodyEnd

-- no label begins the tokens
abbrev pub NoLabel : List Lexeme → Type 0
NoLabel tokens = EndsNowhere (any_of Label) tokens

abbrev pub block_name_here : ℕ → List NameText → Name → Production
block_name_here next names name tokens rest =
    written_name sort.Label names name tokens rest
    ⊎ (IsNumbered names name.number next × begins_at names name.byte tokens × (tokens ≡ rest) × NoLabel tokens)

abbrev pub block : ℕ → List NameText → BlockText → Production
block next names b = block_name next names b.name >> insts_end names b.insts

abbrev pub head : Bool → Production
head has_targets = targets has_targets >> words_of phrase.KernelWords

abbrev pub signature : List NameText → Signature → Production
signature names s =
    head s.has_targets >> written_name sort.Kernel names s.name >> words_of phrase.ParamsStart >> params names s.params
