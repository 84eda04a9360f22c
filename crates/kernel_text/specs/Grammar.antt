-- The text of kernels of the covered subset (LLVM 14, Module Structure; Functions; Instruction Reference).
use Rattle.std.specs.Prelude.{◌≡◌, ℕ, ◌⊎◌, Bool, true, false, List, [], map}
use Rattle.ll_tokens.specs.Tokens.{Lexeme}
use Rattle.ll_tree.specs.declared.name.Name.{Name}
use Rattle.ll_tree.specs.declared.name.NameText.{NameText}
use Rattle.ll_parser.specs.GrammarFunctions.{IsNumbered, next_after, begins_at}
use Rattle.ll_parser.specs.Productions.{Production, nothing, ◌>>◌, each, listed}
use Rattle.ll_parser.specs.Tables.{NoNameTwice}
use Rattle.kernel_tree.specs.declared.kernel.Kernel.{Kernel}
use Rattle.kernel_tree.specs.declared.kernel.KernelInst.{KernelInst}
use Rattle.kernel_tree.specs.declared.kernel.KernelInst.TheVariants.{Add, Load, Store}
use Rattle.kernel_tree.specs.declared.kernel.KernelParam.{KernelParam}
use Rattle.kernel_tree.specs.declared.kernel.ValueType.{ValueType}
use Rattle.kernel_tree.specs.declared.kernel.ValueType.TheVariants.{Int, Pointer}
use Rattle.kernel_text.specs.declared.name_sorts.NameSort.TheVariants as sort
use Rattle.kernel_text.specs.declared.phrases.Phrase.TheVariants as phrase
use Rattle.kernel_text.specs.NameSorts.{written_name}
use Rattle.kernel_text.specs.Phrases.{words_of}

-- the two target lines, or nothing
abbrev pub targets : Bool → Production
targets true = words_of phrase.TargetLines
targets false = nothing

-- what stands behind `i32` in a type
abbrev pub suffix : ValueType → Production
suffix Int = nothing
suffix Pointer = words_of phrase.PointerSuffix

abbrev pub param : List NameText → KernelParam → Production
param names p = words_of phrase.IntType >> suffix p.value_type >> written_name sort.Value names p.name

abbrev pub align : Bool → Production
align true = words_of phrase.Align
align false = nothing

-- an instruction, given what stands for its alignment
abbrev pub inst_with : (Bool → Production) → List NameText → KernelInst → Production
inst_with aligned names (Add sum left right) =
    written_name sort.Value names sum >> words_of phrase.AddWords >> written_name sort.Value names left >> words_of phrase.Comma >> written_name sort.Value names right
inst_with aligned names (Load loaded pointer is_aligned) =
    written_name sort.Value names loaded >> words_of phrase.LoadWords >> written_name sort.Value names pointer >> aligned is_aligned
inst_with aligned names (Store value pointer is_aligned) =
    words_of phrase.StoreWords >> written_name sort.Value names value >> words_of phrase.PointerOperand >> written_name sort.Value names pointer >> aligned is_aligned

abbrev pub inst : List NameText → KernelInst → Production
inst = inst_with align

-- the label of the block, or the next number at the place of the block's first token
abbrev pub block_name : ℕ → List NameText → Name → Production
block_name next names name tokens rest =
    written_name sort.Label names name tokens rest
    ⊎ (IsNumbered names name.number next × begins_at names name.byte tokens × (tokens ≡ rest))

-- the next number behind those of the parameters
abbrev pub number_behind : List NameText → List KernelParam → ℕ
number_behind names params = next_after names (map (λ p. p.name.number) params) 0

abbrev pub kernel : List NameText → Kernel → Production
kernel names k =
    targets k.has_targets >> words_of phrase.KernelWords >> written_name sort.Kernel names k.name >>
    words_of phrase.ParamsStart >> listed (param names) k.params >> words_of phrase.BodyStart >>
    block_name (number_behind names k.params) names k.block >> each (inst names) k.insts >> words_of phrase.BodyEnd

-- The tokens are those of the kernel. Which numbers its table gives to names is left open, but that no name has two
pub record IsKernelText (tokens : List Lexeme) (k : Kernel) : Type 0 where
  pub reads : kernel k.names k tokens []
  pub distinct : NoNameTwice k.names
