-- What holds of the text of every kernel.
use Rattle.std.specs.Prelude.{◌≡◌, List, None}
use Rattle.ll_tokens.specs.Tokens.{Lexeme}
use Rattle.ll_tree.specs.declared.module.LlModule.{LlModule}
use Rattle.ll_parser.specs.GrammarItems.{IsModule}
use Rattle.ll_types.specs.Nesting.{nesting_refusal}
use Rattle.kernel_tree.specs.declared.kernel.Kernel.{Kernel}
use Rattle.kernel_text.specs.Grammar.{IsKernelText}

-- the tokens of a kernel are those of a module
abbrev pub KernelsAreOfModules : Type 0
KernelsAreOfModules = (tokens : List Lexeme) (kernel : Kernel) → IsKernelText tokens kernel → (m : LlModule) × IsModule tokens m

-- no bracket among them is nested too deep
abbrev pub KernelsNestNoDeeper : Type 0
KernelsNestNoDeeper = (tokens : List Lexeme) (kernel : Kernel) → IsKernelText tokens kernel → nesting_refusal tokens ≡ None
