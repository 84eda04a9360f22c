-- What follows of the grammar.
use Rattle.std.specs.Prelude.{List}
use Rattle.ll_tokens.specs.Tokens.{Lexeme}
use Rattle.kernel_tree.specs.declared.kernel.Kernel.{Kernel}
use Rattle.kernel_tree.specs.Same.{IsSameKernel}
use Rattle.kernel_text.specs.Grammar.{IsKernelText}

-- tokens are those of one kernel at most, but for the numbers that its table gives to names
abbrev pub OneKernel : Type 0
OneKernel = (tokens : List Lexeme) (kernel other : Kernel) → IsKernelText tokens kernel → IsKernelText tokens other → IsSameKernel kernel other
