-- What readers of the grammar's parts answer.
use Rattle.std.specs.Prelude.{◌≡◌, List}
use Rattle.ll_tokens.specs.Tokens.{Lexeme}
use Rattle.ll_tree.specs.declared.name.NameText.{NameText}
use Rattle.ll_parser.specs.NameReading.{DerivesNoneWith}
use Rattle.ll_parser.specs.Productions.{Production}
use Rattle.ll_parser.specs.Reading.{EndsNowhere}
use Rattle.kernel_tree.specs.declared.kernel.Kernel.{Kernel}
use Rattle.kernel_text.specs.declared.error.KernelTextError.{KernelTextError}
use Rattle.kernel_text.specs.declared.error.KernelTextError.TheVariants.{NoMemory, Outside}
use Rattle.kernel_text.specs.declared.phrases.Phrase.{Phrase}
use Rattle.kernel_text.specs.Grammar.{IsKernelText}
use Rattle.kernel_text.specs.Phrases.{words_of}

-- where no value is read, none is derived, whatever the table of names, but for want of memory
abbrev pub Fails : {A : Type 0} → (List NameText → A → Production) → List Lexeme → KernelTextError → Type 0
Fails item tokens NoMemory = Unit {0}
Fails item tokens Outside = DerivesNoneWith item tokens

-- the phrase doesn't begin the tokens
pub record PhraseFails (phrase : Phrase) (tokens : List Lexeme) (error : KernelTextError) : Type 0 where
  pub outside : error ≡ Outside
  pub none : EndsNowhere (words_of phrase) tokens

-- the tokens are no kernel's, where none is read but for want of memory
abbrev pub NoKernel : List Lexeme → KernelTextError → Type 0
NoKernel tokens NoMemory = Unit {0}
NoKernel tokens Outside = (kernel : Kernel) → IsKernelText tokens kernel → ⊥
