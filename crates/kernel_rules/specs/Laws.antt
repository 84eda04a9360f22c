-- What follows of the definitions.
use Rattle.std.specs.Prelude.{◌≡◌, ℕ, List}
use Rattle.std.specs.Option.{option_map}
use Rattle.rule_order.specs.Breaks.{first_refusal}
use Rattle.ll_tokens.specs.Tokens.{IsTokens, Lexeme}
use Rattle.kernel_text.specs.Grammar.{IsKernelText}
use Rattle.kernel_tree.specs.declared.kernel.Kernel.{Kernel}
use Rattle.kernel_tree.specs.Covered.{first_undefined}
use Rattle.kernel_rules.specs.Rules.{name_rules, undefined_at}

-- of the names that a text uses and defines nowhere, the first in its order is the one at the least place
abbrev pub FirstUndefinedIsFirst : Type 0
FirstUndefinedIsFirst =
    (text : List ℕ) (tokens : List Lexeme) (kernel : Kernel) → IsTokens text tokens → IsKernelText tokens kernel
    → first_refusal (name_rules kernel) ≡ option_map undefined_at (first_undefined kernel)
