use Rattle.std.proofs.Common.{◌∙◌, ap₂, ◌++◌, ◌∷◌, [], ℕ, List}
use Rattle.std.specs.Prelude.{codes, decimal}
use Rattle.kernel_printer.proofs.insts.load_line.Goals as goal

pub returns : goal.returns
returns c =
    c.in_ok-format.ensures.ok
    ∙ ap₂ (λ (n : ℕ) (a : List ℕ). codes "  %" ++ (decimal n ++ (codes " = load i32, " ++ (a ++ 10 ∷ [])))) c.shown-loaded.ensures c.in_ok-access.ensures
