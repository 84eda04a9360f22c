use Rattle.std.proofs.Common.{◌≡◌, ◌≤◌, false, [], drop}
use Rattle.ll_tokens.specs.Tokens.{lexemes_of}
use Rattle.ll_types.specs.Nesting.{depth_of, first_too_deep}
use Rattle.ll_types.proofs.nesting.too_deep.Given as goal

abbrev pub invariant-loop-i : goal.invariant-loop-i
invariant-loop-i l =
    (first_too_deep l.in_group l.brackets (drop l.i (lexemes_of l.tokens)) ≡ first_too_deep false [] (lexemes_of l.tokens)) × (l.depth ≡ depth_of l.brackets) × (l.depth ≤ 100)
