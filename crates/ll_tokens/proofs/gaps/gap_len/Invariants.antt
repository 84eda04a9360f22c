use Rattle.std.proofs.Common.{◌≡◌, drop}
use Rattle.ll_tokens.specs.Tokens.{behind, behind_gap}
use Rattle.ll_tokens.proofs.gaps.gap_len.Given as goal

abbrev pub invariant-loop-at : goal.invariant-loop-at
invariant-loop-at l = behind l.in_comment (drop l.at l.bytes) ≡ behind_gap l.bytes
