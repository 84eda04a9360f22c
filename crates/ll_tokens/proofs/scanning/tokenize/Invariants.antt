use Rattle.std.proofs.Common.{length}
use Rattle.ll_tokens.proofs.Readings.{ReadSoFar}
use Rattle.ll_tokens.proofs.scanning.tokenize.Given as goal

abbrev pub invariant-loop-front : goal.invariant-loop-front
invariant-loop-front l = ReadSoFar l.text l.tokens.items l.rest l.label_run

abbrev pub decreases-loop-front : goal.decreases-loop-front
decreases-loop-front l = length l.rest
