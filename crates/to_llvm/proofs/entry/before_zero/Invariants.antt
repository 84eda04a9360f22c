use Rattle.std.proofs.Common.{◌≡◌, ◌++◌, drop}
use Rattle.to_llvm.specs.Guesses.{before_zero}
use Rattle.to_llvm.proofs.entry.before_zero.Given as goal

abbrev pub invariant-loop-byte : goal.invariant-loop-byte
invariant-loop-byte l = before_zero l.bytes ≡ l.text.items ++ before_zero (drop l.byte-index l.bytes)
