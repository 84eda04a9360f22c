use Rattle.std.proofs.Common.{◌*◌, take}
use Rattle.spv_words.specs.declared.words.Order.TheVariants.{Little}
use Rattle.spv_words.specs.Words.{IsWords}
use Rattle.spv_words.proofs.strings.little_words.Given as goal

-- the words so far are those of the bytes so far
abbrev pub invariant-loop-i : goal.invariant-loop-i
invariant-loop-i l = IsWords (take (4 * l.i) l.bytes) Little l.words.items
