use Rattle.std.proofs.Common.{sym, arith, ◌%◌, ◌≡◌, length}
use Rattle.spv_codec.proofs.ReadLoops.{read_pairs-even, read_pairs-odd}
use Rattle.spv_codec.proofs.operands.read_pairs.Goals as goal

pub returns-then-words-eq0 : goal.returns-then-words-eq0
returns-then-words-eq0 c = sym (read_pairs-even c.args.words.now c.if-words-eq0.true)

pub returns-else-words-eq0 : goal.returns-else-words-eq0
returns-else-words-eq0 c = let odd : length c.args.words.now % 2 ≡ 1 = omega arith in sym (read_pairs-odd c.args.words.now odd)
