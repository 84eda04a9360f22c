use Rattle.std.proofs.Common.{◌≡◌}
use Rattle.ll_insts.specs.Blocks.{blocks_of, labels_of}
use Rattle.ll_insts.proofs.blocks.unzipped.Given as goal

abbrev pub invariant-loop-placed : goal.invariant-loop-placed
invariant-loop-placed l = (l.blocks ≡ blocks_of l.fn.first l.yielded) × (l.labels ≡ labels_of l.fn.first l.yielded)
