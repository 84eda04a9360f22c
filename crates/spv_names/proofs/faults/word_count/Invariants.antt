use Rattle.std.proofs.Common.{◌≡◌, ◌+◌, length, take}
use Rattle.spv_codec.specs.Instructions.{spellings}
use Rattle.spv_names.proofs.faults.word_count.Given as goal

abbrev pub invariant-loop-inst : goal.invariant-loop-inst
invariant-loop-inst l = l.count ≡ 5 + length (spellings (take l.inst-index l.insts))
