use Rattle.std.proofs.Common.{◌≡◌, ◌++◌, flat_map, take}
use Rattle.spv_module.specs.Sections.{block_spelled}
use Rattle.spv_module.proofs.flattening.add_blocks.Given as goal

abbrev pub invariant-loop-block : goal.invariant-loop-block
invariant-loop-block l = l.insts.items ≡ l.initial.insts.items ++ flat_map block_spelled (take l.block-index l.blocks)
