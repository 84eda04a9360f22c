use Rattle.spv_layout.specs.Forms.{operands_of}
use Rattle.spv_codec.proofs.ReadRuns.{groups-front, groups-read}
use Rattle.spv_codec.proofs.laws.operands_are_groups.Goals as goal

pub returns : goal.returns
returns c = λ opcode width words. (groups-front width (operands_of opcode) words, groups-read width (operands_of opcode) words (c.runs_stand_last.ensures opcode))
