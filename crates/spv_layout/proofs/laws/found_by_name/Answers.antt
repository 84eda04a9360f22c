use Rattle.spv_layout.proofs.NameLemmas.{opcode_named-name_text}
use Rattle.spv_layout.proofs.laws.found_by_name.Goals as goal

pub returns : goal.returns
returns c = opcode_named-name_text
