use Rattle.ll_heads.proofs.HeadsWhole.{definition_right, definition_whole}
use Rattle.ll_heads.proofs.laws.definition_starts_are_read_whole.Goals as goal

pub returns : goal.returns
returns c = record { whole = definition_whole; right = definition_right }
