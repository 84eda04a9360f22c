use Rattle.ll_heads.proofs.HeadsWhole.{declaration_right, declaration_whole}
use Rattle.ll_heads.proofs.laws.declarations_are_read_whole.Goals as goal

pub returns : goal.returns
returns c = record { whole = declaration_whole; right = declaration_right }
