use Rattle.ll_heads.proofs.HeadExact.{declaration_one, definition_one}
use Rattle.ll_heads.proofs.laws.heads_leave_one_rest.Goals as goal

pub returns : goal.returns
returns c = record { declarations = declaration_one; definitions = definition_one }
