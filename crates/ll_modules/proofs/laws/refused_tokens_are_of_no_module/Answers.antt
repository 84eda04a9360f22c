use Rattle.ll_modules.proofs.ItemsWhole.{refused_of_none}
use Rattle.ll_modules.proofs.laws.refused_tokens_are_of_no_module.Goals as goal

pub returns : goal.returns
returns c = refused_of_none
