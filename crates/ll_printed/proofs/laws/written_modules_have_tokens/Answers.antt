use Rattle.ll_printed.proofs.ModulesAgain.{with-tokens}
use Rattle.ll_printed.proofs.laws.written_modules_have_tokens.Goals as goal

pub returns : goal.returns
returns c = with-tokens
