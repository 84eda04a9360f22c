use Rattle.std.proofs.Common.{sym, ◌∙◌}
use Rattle.spv_build.proofs.laws.built_modules_are_one.Goals as goal

pub returns : goal.returns
returns c = λ raw m n first second. first.1 ∙ sym second.1
