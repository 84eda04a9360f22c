use Rattle.std.proofs.Common.{◌≡◌, None, Some, sym, ◌∙◌}
use Rattle.ports.specs.declared.faults.SpvFault.{SpvFault}
use Rattle.spv_build.proofs.laws.built_or_refused.Goals as goal

none_some : (fault : SpvFault) → None ≡ Some fault → ⊥
none_some fault e = cc

pub returns : goal.returns
returns c = λ raw m fault built refused. none_some fault (sym built.0 ∙ refused)
