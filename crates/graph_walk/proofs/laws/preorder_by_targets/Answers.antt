use Rattle.graph_walk.proofs.Depth.{preorder-step}
use Rattle.graph_walk.proofs.laws.preorder_by_targets.Goals as goal

pub returns : goal.returns
returns c = λ rows node seen graph inside. preorder-step rows graph node seen inside
