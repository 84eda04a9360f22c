use Rattle.std.proofs.Common.{rules}
use Rattle.graph_walk.specs.Preorder.{is_seen}
use Rattle.graph_walk.proofs.depth_first.reaches.Goals as goal

pub returns : goal.returns
unfolding is_seen
returns c = search rules
