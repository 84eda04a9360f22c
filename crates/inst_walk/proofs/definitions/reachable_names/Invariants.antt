use Rattle.std.proofs.Common.{◌≡◌, ℕ, ◌<◌, None, length, get_or, take}
use Rattle.inst_walk.specs.Body.{body_outline}
use Rattle.inst_walk.specs.Uses.{reached_names, start_of}
use Rattle.inst_walk.proofs.definitions.reachable_names.Given as goal

abbrev pub invariant-loop-place : goal.invariant-loop-place
invariant-loop-place g l = record {
  named : l.names.items ≡ reached_names (body_outline g.I.InstSet.outline l.body) (take l.place-index l.order);
  each : length l.starts.items ≡ length l.body.blocks;
  started : (place : ℕ) → place < length l.body.blocks → get_or l.starts.items place None ≡ start_of (body_outline g.I.InstSet.outline l.body) (take l.place-index l.order) place;
}
