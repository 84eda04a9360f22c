use Rattle.std.proofs.Common.{◌≡◌, ◌-◌, ◌+◌, ◌^◌, ◌≤◌, drop}
use Rattle.kern_types.specs.Kept.{start_of}
use Rattle.kern_types.proofs.steps.member_start.Given as goal

abbrev pub invariant-loop-id : goal.invariant-loop-id
invariant-loop-id l = record {
  bounded : l.end ≤ 2 ^ 40 + 1;
  left : start_of l.entries l.packed l.end (l.index - l.id-index) (drop l.id-index l.members) ≡ start_of l.entries l.packed 0 l.index l.members;
}
