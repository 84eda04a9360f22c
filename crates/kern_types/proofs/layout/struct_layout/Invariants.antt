use Rattle.std.proofs.Common.{◌≡◌, ◌+◌, ◌^◌, ◌<◌, ◌≤◌, drop, option_map}
use Rattle.kern_types.specs.Layouts.{struct_in}
use Rattle.kern_types.specs.Kept.{capped}
use Rattle.kern_types.proofs.StructLemmas.{left_of}
use Rattle.kern_types.proofs.layout.struct_layout.Given as goal

abbrev pub invariant-loop-id : goal.invariant-loop-id
invariant-loop-id l = record {
  bounded : l.end ≤ 2 ^ 40 + 1;
  aligned : 0 < l.align;
  align_bounded : l.align ≤ 128;
  left : left_of l.entries l.packed l.end l.align (drop l.id-index l.members) ≡ option_map capped (struct_in l.entries l.members l.packed);
}
