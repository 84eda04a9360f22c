use Rattle.std.proofs.Common.{◌≡◌, flat_map, drop}
use Rattle.kernel_tree.specs.Names.{used_by}
use Rattle.std.specs.Prelude.{find}
use Rattle.kernel_tree.specs.Covered.{is_undefined}
use Rattle.ll_canon.proofs.undefined.first_undefined.Given as goal

abbrev pub invariant-loop-inst : goal.invariant-loop-inst
invariant-loop-inst l = find (is_undefined l.places) (flat_map used_by l.insts) ≡ find (is_undefined l.places) (flat_map used_by (drop l.inst-index l.insts))
