use Rattle.std.proofs.Common.{◌≡◌, ◌+◌, ◌≤◌, length, drop}
use Rattle.kernel_tree.specs.Covered.{uses_fit}
use Rattle.ll_canon.proofs.uses.uses_fit.Given as goal

abbrev pub invariant-loop-inst : goal.invariant-loop-inst
invariant-loop-inst l = record {
  counted : l.above ≤ length l.kernel.params + 1 + l.inst-index;
  left : uses_fit l.defined (length l.kernel.params + 1) l.kernel.insts ≡ uses_fit l.defined l.above (drop l.inst-index l.kernel.insts);
}
