use Rattle.kern_types.proofs.EntryLemmas.{IsTable-nil}
use Rattle.kern_types.proofs.table.TypeTable.new.Goals as goal

pub invariant_of-result : goal.invariant_of-result
invariant_of-result c = rw c.new.ensures.items (IsTable-nil c.args.pointer)
