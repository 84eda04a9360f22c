use Rattle.ll_tree.proofs.ValueShapes.{getelementptr_names, cast_names}
use Rattle.ll_tree.proofs.uses.+names.Goals as goal

pub add_names-returns-in-GetElementPtr : goal.add_names-returns-in-GetElementPtr
add_names-returns-in-GetElementPtr t c =
    rw (c.in-GetElementPtr.is, getelementptr_names, ← c.as_slice-in-GetElementPtr.ensures) c.add_all_names-in-GetElementPtr.ensures

pub add_names-returns-in-Cast : goal.add_names-returns-in-Cast
add_names-returns-in-Cast t c = rw (c.in-Cast.is, cast_names, ← c.get.ensures) c.add_names.ensures
