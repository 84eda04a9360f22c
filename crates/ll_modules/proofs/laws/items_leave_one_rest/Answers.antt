use Rattle.ll_modules.proofs.ItemsExact.{exact_module_item, item_is_part}
use Rattle.ll_modules.proofs.laws.items_leave_one_rest.Goals as goal

pub returns : goal.returns
returns c = λ names other i j tokens a b d e. exact_module_item.one tokens a b (item_is_part names i tokens a d) (item_is_part other j tokens b e)
