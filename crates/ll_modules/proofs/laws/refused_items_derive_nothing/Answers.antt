use Rattle.ll_modules.proofs.ItemsExact.{exact_module_item, item_is_part}
use Rattle.ll_modules.proofs.laws.refused_items_derive_nothing.Goals as goal

pub returns : goal.returns
returns c = λ tokens refusal stops names i rest d. exact_module_item.none tokens rest refusal stops (item_is_part names i tokens rest d)
