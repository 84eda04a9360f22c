use Rattle.ll_items.proofs.WholeFacts.{named_same, struct_same, target_same}
use Rattle.ll_items.proofs.laws.items_are_read_in_one_way.Goals as goal

pub returns : goal.returns
returns c = record { target = target_same; struct_type = struct_same; named = named_same }
