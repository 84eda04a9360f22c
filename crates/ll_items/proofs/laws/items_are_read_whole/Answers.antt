use Rattle.ll_items.proofs.VariableWhole.{variable_right, variable_whole}
use Rattle.ll_items.proofs.WholeFacts.{group_dropped, source_dropped, struct_right, struct_whole}
use Rattle.ll_items.proofs.laws.items_are_read_whole.Goals as goal

pub returns : goal.returns
returns c = record {
  struct_right = struct_right;
  struct_whole = struct_whole;
  variable_right = variable_right;
  variable_whole = variable_whole;
  source = source_dropped;
  group = group_dropped;
}
