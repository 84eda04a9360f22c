use Rattle.ll_items.proofs.ItemFacts.{exact_group, exact_named, exact_node, exact_source, exact_struct, exact_target, named_is_part, node_is_part, struct_is_part, target_is_part}
use Rattle.ll_items.proofs.VariableFacts.{exact_variable, variable_is_part}
use Rattle.ll_items.proofs.laws.refused_items_derive_nothing.Goals as goal

pub returns : goal.returns
returns c = record {
  target = λ tokens refusal stops t rest d. exact_target.none tokens rest refusal stops (target_is_part t tokens rest d);
  struct_type = λ tokens refusal stops names s rest d. exact_struct.none tokens rest refusal stops (struct_is_part names s tokens rest d);
  variable = λ tokens refusal stops names v rest d. exact_variable.none tokens rest refusal stops (variable_is_part names v tokens rest d);
  node = λ tokens refusal stops names n rest d. exact_node.none tokens rest refusal stops (node_is_part names n tokens rest d);
  named = λ tokens refusal name stops nodes rest d. exact_named.none tokens rest refusal stops (named_is_part name nodes tokens rest d);
  source = λ tokens refusal stops rest d. exact_source.none tokens rest refusal stops d;
  group = λ tokens refusal stops rest d. exact_group.none tokens rest refusal stops d;
}
