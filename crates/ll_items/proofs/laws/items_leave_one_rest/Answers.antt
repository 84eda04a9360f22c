use Rattle.ll_items.proofs.ItemFacts.{exact_group, exact_node, exact_source, exact_struct, node_is_part, struct_is_part}
use Rattle.ll_items.proofs.VariableFacts.{exact_variable, variable_is_part}
use Rattle.ll_items.proofs.laws.items_leave_one_rest.Goals as goal

pub returns : goal.returns
returns c = record {
  struct_type = λ names other s t tokens a b d e. exact_struct.one tokens a b (struct_is_part names s tokens a d) (struct_is_part other t tokens b e);
  node = λ names other n m tokens a b d e. exact_node.one tokens a b (node_is_part names n tokens a d) (node_is_part other m tokens b e);
  variable = λ names other v w tokens a b d e. exact_variable.one tokens a b (variable_is_part names v tokens a d) (variable_is_part other w tokens b e);
  source = exact_source.one;
  group = exact_group.one;
}
