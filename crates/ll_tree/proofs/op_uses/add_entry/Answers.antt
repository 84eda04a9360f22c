use Rattle.std.proofs.Common.{◌≡◌, ◌-◌, ◌++◌, length, length-append, replicate, arith, ap, sym, ◌∙◌}
use Rattle.ll_tree.specs.Values.{value_names}
use Rattle.ll_tree.proofs.Answered.{on_ok, on_ok_map}
use Rattle.ll_tree.specs.Pairs.{paired_first, paired_second}
use Rattle.ll_tree.proofs.op_uses.add_entry.Goals as goal

pub returns-clause-values : goal.returns-clause-values
returns-clause-values c =
    on_ok c.add_copies.result _ (c.in_ok-add_names.ensures ∙ ap (λ xs. c.args.values.now.items ++ xs) (sym (paired_first c.args.entry.now.block.number (value_names c.args.entry.now.value))))

pub returns-clause-parents : goal.returns-clause-parents
returns-clause-parents c =
    let names = value_names c.args.entry.now.value in
    let b = c.args.entry.now.block.number in
    let lengths = ap length c.in_ok-add_names.ensures in
    let count : c.len.result - c.len-before.result ≡ length names = omega (arith, length-append c.args.values.now.items names, c.args.values.now.ok.0, c.add_names.new.names.ok.0) in
    on_ok_map c.add_copies.result _ _ (λ e. e ∙ ap (λ xs. c.args.parents.now.items ++ xs) (ap (λ n. replicate n b) count ∙ sym (paired_second b names))) c.add_copies.ensures
