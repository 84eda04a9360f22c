use Rattle.std.proofs.Common.{nat_eq, map, ap, sym, ◌∙◌}
use Rattle.inst_walk.specs.Outline.{values_of, parents_of}
use Rattle.inst_walk.specs.Renaming.{renamed_name}
use Rattle.ll_tree.specs.declared.inst.Inst.{Inst}
use Rattle.ll_tree.specs.Ops.{op_takes}
use Rattle.ll_tree.proofs.UsesRenamed.{inst_values_renamed, inst_parents_renamed}
use Rattle.ll_tree.proofs.inst_set.LlInstInstSet.rename.Goals as goal

pub invariant_of-self : goal.invariant_of-self
invariant_of-self c =
    let f = renamed_name nat_eq c.args.names.now in
    let inst = c.self.inside.inst in
    let new = λ (i : Inst). values_of (op_takes i.op) in
    let parents = λ (i : Inst). parents_of (op_takes i.op) in (
      c.rename_numbers.ensures ∙ (ap (map f) c.self.invariant.0 ∙ (sym (inst_values_renamed f inst) ∙ ap new (sym c.rename_inst.ensures))),
      c.rename_numbers-2.ensures ∙ (ap (map f) c.self.invariant.1 ∙ (sym (inst_parents_renamed f inst) ∙ ap parents (sym c.rename_inst.ensures))),
    )
