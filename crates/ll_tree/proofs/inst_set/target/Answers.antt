use Rattle.std.proofs.Common.{◌<◌, ◌-◌, length, ◌∙◌, arith}
use Rattle.std.proofs.lemmas.List.{length-map}
use Rattle.ll_tree.specs.declared.op.SwitchCase.{SwitchCase}
use Rattle.ll_tree.specs.Names.{number_of}
use Rattle.ll_tree.proofs.Targets.{got_behind, got_mapped}
use Rattle.ll_tree.proofs.inst_set.target.Goals as goal

pub returns-in-Switch-2 : goal.returns-in-Switch-2
returns-in-Switch-2 c =
    let within = rw c.in-Switch-2.is at c.requires in
    let counted = length-map c.in-Switch-2.cases (λ (s : SwitchCase). s.target) in
    let lt : c.args.i - 1 < length c.in-Switch-2.cases = omega (arith, within, counted) in
    rw (c.in-Switch-2.is, c.as_slice.ensures) (got_behind _ _ _ c.if-i-eq0-2.false ∙ got_mapped number_of (λ (s : SwitchCase). s.target) _ _ c.index-as_slice-i.result lt)
