use Rattle.std.proofs.Common.{ap, nat_eq, rules, ◌∙◌, arith, le_refl}
use Rattle.inst_walk.specs.Renaming.{renamed_name}
use Rattle.ll_tree.specs.declared.value.Value.{GetElementPtr, Cast}
use Rattle.ll_tree.proofs.ValueShapes.{getelementptr_changed, cast_changed}
use Rattle.ll_tree.specs.Values.{typed_renamed}
use Rattle.ll_tree.proofs.Seqs.{front_changed}
use Rattle.ll_tree.proofs.renaming.+rename_values.Goals as goal

pub rename_all-loop-i-preserved : goal.rename_all-loop-i-preserved
rename_all-loop-i-preserved t c =
    (search rules, front_changed _ _ _ _ c.index-parts-i.result _ c.loop-i.invariant.1 c.loop-i-test.true (omega arith) (c.rename_typed.ensures ∙ ap (typed_renamed (renamed_name nat_eq c.args.names.now)) (c.loop-i.invariant.0.1 c.loop-i.i _ (le_refl _))))

pub renamed_value-returns-in-GetElementPtr : goal.renamed_value-returns-in-GetElementPtr
renamed_value-returns-in-GetElementPtr t c =
    rw (c.in-GetElementPtr.is, getelementptr_changed) (ap (GetElementPtr c.in-GetElementPtr.inbounds c.in-GetElementPtr.ty) c.renamed_parts-in-GetElementPtr.ensures)

pub renamed_value-returns-in-Cast : goal.renamed_value-returns-in-Cast
renamed_value-returns-in-Cast t c =
    rw (c.in-Cast.is, cast_changed) (ap (λ x. Cast c.in-Cast.kind x c.in-Cast.to) c.renamed_operand.ensures)
