use Rattle.std.proofs.Common.{Bool, ap, ap₂, sym, ◌∙◌, take}
use Rattle.std.specs.Prelude.{◌||◌}
use Rattle.std.specs.List.{list_any}
use Rattle.std.proofs.Math.Path.{fun_ext}
use Rattle.std.proofs.lemmas.List.Folds.{list_any_more}
use Rattle.spv_codec.specs.declared.module.RawInst.{RawInst}
use Rattle.spv_types.specs.Packed.{is_decorated, passed_ids, is_among}
use Rattle.spv_types.proofs.Fronts.{or-assoc}
use Rattle.spv_types.proofs.packed.packed_ids.Goals as goal

pub loop-inst-preserved : goal.loop-inst-preserved
loop-inst-preserved c =
    let i = c.loop-inst.inst-index in
    let insts = c.args.insts.now in
    let inst = c.inst-item.result in
    λ id.
    let test : RawInst → Bool = λ x. is_among id (passed_ids (is_decorated insts) x) in
    let passed = c.passed_ids.ensures ∙ ap (λ g. passed_ids g inst) (fun_ext c.in_ok-groups.ensures) in
    c.in_ok-note_all.ensures id
    ∙ (ap₂ (λ a b. a || b) (c.loop-inst.invariant id) (ap (is_among id) passed)
    ∙ (or-assoc (is_decorated insts id) (list_any test (take i insts)) (test inst)
    ∙ ap (λ b. is_decorated insts id || b)
    (ap (λ x. list_any test (take i insts) || test x) c.inst-item.is ∙ sym (list_any_more test insts i inst c.loop-inst-test.true))))
