use Rattle.std.proofs.Common.{◌≡◌, ◌+◌, None, Some, take, length, sym, ◌∙◌, ap, ap₂, arith}
use Rattle.std.specs.Prelude.{if◌then◌else◌}
use Rattle.std.specs.Option.{option_or}
use Rattle.std.proofs.lemmas.List.{length-take}
use Rattle.spv_codec.specs.Ids.{is_id}
use Rattle.spv_names.specs.declared.definitions.Definition.{Definition}
use Rattle.spv_names.specs.Definitions.{result_of, entry_of, function_after, function_behind, home_of}
use Rattle.spv_names.proofs.Defined.{entry-more, function-more}
use Rattle.spv_sections.proofs.Scans.{front-more}
use Rattle.spv_names.proofs.definitions.Definitions.of.Goals as goal

pub loop-index-preserved : goal.loop-index-preserved
loop-index-preserved c =
    let i = c.loop-index.index in
    let insts = c.args.insts.now in
    let inst = c.index-insts-index.result in
    let xs = take i insts in
    let more = front-more insts i inst c.loop-index-test.true c.index-insts-index.is in
    let long : 0 + length xs ≡ i = omega (arith, length-take i insts) in
    record {
      known = λ id.
          c.in_ok-note.ensures id
          ∙ (ap₂ option_or (c.loop-index.invariant.known id)
          (ap₂ (λ o f. if is_id id o then Some (let d : Definition = record { index = i; function = f } in d) else None) c.result_of.ensures
          (c.home_of.ensures ∙ ap (λ f. home_of f inst) c.loop-index.invariant.function)
          ∙ ap (λ n. if is_id id (result_of inst) then Some (let d : Definition = record { index = n; function = home_of (function_after 0 None xs) inst } in d) else None) (sym long))
          ∙ (sym (entry-more 0 None xs inst id) ∙ ap (λ ys. entry_of ys id) (sym more)));
      function =
          c.function_behind-function.ensures
          ∙ (ap₂ (λ n f. function_behind n f inst) (sym long) c.loop-index.invariant.function
          ∙ (sym (function-more 0 None xs inst) ∙ ap (function_after 0 None) (sym more)));
    }
