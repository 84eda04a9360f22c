use Rattle.std.proofs.Common.{◌+◌, refl, sym, subst, ap, ◌∙◌, is_ok, arith}
use Rattle.std.specs.List.{prefix_len}
use Rattle.std.proofs.ResultArms.{chosen}
use Rattle.ll_tokens.specs.declared.bytes.ByteClass.TheVariants.{Name}
use Rattle.ll_tokens.specs.Forms.{in_class}
use Rattle.ll_tokens.specs.Tokens.{IsLongestFront, behind_gap}
use Rattle.ll_tokens.proofs.Ends.{boundary_behind_front}
use Rattle.ll_tokens.proofs.Readings.{ReadSoFar, read_start, read_next, next_is_shorter, run_behind}
use Rattle.ll_tokens.proofs.scanning.tokenize.Goals as goal

pub loop-front-init : goal.loop-front-init
loop-front-init c =
    read_start _ _ _ _ c.utf8.text c.new-tokens.ensures.items c.behind_gap-rest.ensures (c.run_len-label_run.ensures ∙ ap (prefix_len (in_class Name)) c.as_bytes.ensures.value)

-- a token ends between characters
pub split_at-requires : goal.split_at-requires
split_at-requires c = boundary_behind_front (subst (IsLongestFront _ _) c.as_bytes-in-loop-front.ensures.value c.in-Some.ensures) c.loop-front.invariant.utf8

pub label_run_behind-label_run-requires : goal.label_run_behind-label_run-requires
label_run_behind-label_run-requires c = λ inside.
    run_behind _ _ c.loop-front.rest.now c.loop-front.invariant.run_is inside
    ∙ ap (λ bs. c.in-Some.front.len + prefix_len (in_class Name) bs) (sym (c.as_bytes-in-Some.ensures.value ∙ c.behind_gap-rest-in-Some.ensures ∙ ap behind_gap c.split_at.ensures.back))

pub loop-front-smaller : goal.loop-front-smaller
loop-front-smaller c = next_is_shorter _ _ _ _ (subst (IsLongestFront _ _) c.as_bytes-in-loop-front.ensures.value c.in-Some.ensures) (c.behind_gap-rest-in-Some.ensures ∙ ap behind_gap c.split_at.ensures.back)

pub loop-front-preserved : goal.loop-front-preserved
loop-front-preserved c =
    let pushed = chosen _ _ _ _ c.push.ensures.items (ap is_ok c.in_ok-push.was) in
    let front = subst (IsLongestFront _ _) c.as_bytes-in-loop-front.ensures.value c.in-Some.ensures in
    subst (λ ts. ReadSoFar c.args.text.now ts c.behind_gap-rest-in-Some.result.now c.label_run_behind-label_run.result) (sym pushed)
    (read_next _ _ _ _ _ _ _ _ _ c.loop-front.invariant front refl c.split_at.ensures.front (omega (arith, c.loop-front.invariant.in_text))
    (c.behind_gap-rest-in-Some.ensures ∙ ap behind_gap c.split_at.ensures.back) (c.label_run_behind-label_run.ensures ∙ ap (prefix_len (in_class Name)) c.as_bytes-in-Some.ensures.value))
