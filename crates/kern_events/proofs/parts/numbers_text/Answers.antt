use Rattle.std.proofs.Common.{◌∙◌, sym, arith}
use Rattle.kern_events.proofs.TextLemmas.{numbers_text-nil, numbers_step}
use Rattle.kern_events.proofs.parts.numbers_text.Goals as goal

pub loop-i-init : goal.loop-i-init
loop-i-init c = c.new-text.ensures.bytes ∙ sym numbers_text-nil

pub loop-i-preserved : goal.loop-i-preserved
loop-i-preserved c =
    numbers_step c.args.lanes.now c.loop-i.i c.at-number.result _ c.comma_before-comma.result.now _ c.as_str.result.now _ (omega (arith, c.loop-i-test.true, c.count-i-end.ensures)) c.loop-i.invariant c.comma_before-comma.ensures c.at-number.ensures c.in_ok-piece.ensures.ok c.as_str.ensures.value c.in_ok-push_str.ensures.bytes
