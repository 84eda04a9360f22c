use Rattle.std.proofs.Common.{◌∙◌}
use Rattle.ll_types.proofs.Depths.{goes_on, none_refused, refused, stops}
use Rattle.ll_types.proofs.nesting.too_deep.Goals as goal

pub returns-then-is_too_deep : goal.returns-then-is_too_deep
returns-then-is_too_deep c =
    refused _ _ _ c.loop-i.invariant.0 (stops _ _ _ _ _ _ _ _ c.loop-i-test.true c.from-here.ensures c.bracket_at-bracket.ensures c.loop-i.invariant.1 c.is_too_deep.ensures c.if-is_too_deep.true)

pub loop-i-preserved : goal.loop-i-preserved
loop-i-preserved c = (
  goes_on _ _ _ _ _ _ _ _ _ _ c.loop-i-test.true c.from-here.ensures c.bracket_at-bracket.ensures c.loop-i.invariant.1 c.is_too_deep.ensures c.if-is_too_deep.false c.group_behind-in_group.ensures c.in_ok-depth.ensures.brackets
      ∙ c.loop-i.invariant.0,
  c.in_ok-depth.ensures.depth,
  c.in_ok-depth.ensures.no_deeper,
)

pub returns : goal.returns
returns c = none_refused _ _ _ _ c.loop-i-test.false c.loop-i.invariant.0
