use Rattle.std.proofs.Common.{arith}
use Rattle.ll_types.proofs.Depths.{popped, popped_depth, popped_same}
use Rattle.ll_types.proofs.nesting.depth_behind_last.Goals as goal

pub overflow_sub-result : goal.overflow_sub-result
overflow_sub-result c =
    let one_more = popped_depth _ c.pop.new.self _ _ c.requires c.in-Some.ensures c.if-is_counted.true in omega arith

pub returns-then-is_counted-clause-brackets : goal.returns-then-is_counted-clause-brackets
returns-then-is_counted-clause-brackets c = popped _ _ _ c.in-Some.ensures

pub returns-then-is_counted-clause-depth : goal.returns-then-is_counted-clause-depth
returns-then-is_counted-clause-depth c =
    let one_more = popped_depth _ c.pop.new.self _ _ c.requires c.in-Some.ensures c.if-is_counted.true in omega arith

pub returns-else-is_counted-clause-brackets : goal.returns-else-is_counted-clause-brackets
returns-else-is_counted-clause-brackets c = popped _ _ _ c.in-Some.ensures

pub returns-else-is_counted-clause-depth : goal.returns-else-is_counted-clause-depth
returns-else-is_counted-clause-depth c = popped_same _ _ _ _ c.requires c.in-Some.ensures c.if-is_counted.false
