use Rattle.to_llvm.proofs.TableLemmas.{number-more}
use Rattle.to_llvm.proofs.table.add_numbers.Goals as goal

pub loop-number-preserved : goal.loop-number-preserved
loop-number-preserved c = number-more _ _ _ _ c.loop-number.invariant c.in_ok-push.ensures.ok
