use Rattle.ll_memory_ops.proofs.AccessesRead.{align_opens, no_align_behind, no_comma_here}
use Rattle.ll_memory_ops.proofs.alignments.begins_with_align.Goals as goal

pub returns-in-Ok-take_word-clause-there : goal.returns-in-Ok-take_word-clause-there
returns-in-Ok-take_word-clause-there c = λ there. align_opens _ _ _ c.in-Ok.ensures.read c.in-Ok-take_word.ensures.read

pub returns-in-Err-take_word-clause-absent : goal.returns-in-Err-take_word-clause-absent
returns-in-Err-take_word-clause-absent c = λ absent. no_align_behind _ _ c.in-Ok.ensures.read c.in-Err-take_word.ensures.read

pub returns-in-Err-clause-absent : goal.returns-in-Err-clause-absent
returns-in-Err-clause-absent c = λ absent. no_comma_here _ c.in-Err.ensures.read
