use Rattle.ll_flow_ops.proofs.PhisRead.{no_bracket_behind, no_comma_here}
use Rattle.ll_flow_ops.proofs.phis.take_entry_comma.Goals as goal

pub returns-else-begins_with_bracket : goal.returns-else-begins_with_bracket
returns-else-begins_with_bracket c = no_bracket_behind _ _ c.in-Ok.ensures.read (c.begins_with_bracket.ensures.absent c.if-begins_with_bracket.false)

pub returns-in-Err : goal.returns-in-Err
returns-in-Err c = no_comma_here _ c.in-Err.ensures.read
