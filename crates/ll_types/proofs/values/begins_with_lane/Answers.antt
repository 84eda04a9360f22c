use Rattle.std.proofs.lemmas.Result.{err_from_is_err_and}
use Rattle.ll_parser.proofs.TableFacts.{extends_same}
use Rattle.ll_types.proofs.Lanes.{lane_at_brace, lane_at_type, lane_refused, lane_told}
use Rattle.ll_types.proofs.values.begins_with_lane.Goals as goal

pub returns-in-Ok : goal.returns-in-Ok
returns-in-Ok c =
    lane_told _ _ _ _ (extends_same _) (lane_at_brace _ _ _ c.in-Ok.ensures.read c.begins_with.ensures.there c.begins_with.ensures.absent)

pub returns-in_ok-end-in-Err : goal.returns-in_ok-end-in-Err
returns-in_ok-end-in-Err c =
    let read = c.in_ok-end-in-Err.ensures in
    lane_told _ _ _ _ read.1.extends (lane_at_type _ _ _ read.0 _ _ c.in-Err.ensures.read read.1 c.ends_member.ensures.there c.ends_member.ensures.absent)

pub returns-in_err-end-in-Err : goal.returns-in_err-end-in-Err
returns-in_err-end-in-Err c =
    let p = err_from_is_err_and c.from_residual.result c.from_residual.ensures.1 in
    rw p.1 (lane_refused _ _ _ p.2 c.in-Err.ensures.read c.in_err-end-in-Err.ensures)
