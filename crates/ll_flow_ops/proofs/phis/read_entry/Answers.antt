use Rattle.std.proofs.Common.{inl, inr}
use Rattle.std.proofs.lemmas.Result.{err_from_is_err_and}
use Rattle.ll_tree.specs.Types.{int_width}
use Rattle.ll_parser.specs.GrammarValues.{local}
use Rattle.ll_operands.proofs.Readings.{any_read, any_value_read, mark_refused, told_refusal}
use Rattle.ll_flow_ops.specs.FlowParts.{entry_part}
use Rattle.ll_flow_ops.proofs.PhisRead.{block_refused, entry_read, value_told}
use Rattle.ll_flow_ops.proofs.phis.read_entry.Goals as goal

pub returns-in_err-inside : goal.returns-in_err-inside
returns-in_err-inside c =
    let p = err_from_is_err_and c.from_residual.result c.from_residual.ensures.1 in
    rw p.1 (told_refusal (entry_part (int_width c.args.ty.now)) _ _ _ p.2 (inl (mark_refused 91 _ _ c.in_err-inside.ensures.read c.in_err-inside.ensures.place)))

pub returns-in_err-value : goal.returns-in_err-value
returns-in_err-value c =
    let p = err_from_is_err_and c.from_residual-in_err-value.result c.from_residual-in_err-value.ensures.1 in
    rw p.1 (value_told _ _ _ _ _ p.2 c.in_ok-inside.ensures.read c.in_err-value.ensures)

pub returns-in_err-after : goal.returns-in_err-after
returns-in_err-after c =
    let p = err_from_is_err_and c.from_residual-in_err-after.result c.from_residual-in_err-after.ensures.1 in
    rw p.1 (told_refusal (entry_part (int_width c.args.ty.now)) _ _ _ p.2
    (inr (_, c.in_ok-inside.ensures.read, inr (_, any_value_read _ _ _ _ _ _ c.in_ok-value.ensures, inl (mark_refused 44 _ _ c.in_err-after.ensures.read c.in_err-after.ensures.place)))))

pub returns-in_err-block : goal.returns-in_err-block
returns-in_err-block c =
    let p = err_from_is_err_and c.from_residual-in_err-block.result c.from_residual-in_err-block.ensures.1 in
    rw p.1 (block_refused _ _ _ _ _ _ _ _ _ _ p.2 c.in_ok-inside.ensures.read c.in_ok-value.ensures c.in_ok-after.ensures.read c.in_err-block.ensures.read)

pub returns-in_err-rest : goal.returns-in_err-rest
returns-in_err-rest c =
    let p = err_from_is_err_and c.from_residual-in_err-rest.result c.from_residual-in_err-rest.ensures.1 in
    rw p.1 (told_refusal (entry_part (int_width c.args.ty.now)) _ _ _ p.2
    (inr (_, c.in_ok-inside.ensures.read, inr (_, any_value_read _ _ _ _ _ _ c.in_ok-value.ensures, inr (_, c.in_ok-after.ensures.read, inr (_, any_read local _ _ _ _ _ c.in_ok-block.ensures.read, mark_refused 93 _ _ c.in_err-rest.ensures.read c.in_err-rest.ensures.place))))))

pub returns : goal.returns
returns c = entry_read _ _ _ _ _ _ _ _ _ _ _ _ c.in_ok-inside.ensures.read c.in_ok-value.ensures c.in_ok-after.ensures.read c.in_ok-block.ensures.read c.in_ok-rest.ensures.read
