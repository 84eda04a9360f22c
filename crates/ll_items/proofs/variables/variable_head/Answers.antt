use Rattle.std.proofs.Common.{inl, inr}
use Rattle.std.proofs.lemmas.Result.{err_from_is_err_and}
use Rattle.ll_items.proofs.ItemsRead.{stops_as}
use Rattle.ll_items.specs.VariableParts.{variable_head_part}
use Rattle.ll_items.proofs.VariablesRead.{head_read}
use Rattle.ll_items.proofs.variables.variable_head.Goals as goal

pub returns-in_err-value : goal.returns-in_err-value
returns-in_err-value c =
    let p = err_from_is_err_and c.from_residual.result c.from_residual.ensures.1 in
    rw p.1 (stops_as variable_head_part _ _ _ p.2 (inr (
      _,
      (c.read_linkage-linkage.result.0, c.read_linkage-linkage.ensures),
      inr (_, c.skip_word_if_there-after.ensures, inr (_, c.skip_unnamed-inside.ensures, inl c.in_err-value.ensures.place)),
    )))

pub returns-in_err-rest : goal.returns-in_err-rest
returns-in_err-rest c =
    let p = err_from_is_err_and c.from_residual-in_err-rest.result c.from_residual-in_err-rest.ensures.1 in
    rw p.1 (stops_as variable_head_part _ _ _ p.2 (inr (
      _,
      (c.read_linkage-linkage.result.0, c.read_linkage-linkage.ensures),
      inr (_, c.skip_word_if_there-after.ensures, inr (_, c.skip_unnamed-inside.ensures, inr (_, (c.in_ok-value.value, c.in_ok-value.ensures.read), c.in_err-rest.ensures))),
    )))

pub returns : goal.returns
returns c = head_read _ _ _ _ _ _ _ _ c.read_linkage-linkage.ensures c.skip_word_if_there-after.ensures c.skip_unnamed-inside.ensures c.in_ok-value.ensures.read c.in_ok-rest.ensures
