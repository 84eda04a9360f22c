use Rattle.std.proofs.Common.{inl, inr}
use Rattle.std.proofs.lemmas.Result.{err_from_is_err_and}
use Rattle.ll_attributes.proofs.AttributesRead.{align_stops, bytes_stop, typed_stops}
use Rattle.ll_attributes.proofs.attribute_kinds.kind_behind.Goals as goal

pub returns-in_err-ty-in-byval : goal.returns-in_err-ty-in-byval
returns-in_err-ty-in-byval c =
    let p = err_from_is_err_and c.from_residual.result c.from_residual.ensures.1 in
    rw p.1 (typed_stops _ _ _ _ p.2 (inl c.in-byval.is) c.in_err-ty-in-byval.ensures)

pub returns-in_err-ty-in-sret : goal.returns-in_err-ty-in-sret
returns-in_err-ty-in-sret c =
    let p = err_from_is_err_and c.from_residual-in_err-ty-in-sret.result c.from_residual-in_err-ty-in-sret.ensures.1 in
    rw p.1 (typed_stops _ _ _ _ p.2 (inr c.in-sret.is) c.in_err-ty-in-sret.ensures)

pub returns-in_err-bytes-in-align : goal.returns-in_err-bytes-in-align
returns-in_err-bytes-in-align c =
    let p = err_from_is_err_and c.from_residual-in_err-bytes-in-align.result c.from_residual-in_err-bytes-in-align.ensures.1 in
    rw p.1 (align_stops _ _ _ _ p.2 c.in-align.is c.in_err-bytes-in-align.ensures.read c.in_err-bytes-in-align.ensures.place)

pub returns-in_err-bytes-in-dereferenceable : goal.returns-in_err-bytes-in-dereferenceable
returns-in_err-bytes-in-dereferenceable c =
    let p = err_from_is_err_and c.from_residual-in_err-bytes-in-dereferenceable.result c.from_residual-in_err-bytes-in-dereferenceable.ensures.1 in
    rw p.1 (bytes_stop _ _ _ _ p.2 (inl c.in-dereferenceable.is) c.in_err-bytes-in-dereferenceable.ensures.place)

pub returns-in_err-bytes-in-dereferenceable_or_null : goal.returns-in_err-bytes-in-dereferenceable_or_null
returns-in_err-bytes-in-dereferenceable_or_null c =
    let p = err_from_is_err_and c.from_residual-in_err-bytes-in-dereferenceable_or_null.result c.from_residual-in_err-bytes-in-dereferenceable_or_null.ensures.1 in
    rw p.1 (bytes_stop _ _ _ _ p.2 (inr c.in-dereferenceable_or_null.is) c.in_err-bytes-in-dereferenceable_or_null.ensures.place)
