use Rattle.std.proofs.Common.{arith, codes, length, List, refl, subst, ◌<◌, ◌≤◌}
use Rattle.std.proofs.lemmas.Result.{err_from_is_err_and}
use Rattle.ll_tree.specs.declared.value.TypedValue.{TypedValue}
use Rattle.ll_parser.specs.GrammarValues.{typed}
use Rattle.ll_parser.specs.Productions.{mark, word}
use Rattle.ll_types.specs.TypeParts.{ty_here}
use Rattle.ll_types.specs.ValueParts.{parts}
use Rattle.ll_types.specs.ValueRefusals.{in_lanes, in_more, in_more_operands, in_operands, in_packed, behind_packed, no_cast_close, no_cast_open, no_first, no_next, no_open, no_operand, no_target, no_through, no_to, no_type, no_type_inside, no_value}
use Rattle.ll_types.proofs.Lanes.{holds}
use Rattle.ll_types.proofs.MembersRead.{derived, type_fewer}
use Rattle.ll_types.proofs.PartsRead.{behind_so_far, left_fewer, no_part_yet, one_part_more, part_fewer, parts_end}
use Rattle.ll_types.proofs.TypesRead.{unexpected_at}
use Rattle.ll_types.proofs.ValuesRead.{angle_reads, angle_stops, array_reads, array_stops, brace_here, cast_reads, cast_stops, conversion_read, lanes_read, no_parts_end, no_parts_read, operands_end, operands_few, operands_read, packed_read, parts_read, path_fewer, path_read, path_reads, path_stops, single_stops, struct_reads, struct_stops, type_unless, typed_read, unless_refused, unless_told, vector_reads, vector_stops}
use Rattle.ll_types.proofs.values.+values.Goals as goal

pub angle_value-returns-in_err-begins_with_lane : goal.angle_value-returns-in_err-begins_with_lane
angle_value-returns-in_err-begins_with_lane t c =
    let p = err_from_is_err_and c.from_residual.result c.from_residual.ensures.1 in
    rw p.1 (unless_told _ _ _ _ p.2 (λ r f. no_type_inside f.0 f.1) c.in_err-begins_with_lane.ensures)

pub angle_value-returns-in_err-parts : goal.angle_value-returns-in_err-parts
angle_value-returns-in_err-parts t c =
    let p = err_from_is_err_and c.from_residual-in_err-parts.result c.from_residual-in_err-parts.ensures.1 in
    let lane = c.in_ok-begins_with_lane.ensures.1 (holds _ c.if-branch.true) in
    rw p.1 (unless_told _ _ _ _ p.2 (λ r f. in_lanes lane f) c.in_err-parts.ensures)

pub angle_value-returns-then-branch : goal.angle_value-returns-then-branch
angle_value-returns-then-branch t c =
    lanes_read _ _ _ _ _ _ c.in_ok-begins_with_lane.ensures.0 c.in_ok-parts.ensures

pub angle_value-returns-in_err-parts-2 : goal.angle_value-returns-in_err-parts-2
angle_value-returns-in_err-parts-2 t c =
    let p = err_from_is_err_and c.from_residual-in_err-parts-2.result c.from_residual-in_err-parts-2.ensures.1 in
    let none = c.in_ok-begins_with_lane.ensures.2 c.if-branch.false in
    rw p.1 (unless_told _ _ _ _ p.2 (λ r f. in_packed none f) c.in_err-parts-2.ensures)

pub angle_value-returns-in_err-rest : goal.angle_value-returns-in_err-rest
angle_value-returns-in_err-rest t c =
    let p = err_from_is_err_and c.from_residual-in_err-rest.result c.from_residual-in_err-rest.ensures.1 in
    let none = c.in_ok-begins_with_lane.ensures.2 c.if-branch.false in
    rw p.1 (unless_refused _ _ _ p.2 (behind_packed _ _ _ none (derived (parts 125) _ _ _ _ _ c.in_ok-parts-2.ensures) (unexpected_at (mark 62) _ _ c.in_err-rest.ensures.read c.in_err-rest.ensures.place)))

pub angle_value-returns : goal.angle_value-returns
angle_value-returns t c =
    packed_read _ _ _ _ _ _ _ _ c.in_ok-begins_with_lane.ensures.0 c.requires c.in_ok-parts-2.ensures c.in_ok-rest.ensures.read

pub conversion_behind-returns-in_err-inside : goal.conversion_behind-returns-in_err-inside
conversion_behind-returns-in_err-inside t c =
    let p = err_from_is_err_and c.from_residual.result c.from_residual.ensures.1 in
    rw p.1 (unless_refused _ _ _ p.2 (no_cast_open (unexpected_at (mark 40) _ _ c.in_err-inside.ensures.read c.in_err-inside.ensures.place)))

pub conversion_behind-returns-in_err-operand : goal.conversion_behind-returns-in_err-operand
conversion_behind-returns-in_err-operand t c =
    let p = err_from_is_err_and c.from_residual-in_err-operand.result c.from_residual-in_err-operand.ensures.1 in
    rw p.1 (unless_told _ _ _ _ p.2 (λ r f. no_operand _ c.in_ok-inside.ensures.read f) c.in_err-operand.ensures)

pub conversion_behind-returns-in_err-target : goal.conversion_behind-returns-in_err-target
conversion_behind-returns-in_err-target t c =
    let p = err_from_is_err_and c.from_residual-in_err-target.result c.from_residual-in_err-target.ensures.1 in
    rw p.1 (unless_refused _ _ _ p.2 (no_to _ _ _ _ c.in_ok-inside.ensures.read (derived typed _ _ _ _ _ c.in_ok-operand.ensures) (unexpected_at (word (codes "to")) _ _ c.in_err-target.ensures.read c.in_err-target.ensures.place)))

pub conversion_behind-returns-in_err-to : goal.conversion_behind-returns-in_err-to
conversion_behind-returns-in_err-to t c =
    let p = err_from_is_err_and c.from_residual-in_err-to.result c.from_residual-in_err-to.ensures.1 in
    rw p.1 (unless_told _ _ _ _ p.2 (λ r f. no_target _ _ _ _ _ c.in_ok-inside.ensures.read (derived typed _ _ _ _ _ c.in_ok-operand.ensures) c.in_ok-target.ensures.read f) (type_unless _ _ c.in_err-to.ensures))

pub conversion_behind-returns-in_err-rest : goal.conversion_behind-returns-in_err-rest
conversion_behind-returns-in_err-rest t c =
    let p = err_from_is_err_and c.from_residual-in_err-rest.result c.from_residual-in_err-rest.ensures.1 in
    rw p.1 (unless_refused _ _ _ p.2 (no_cast_close _ _ _ _ _ _ _ _ c.in_ok-inside.ensures.read (derived typed _ _ _ _ _ c.in_ok-operand.ensures) c.in_ok-target.ensures.read (derived ty_here _ _ _ _ _ c.in_ok-to.ensures) (unexpected_at (mark 41) _ _ c.in_err-rest.ensures.read c.in_err-rest.ensures.place)))

pub conversion_behind-returns : goal.conversion_behind-returns
conversion_behind-returns t c =
    conversion_read _ _ _ _ _ _ _ _ _ _ _ c.in_ok-inside.ensures.read c.in_ok-operand.ensures c.in_ok-target.ensures.read c.in_ok-to.ensures c.in_ok-rest.ensures.read

pub more_parts-loop-inside-init : goal.more_parts-loop-inside-init
more_parts-loop-inside-init t c =
    no_part_yet _ _ _ _ refl

pub more_parts-returns-in_err-part : goal.more_parts-returns-in_err-part
more_parts-returns-in_err-part t c =
    let p = err_from_is_err_and c.from_residual.result c.from_residual.ensures.1 in
    let vs = behind_so_far _ _ _ _ _ _ _ c.loop-inside.invariant c.last.ensures in
    rw p.1 (unless_told _ _ _ _ p.2 (λ r f. no_next _ vs.0 _ _ vs.1 c.in-Ok.ensures.read f) c.in_err-part.ensures)

pub more_parts-loop-inside-smaller : goal.more_parts-loop-inside-smaller
more_parts-loop-inside-smaller t c =
    left_fewer _ _ _ _ _ _ _ _ _ _ _ c.loop-inside.invariant c.last.ensures c.in-Ok.ensures.read c.in_ok-part.ensures

pub more_parts-loop-inside-preserved : goal.more_parts-loop-inside-preserved
more_parts-loop-inside-preserved t c =
    one_part_more _ _ _ _ _ _ _ _ _ _ _ _ _ c.loop-inside.invariant c.last.ensures c.in-Ok.ensures.read c.in_ok-part.ensures c.in_ok-push_part.ensures refl

pub more_parts-returns : goal.more_parts-returns
more_parts-returns t c =
    parts_end _ _ _ _ _ _ _ _ c.loop-inside.invariant c.last.ensures c.last-2.ensures c.in_default.ensures.read

pub operands_behind-returns-in_err-operands : goal.operands_behind-returns-in_err-operands
operands_behind-returns-in_err-operands t c =
    let p = err_from_is_err_and c.from_residual.result c.from_residual.ensures.1 in
    rw p.1 (unless_told _ _ _ _ p.2 (λ r f. in_more_operands f) c.in_err-operands.ensures)

pub operands_behind-returns-then-as_slice-lt2 : goal.operands_behind-returns-then-as_slice-lt2
operands_behind-returns-then-as_slice-lt2 t c =
    operands_few _ _ _ _ _ _ _ c.new.ensures (subst (λ (xs : List TypedValue). length xs < 2) c.as_slice.ensures c.if-as_slice-lt2.true) c.in_ok-operands.ensures c.unexpected.ensures

pub operands_behind-returns-in_err-rest : goal.operands_behind-returns-in_err-rest
operands_behind-returns-in_err-rest t c =
    let p = err_from_is_err_and c.from_residual-in_err-rest.result c.from_residual-in_err-rest.ensures.1 in
    rw p.1 (unless_refused _ _ _ p.2 (operands_end _ _ _ _ _ _ _ c.new.ensures (subst (λ (xs : List TypedValue). 2 ≤ length xs) c.as_slice.ensures c.if-as_slice-lt2.false) c.in_ok-operands.ensures c.in_err-rest.ensures.read c.in_err-rest.ensures.place))

pub operands_behind-returns : goal.operands_behind-returns
operands_behind-returns t c =
    operands_read _ _ _ _ _ _ _ c.new.ensures (subst (λ (xs : List TypedValue). 2 ≤ length xs) c.as_slice.ensures c.if-as_slice-lt2.false) c.in_ok-operands.ensures c.in_ok-rest.ensures.read

pub parts_before-returns-in-Ok : goal.parts_before-returns-in-Ok
parts_before-returns-in-Ok t c =
    no_parts_read _ _ _ _ _ c.new.ensures c.in-Ok.ensures.read

pub path_behind-returns-in_err-inside : goal.path_behind-returns-in_err-inside
path_behind-returns-in_err-inside t c =
    let p = err_from_is_err_and c.from_residual.result c.from_residual.ensures.1 in
    rw p.1 (unless_refused _ _ _ p.2 (no_open _ c.take_inbounds-inbounds.ensures.behind (unexpected_at (mark 40) _ _ c.in_err-inside.ensures.read c.in_err-inside.ensures.place)))

pub path_behind-returns-in_err-through : goal.path_behind-returns-in_err-through
path_behind-returns-in_err-through t c =
    let p = err_from_is_err_and c.from_residual-in_err-through.result c.from_residual-in_err-through.ensures.1 in
    rw p.1 (unless_told _ _ _ _ p.2 (λ r f. no_through _ _ c.take_inbounds-inbounds.ensures.behind c.in_ok-inside.ensures.read f) (type_unless _ _ c.in_err-through.ensures))

pub path_behind-operands_behind-requires : goal.path_behind-operands_behind-requires
path_behind-operands_behind-requires t c =
    let less = path_fewer _ _ _ _ _ _ _ c.take_inbounds-inbounds.ensures.behind c.in_ok-inside.ensures.read c.in_ok-through.ensures in (omega (arith, less), tt)

pub path_behind-returns-in_err-operands : goal.path_behind-returns-in_err-operands
path_behind-returns-in_err-operands t c =
    let p = err_from_is_err_and c.from_residual-in_err-operands.result c.from_residual-in_err-operands.ensures.1 in
    rw p.1 (unless_told _ _ _ _ p.2 (λ r f. in_operands _ _ _ _ _ c.take_inbounds-inbounds.ensures.behind c.in_ok-inside.ensures.read (derived ty_here _ _ _ _ _ c.in_ok-through.ensures) f) c.in_err-operands.ensures)

pub path_behind-returns : goal.path_behind-returns
path_behind-returns t c =
    path_read _ _ _ _ _ _ _ _ _ _ _ c.take_inbounds-inbounds.ensures.word c.in_ok-inside.ensures.read c.in_ok-through.ensures c.in_ok-operands.ensures

pub some_parts-returns-in_err-first : goal.some_parts-returns-in_err-first
some_parts-returns-in_err-first t c =
    let p = err_from_is_err_and c.from_residual.result c.from_residual.ensures.1 in
    rw p.1 (unless_told _ _ _ _ p.2 (λ r f. no_first c.requires f) c.in_err-first.ensures)

pub some_parts-more_parts-requires : goal.some_parts-more_parts-requires
some_parts-more_parts-requires t c =
    let less = part_fewer _ _ _ _ _ c.in_ok-first.ensures in (omega (arith, less), tt)

pub some_parts-returns-in_err-parts : goal.some_parts-returns-in_err-parts
some_parts-returns-in_err-parts t c =
    let p = err_from_is_err_and c.from_residual-in_err-parts.result c.from_residual-in_err-parts.ensures.1 in
    rw p.1 (unless_told _ _ _ _ p.2 (λ r f. in_more _ _ _ (derived typed _ _ _ _ _ c.in_ok-first.ensures) f) c.in_err-parts.ensures)

pub some_parts-returns-in_err-rest : goal.some_parts-returns-in_err-rest
some_parts-returns-in_err-rest t c =
    let p = err_from_is_err_and c.from_residual-in_err-rest.result c.from_residual-in_err-rest.ensures.1 in
    rw p.1 (no_parts_end _ _ _ _ _ _ _ _ _ _ _ _ p.2 c.in_ok-first.ensures c.in_ok-parts.ensures c.in_err-rest.ensures.read c.in_err-rest.ensures.place)

pub some_parts-returns : goal.some_parts-returns
some_parts-returns t c =
    parts_read _ _ _ _ _ _ _ _ _ _ _ _ c.in_ok-first.ensures c.new-parts.ensures c.in_ok-push_part.ensures c.in_ok-parts.ensures c.in_ok-rest.ensures.read

pub typed_value-returns-in_err-ty : goal.typed_value-returns-in_err-ty
typed_value-returns-in_err-ty t c =
    let p = err_from_is_err_and c.from_residual.result c.from_residual.ensures.1 in
    rw p.1 (unless_told _ _ _ _ p.2 (λ r f. no_type f) (type_unless _ _ c.in_err-ty.ensures))

pub typed_value-whole_value-requires : goal.typed_value-whole_value-requires
typed_value-whole_value-requires t c =
    let less = type_fewer _ _ _ _ _ c.in_ok-ty.ensures in (omega (arith, less), tt)

pub typed_value-returns-in_err-value : goal.typed_value-returns-in_err-value
typed_value-returns-in_err-value t c =
    let p = err_from_is_err_and c.from_residual-in_err-value.result c.from_residual-in_err-value.ensures.1 in
    rw p.1 (unless_told _ _ _ _ p.2 (λ r f. no_value _ _ _ (derived ty_here _ _ _ _ _ c.in_ok-ty.ensures) f) c.in_err-value.ensures)

pub typed_value-returns : goal.typed_value-returns
typed_value-returns t c =
    typed_read _ _ _ _ _ _ _ _ c.in_ok-ty.ensures c.in_ok-value.ensures

pub whole_value-returns-in_err-parts-in-Array-default : goal.whole_value-returns-in_err-parts-in-Array-default
whole_value-returns-in_err-parts-in-Array-default t c =
    let p = err_from_is_err_and c.from_residual.result c.from_residual.ensures.1 in
    rw p.1 (array_stops _ _ _ _ _ _ p.2 c.in-Array-default.is-0 c.value_opening.ensures c.in_err-parts-in-Array-default.ensures)

pub whole_value-returns-in_ok-parts-in-Array-default : goal.whole_value-returns-in_ok-parts-in-Array-default
whole_value-returns-in_ok-parts-in-Array-default t c =
    array_reads _ _ _ _ _ _ _ _ c.in-Array-default.is-0 c.value_opening.ensures c.in_ok-parts-in-Array-default.ensures

pub whole_value-returns-in_err-parts-in-Struct-default : goal.whole_value-returns-in_err-parts-in-Struct-default
whole_value-returns-in_err-parts-in-Struct-default t c =
    let p = err_from_is_err_and c.from_residual-in_err-parts-in-Struct-default.result c.from_residual-in_err-parts-in-Struct-default.ensures.1 in
    rw p.1 (struct_stops _ _ _ _ _ _ p.2 c.in-Struct-default.is-0 c.value_opening.ensures c.in_err-parts-in-Struct-default.ensures)

pub whole_value-returns-in_ok-parts-in-Struct-default : goal.whole_value-returns-in_ok-parts-in-Struct-default
whole_value-returns-in_ok-parts-in-Struct-default t c =
    struct_reads _ _ _ _ _ _ _ _ c.in-Struct-default.is-0 c.value_opening.ensures c.in_ok-parts-in-Struct-default.ensures

pub whole_value-returns-in_err-parts-in-Vector-default : goal.whole_value-returns-in_err-parts-in-Vector-default
whole_value-returns-in_err-parts-in-Vector-default t c =
    let p = err_from_is_err_and c.from_residual-in_err-parts-in-Vector-default.result c.from_residual-in_err-parts-in-Vector-default.ensures.1 in
    rw p.1 (vector_stops _ _ _ _ _ _ p.2 c.in-Vector-default.is-0 c.value_opening.ensures c.in_err-parts-in-Vector-default.ensures)

pub whole_value-returns-in_ok-parts-in-Vector-default : goal.whole_value-returns-in_ok-parts-in-Vector-default
whole_value-returns-in_ok-parts-in-Vector-default t c =
    vector_reads _ _ _ _ _ _ _ _ c.in-Vector-default.is-0 c.value_opening.ensures c.in_ok-parts-in-Vector-default.ensures

pub whole_value-returns-in_err-value-in-Angle-default : goal.whole_value-returns-in_err-value-in-Angle-default
whole_value-returns-in_err-value-in-Angle-default t c =
    let p = err_from_is_err_and c.from_residual-in_err-value-in-Angle-default.result c.from_residual-in_err-value-in-Angle-default.ensures.1 in
    rw p.1 (angle_stops _ _ _ _ _ _ _ p.2 c.in-Angle-default.is-0 c.value_opening.ensures (brace_here _ _ _ _ c.in-Angle-default.is-0 c.value_opening.ensures c.behind_first.ensures) c.in_err-value-in-Angle-default.ensures)

pub whole_value-returns-in_ok-value-in-Angle-default : goal.whole_value-returns-in_ok-value-in-Angle-default
whole_value-returns-in_ok-value-in-Angle-default t c =
    angle_reads _ _ _ _ _ _ _ _ c.in-Angle-default.is-0 c.value_opening.ensures c.in_ok-value-in-Angle-default.ensures

pub whole_value-returns-in_err-path-in-Path-default : goal.whole_value-returns-in_err-path-in-Path-default
whole_value-returns-in_err-path-in-Path-default t c =
    let p = err_from_is_err_and c.from_residual-in_err-path-in-Path-default.result c.from_residual-in_err-path-in-Path-default.ensures.1 in
    rw p.1 (path_stops _ _ _ _ _ _ p.2 c.in-Path-default.is-0 c.value_opening.ensures c.in_err-path-in-Path-default.ensures)

pub whole_value-returns-in_ok-path-in-Path-default : goal.whole_value-returns-in_ok-path-in-Path-default
whole_value-returns-in_ok-path-in-Path-default t c =
    path_reads _ _ _ _ _ _ _ _ _ c.in-Path-default.is-0 c.value_opening.ensures c.path_of.ensures c.in_ok-path-in-Path-default.ensures

pub whole_value-returns-in_err-conversion-in-Cast-default : goal.whole_value-returns-in_err-conversion-in-Cast-default
whole_value-returns-in_err-conversion-in-Cast-default t c =
    let p = err_from_is_err_and c.from_residual-in_err-conversion-in-Cast-default.result c.from_residual-in_err-conversion-in-Cast-default.ensures.1 in
    rw p.1 (cast_stops _ _ _ _ _ _ _ p.2 c.in-Cast-default.is-0 c.value_opening.ensures c.in_err-conversion-in-Cast-default.ensures)

pub whole_value-returns-in_ok-cast_of-in-Cast-default : goal.whole_value-returns-in_ok-cast_of-in-Cast-default
whole_value-returns-in_ok-cast_of-in-Cast-default t c =
    cast_reads _ _ _ _ _ _ _ _ _ _ c.in-Cast-default.is-0 c.value_opening.ensures c.in_ok-cast_of-in-Cast-default.ensures c.in_ok-conversion-in-Cast-default.ensures

pub whole_value-returns-in_err-value-in-Single-default : goal.whole_value-returns-in_err-value-in-Single-default
whole_value-returns-in_err-value-in-Single-default t c =
    let p = err_from_is_err_and c.from_residual-in_err-value-in-Single-default.result c.from_residual-in_err-value-in-Single-default.ensures.1 in
    rw p.1 (single_stops _ _ _ _ _ _ p.2 c.in-Single-default.is-0 c.value_opening.ensures c.in_err-value-in-Single-default.ensures)
