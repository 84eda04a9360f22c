use Rattle.std.proofs.Common.{arith, refl}
use Rattle.std.proofs.lemmas.Result.{err_from_is_err_and}
use Rattle.ll_types.proofs.MembersRead.{first_member, next_fewer, one_member_more, read_so_far}
use Rattle.ll_types.proofs.TypesRead.{array_reads, vector_reads, struct_reads, packed_reads, packed_fewer, array_stops, vector_stops, struct_stops, packed_stops, packed_unclosed, name_stops, plain_stops, type_reads, pointers_stop, counted_reads, count_stops, times_stops, part_stops, close_stops, no_members_read, first_stops, next_stops, next_reads, some_read, some_stop}
use Rattle.ll_types.proofs.types.+types.Goals as goal

pub base_type-returns-in_err-counted-in-Array-default : goal.base_type-returns-in_err-counted-in-Array-default
base_type-returns-in_err-counted-in-Array-default t c =
    let p = err_from_is_err_and c.from_residual.result c.from_residual.ensures.1 in
    rw p.1 (array_stops _ _ _ _ _ p.2 c.in-Array-default.is-0 c.type_opening.ensures c.in_err-counted-in-Array-default.ensures)

pub base_type-returns-in_err-counted-in-Vector-default : goal.base_type-returns-in_err-counted-in-Vector-default
base_type-returns-in_err-counted-in-Vector-default t c =
    let p = err_from_is_err_and c.from_residual-in_err-counted-in-Vector-default.result c.from_residual-in_err-counted-in-Vector-default.ensures.1 in
    rw p.1 (vector_stops _ _ _ _ _ p.2 c.in-Vector-default.is-0 c.type_opening.ensures c.in_err-counted-in-Vector-default.ensures)

pub base_type-returns-in_err-members-in-Struct-default : goal.base_type-returns-in_err-members-in-Struct-default
base_type-returns-in_err-members-in-Struct-default t c =
    let p = err_from_is_err_and c.from_residual-in_err-members-in-Struct-default.result c.from_residual-in_err-members-in-Struct-default.ensures.1 in
    rw p.1 (struct_stops _ _ _ _ _ p.2 c.in-Struct-default.is-0 c.type_opening.ensures c.in_err-members-in-Struct-default.ensures)

pub base_type-members-requires-in-Packed-default : goal.base_type-members-requires-in-Packed-default
base_type-members-requires-in-Packed-default t c =
    let less = packed_fewer _ c.args.tokens.now _ c.in-Packed-default.is-0 c.type_opening.ensures in (omega (arith, less), tt)

pub base_type-returns-in_err-members-in-Packed-default : goal.base_type-returns-in_err-members-in-Packed-default
base_type-returns-in_err-members-in-Packed-default t c =
    let p = err_from_is_err_and c.from_residual-in_err-members-in-Packed-default.result c.from_residual-in_err-members-in-Packed-default.ensures.1 in
    rw p.1 (packed_stops _ _ _ _ _ p.2 c.in-Packed-default.is-0 c.type_opening.ensures c.in_err-members-in-Packed-default.ensures)

pub base_type-returns-in_err-rest-in-Packed-default : goal.base_type-returns-in_err-rest-in-Packed-default
base_type-returns-in_err-rest-in-Packed-default t c =
    let p = err_from_is_err_and c.from_residual-in_err-rest-in-Packed-default.result c.from_residual-in_err-rest-in-Packed-default.ensures.1 in
    rw p.1 (packed_unclosed _ _ _ _ _ _ _ _ _ p.2 c.in-Packed-default.is-0 c.type_opening.ensures c.in_ok-members-in-Packed-default.ensures c.in_err-rest-in-Packed-default.ensures.read c.in_err-rest-in-Packed-default.ensures.place)

pub base_type-returns-in_err-name-in-Named-default : goal.base_type-returns-in_err-name-in-Named-default
base_type-returns-in_err-name-in-Named-default t c =
    let p = err_from_is_err_and c.from_residual-in_err-name-in-Named-default.result c.from_residual-in_err-name-in-Named-default.ensures.1 in
    rw p.1 (name_stops _ _ _ _ _ p.2 c.in-Named-default.is-0 c.type_opening.ensures c.in_err-name-in-Named-default.ensures.read)

pub base_type-returns-in_err-base-in-Plain-default : goal.base_type-returns-in_err-base-in-Plain-default
base_type-returns-in_err-base-in-Plain-default t c =
    let p = err_from_is_err_and c.from_residual-in_err-base-in-Plain-default.result c.from_residual-in_err-base-in-Plain-default.ensures.1 in
    rw p.1 (plain_stops _ _ _ _ _ p.2 c.in-Plain-default.is-0 c.type_opening.ensures c.in_err-base-in-Plain-default.ensures.read c.in_err-base-in-Plain-default.ensures.place)

pub base_type-returns-in_ok-array_of-in-Array-default : goal.base_type-returns-in_ok-array_of-in-Array-default
base_type-returns-in_ok-array_of-in-Array-default t c =
    array_reads _ _ _ _ _ _ _ _ c.in-Array-default.is-0 c.type_opening.ensures c.in_ok-array_of-in-Array-default.ensures c.in_ok-counted-in-Array-default.ensures

pub base_type-returns-in_ok-vector_of-in-Vector-default : goal.base_type-returns-in_ok-vector_of-in-Vector-default
base_type-returns-in_ok-vector_of-in-Vector-default t c =
    vector_reads _ _ _ _ _ _ _ _ c.in-Vector-default.is-0 c.type_opening.ensures c.in_ok-vector_of-in-Vector-default.ensures c.in_ok-counted-in-Vector-default.ensures

pub base_type-returns-in_ok-members-in-Struct-default : goal.base_type-returns-in_ok-members-in-Struct-default
base_type-returns-in_ok-members-in-Struct-default t c =
    struct_reads _ _ _ _ _ _ _ c.in-Struct-default.is-0 c.type_opening.ensures c.in_ok-members-in-Struct-default.ensures

pub base_type-returns-in_ok-rest-in-Packed-default : goal.base_type-returns-in_ok-rest-in-Packed-default
base_type-returns-in_ok-rest-in-Packed-default t c =
    packed_reads _ _ _ _ _ _ _ _ c.in-Packed-default.is-0 c.type_opening.ensures c.in_ok-members-in-Packed-default.ensures c.in_ok-rest-in-Packed-default.ensures.read

pub counted_part-returns-in_err-count : goal.counted_part-returns-in_err-count
counted_part-returns-in_err-count t c =
    let p = err_from_is_err_and c.from_residual.result c.from_residual.ensures.1 in
    rw p.1 (count_stops _ _ _ _ p.2 c.in_err-count.ensures.read c.in_err-count.ensures.place)

pub counted_part-returns-in_err-inside : goal.counted_part-returns-in_err-inside
counted_part-returns-in_err-inside t c =
    let p = err_from_is_err_and c.from_residual-in_err-inside.result c.from_residual-in_err-inside.ensures.1 in
    rw p.1 (times_stops _ _ _ _ _ _ p.2 c.in_ok-count.ensures.read c.in_err-inside.ensures.read c.in_err-inside.ensures.place)

pub counted_part-returns-in_err-part : goal.counted_part-returns-in_err-part
counted_part-returns-in_err-part t c =
    let p = err_from_is_err_and c.from_residual-in_err-part.result c.from_residual-in_err-part.ensures.1 in
    rw p.1 (part_stops _ _ _ _ _ _ _ p.2 c.in_ok-count.ensures.read c.in_ok-inside.ensures.read c.in_err-part.ensures)

pub counted_part-returns-in_err-rest : goal.counted_part-returns-in_err-rest
counted_part-returns-in_err-rest t c =
    let p = err_from_is_err_and c.from_residual-in_err-rest.result c.from_residual-in_err-rest.ensures.1 in
    rw p.1 (close_stops _ _ _ _ _ _ _ _ _ _ _ p.2 c.in_ok-count.ensures.read c.in_ok-inside.ensures.read c.in_ok-part.ensures c.in_err-rest.ensures.read c.in_err-rest.ensures.place)

pub counted_part-returns : goal.counted_part-returns
counted_part-returns t c =
    counted_reads _ _ _ _ _ _ _ _ _ _ c.in_ok-count.ensures.read c.in_ok-inside.ensures.read c.in_ok-part.ensures c.in_ok-rest.ensures.read

pub members-returns-in-Ok : goal.members-returns-in-Ok
members-returns-in-Ok t c =
    no_members_read _ _ _ _ c.new.ensures c.in-Ok.ensures.read

pub next_member-returns-in_ok-whole_type-in-Ok : goal.next_member-returns-in_ok-whole_type-in-Ok
next_member-returns-in_ok-whole_type-in-Ok t c =
    next_reads _ _ _ _ _ _ c.in-Ok.ensures.read c.in_ok-whole_type-in-Ok.ensures

pub some_members-returns-in_err-first : goal.some_members-returns-in_err-first
some_members-returns-in_err-first t c =
    let p = err_from_is_err_and c.from_residual.result c.from_residual.ensures.1 in
    rw p.1 (first_stops _ _ _ p.2 c.requires c.in_err-first.ensures)

pub some_members-loop-members-init : goal.some_members-loop-members-init
some_members-loop-members-init t c =
    first_member _ _ _ _ _ _ _ _ c.in_ok-first.ensures c.in_ok-push.ensures.ok c.new-members.ensures refl

pub some_members-returns-in_err-member : goal.some_members-returns-in_err-member
some_members-returns-in_err-member t c =
    let p = err_from_is_err_and c.from_residual-in_err-member.result c.from_residual-in_err-member.ensures.1 in
    rw p.1 (next_stops _ _ _ _ _ _ _ p.2 (read_so_far _ _ _ _ _ _ c.loop-members.invariant c.last.ensures) c.in_err-member.ensures)

pub some_members-loop-members-smaller : goal.some_members-loop-members-smaller
some_members-loop-members-smaller t c =
    let one = rw c.in-Some.is at c.in_ok-member.ensures in next_fewer _ _ _ _ _ _ _ _ _ c.loop-members.invariant c.last.ensures one

pub some_members-loop-members-preserved : goal.some_members-loop-members-preserved
some_members-loop-members-preserved t c =
    let one = rw c.in-Some.is at c.in_ok-member.ensures in one_member_more _ _ _ _ _ _ _ _ _ _ _ c.loop-members.invariant c.last.ensures one c.in_ok-push-2.ensures.ok refl

pub some_members-returns-in_err-rest : goal.some_members-returns-in_err-rest
some_members-returns-in_err-rest t c =
    let p = err_from_is_err_and c.from_residual-in_err-rest.result c.from_residual-in_err-rest.ensures.1 in
    let none = rw c.in_default.is at c.in_ok-member.ensures in
    rw p.1 (some_stop _ _ _ _ _ _ _ _ _ p.2 c.loop-members.invariant c.last.ensures c.last-2.ensures none.1 c.in_err-rest.ensures.read c.in_err-rest.ensures.place)

pub some_members-returns : goal.some_members-returns
some_members-returns t c =
    let none = rw c.in_default.is at c.in_ok-member.ensures in
    some_read _ _ _ _ _ _ _ _ none.0 c.loop-members.invariant c.last-2.ensures c.in_ok-rest.ensures.read

pub whole_type-returns-in_err-pointers : goal.whole_type-returns-in_err-pointers
whole_type-returns-in_err-pointers t c =
    let p = err_from_is_err_and c.from_residual-in_err-pointers.result c.from_residual-in_err-pointers.ensures.1 in
    rw p.1 (pointers_stop _ _ _ _ _ _ _ p.2 c.in_ok-base.ensures c.in_err-pointers.ensures)

pub whole_type-returns : goal.whole_type-returns
whole_type-returns t c =
    type_reads _ _ _ _ _ _ _ c.in_ok-base.ensures c.in_ok-pointers.ensures
