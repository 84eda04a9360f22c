use Rattle.std.specs.Int.{w64}
use Rattle.std.proofs.lemmas.Int.{to_z-of_z}
use Rattle.kern_types.proofs.StepLemmas.{element_step, member_step, members_sized}
use Rattle.kern_types.proofs.steps.step.Goals as goal

pub returns-in-Vector : goal.returns-in-Vector
returns-in-Vector c =
    let table = c.args.table.now in
    element_step table.pointer table.types c.args.ty c.get.result.now c.in-Vector.of c.args.index _ c.entries-entries.result.now c.element.result c.element.ensures c.entries-entries.ensures.exact (to_z-of_z w64 c.args.index c.ranges.index) c.get.ensures c.requires.sized c.in-Vector.is

pub member-requires-clause-sized : goal.member-requires-clause-sized
member-requires-clause-sized c =
    let table = c.args.table.now in
    rw (c.as_slice.ensures, c.entries-entries.ensures.exact) (members_sized table.pointer table.types c.args.ty c.get.result.now c.in-Struct.members c.in-Struct.packed c.get.ensures c.requires.sized c.in-Struct.is)

pub returns-in-Struct : goal.returns-in-Struct
returns-in-Struct c =
    let table = c.args.table.now in
    member_step table.pointer table.types c.args.ty c.get.result.now c.in-Struct.members c.as_slice.result.now c.in-Struct.packed c.args.index _ c.entries-entries.result.now c.member.result c.member.ensures c.entries-entries.ensures.exact c.as_slice.ensures (to_z-of_z w64 c.args.index c.ranges.index) c.get.ensures c.requires.sized c.in-Struct.is
