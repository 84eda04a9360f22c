use Rattle.std.proofs.Common.{refl}
use Rattle.ll_parser.specs.Productions.{◌>>◌}
use Rattle.ll_types.proofs.openings.type_opening.Goals as goal

pub returns-in-Ok-take_mark-3 : goal.returns-in-Ok-take_mark-3
unfolding ◌>>◌
returns-in-Ok-take_mark-3 c = (_, c.in-Ok-take_mark-2.ensures.read, c.in-Ok-take_mark-3.ensures.read)

pub returns : goal.returns
returns c = (
  refl,
  record {
    no_array = c.in_default.ensures.read;
    no_angle = c.in_default-take_mark-2.ensures.read;
    no_brace = c.in_default-take_mark.ensures.read;
    no_name = c.begins_with_name.ensures.no c.if-begins_with_name.false;
  },
)
