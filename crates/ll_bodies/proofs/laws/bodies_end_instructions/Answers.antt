use Rattle.ll_bodies.proofs.BodyEnds.{close_ends_inst, label_ends_inst, local_ends_inst, word_ends_inst}
use Rattle.ll_bodies.proofs.laws.bodies_end_instructions.Goals as goal

pub returns : goal.returns
returns c = record { operations = word_ends_inst; names = local_ends_inst; labels = label_ends_inst; ends = close_ends_inst }
