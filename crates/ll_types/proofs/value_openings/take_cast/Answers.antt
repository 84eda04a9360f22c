use Rattle.ll_types.proofs.Lanes.{no_cast}
use Rattle.ll_types.proofs.value_openings.take_cast.Goals as goal

pub returns-in-Err : goal.returns-in-Err
returns-in-Err c = no_cast _ c.in_default.ensures.read c.in_default-take_word.ensures.read c.in_default-take_word-2.ensures.read c.in-Err.ensures.read
