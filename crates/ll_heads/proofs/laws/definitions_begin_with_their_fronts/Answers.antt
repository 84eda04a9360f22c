use Rattle.ll_heads.proofs.HeadsWhole.{definition_of_front, front_of_definition}
use Rattle.ll_heads.proofs.laws.definitions_begin_with_their_fronts.Goals as goal

pub returns : goal.returns
returns c = record { apart = front_of_definition; joined = definition_of_front }
