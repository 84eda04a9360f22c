use Rattle.ll_bodies.proofs.OperationWords.{ends_block, goes_on, may_be_named, never_named}
use Rattle.ll_bodies.proofs.laws.instructions_begin_with_their_words.Goals as goal

pub returns : goal.returns
returns c = record { ends = ends_block; goes_on = goes_on; unnamed = never_named; named = may_be_named }
