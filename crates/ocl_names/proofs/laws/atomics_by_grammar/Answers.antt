use Rattle.ocl_names.proofs.AtomicLemmas.{by_grammar}
use Rattle.ocl_names.proofs.laws.atomics_by_grammar.Goals as goal

pub returns : goal.returns
returns c = by_grammar
