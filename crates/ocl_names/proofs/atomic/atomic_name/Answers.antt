use Rattle.std.proofs.Common.{rules}
use Rattle.ocl_names.proofs.AtomicLemmas.{reads_name}
use Rattle.ocl_names.proofs.atomic.atomic_name.Goals as goal

pub returns-clause-exact : goal.returns-clause-exact
returns-clause-exact c = reads_name c.args.text.now c.call_of.result (search rules)
