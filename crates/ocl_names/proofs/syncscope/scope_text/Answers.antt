use Rattle.std.proofs.Common.{rules, Some, None}
use Rattle.ocl_names.specs.Syncscopes.{written_scope}
use Rattle.ocl_names.proofs.SyncscopeLemmas.{no_text}
use Rattle.ocl_names.proofs.syncscope.scope_text.Goals as goal

pub returns-in-CrossDevice-Both-clause-none : goal.returns-in-CrossDevice-Both-clause-none
unfolding written_scope
returns-in-CrossDevice-Both-clause-none c = no_text c.args.scope c.args.mask None (search rules)

pub returns-in_default-clause-none : goal.returns-in_default-clause-none
unfolding written_scope
returns-in_default-clause-none c = no_text c.args.scope c.args.mask (Some c.word.result) (search rules)
