use Rattle.std.proofs.Common.{rules}
use Rattle.ocl_names.specs.Syncscopes.{read_syncscope}
use Rattle.ocl_names.proofs.SyncscopeLemmas.{reads_word}
use Rattle.ocl_names.proofs.syncscope.read_scope.Goals as goal

pub returns-clause-exact : goal.returns-clause-exact
unfolding read_syncscope
returns-clause-exact c = reads_word c.args.text.now c.map.result (search rules)
