use Rattle.std.proofs.Common.{rules}
use Rattle.ocl_names.specs.Syncscopes.{scope_name, scopes}
use Rattle.ocl_names.proofs.SearchLemmas.{front_within}
use Rattle.ocl_names.proofs.syncscope.word_parts.Goals as goal

pub split_at-requires : goal.split_at-requires
split_at-requires c =
    front_within scope_name c.args.text.now scopes c.in_ok-scope.scope c.name.result.now (search rules) c.name.ensures
