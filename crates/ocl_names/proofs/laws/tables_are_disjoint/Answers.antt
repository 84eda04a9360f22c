use Rattle.ocl_names.proofs.DisjointLemmas.{disjoint}
use Rattle.ocl_names.proofs.laws.tables_are_disjoint.Goals as goal

pub returns : goal.returns
returns c = disjoint
