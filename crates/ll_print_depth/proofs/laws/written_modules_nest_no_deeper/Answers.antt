use Rattle.ll_print_depth.proofs.ModulesLead.{nests-no-deeper}
use Rattle.ll_print_depth.proofs.laws.written_modules_nest_no_deeper.Goals as goal

pub returns : goal.returns
returns c = nests-no-deeper
