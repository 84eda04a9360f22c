use Rattle.std.proofs.Common.{rules}
use Rattle.ocl_names.specs.WorkItems.{builtin_of}
use Rattle.ocl_names.proofs.WorkItemLemmas.{in_range}
use Rattle.ocl_names.proofs.work_item.work_item_name.Goals as goal

pub returns-clause-range : goal.returns-clause-range
unfolding builtin_of
returns-clause-range c = in_range c.args.text.now c.map.result (search rules)
