use Rattle.kern_types.proofs.TableLemmas.{layouts_come_from_parts}
use Rattle.kern_types.proofs.laws.layouts_come_from_parts.Goals as goal

pub returns : goal.returns
returns c = layouts_come_from_parts
