use Rattle.std.proofs.Common.{◌≡◌, ap, rules}
use Rattle.to_spirv.specs.ClosedTypes.{needed_by}
use Rattle.to_spirv.proofs.NumberLemmas.{bound-test}
use Rattle.to_spirv.proofs.TypeLemmas.{ids-needed}
use Rattle.to_spirv.proofs.bound.has_bound_within.Goals as goal

pub returns : goal.returns
returns c =
    let kernel = c.args.kernel.now in
    let needed_is : c.types_needed-needed.result ≡ needed_by kernel.params kernel.insts = cc in
    let ids = ids-needed kernel c.types_needed-needed.result c.of.result needed_is c.of.ensures in
    bound-test kernel c.of.result.function c.saturating_add-names.result c.has_room.result (ap (λ i. i.function) ids) (search rules) c.has_room.ensures
