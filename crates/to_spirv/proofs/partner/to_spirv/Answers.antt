use Rattle.std.proofs.Common.{◌≡◌, ◌≤◌, sym, subst}
use Rattle.to_spirv.specs.declared.ids.Ids.{Ids}
use Rattle.to_spirv.specs.ClosedTypes.{needed_by}
use Rattle.to_spirv.specs.Partner.{bound_over}
use Rattle.to_spirv.proofs.NumberLemmas.{numbered-ids}
use Rattle.to_spirv.proofs.TypeLemmas.{ids-needed, partner-needed, parts-needed}
use Rattle.to_spirv.proofs.partner.to_spirv.Goals as goal

pub module_over-requires-clause-has_ids : goal.module_over-requires-clause-has_ids
module_over-requires-clause-has_ids c =
    let kernel = c.args.kernel.now in
    let needed_is : c.types_needed-needed.result ≡ needed_by kernel.params kernel.insts = cc in
    let ids = ids-needed kernel c.types_needed-needed.result c.of.result needed_is c.of.ensures in
    numbered-ids c.of.result kernel c.requires.numbered (subst (λ (i : Ids). bound_over i kernel ≤ 0x3FFFFF) (sym ids) c.requires.bound)

pub module_over-requires-clause-bound : goal.module_over-requires-clause-bound
module_over-requires-clause-bound c =
    let kernel = c.args.kernel.now in
    let needed_is : c.types_needed-needed.result ≡ needed_by kernel.params kernel.insts = cc in
    let ids = ids-needed kernel c.types_needed-needed.result c.of.result needed_is c.of.ensures in
    subst (λ (i : Ids). bound_over i kernel ≤ 0x3FFFFF) (sym ids) c.requires.bound

pub module_over-requires-clause-parts : goal.module_over-requires-clause-parts
module_over-requires-clause-parts c =
    let kernel = c.args.kernel.now in
    let needed_is : c.types_needed-needed.result ≡ needed_by kernel.params kernel.insts = cc in
    parts-needed kernel c.types_needed-needed.result c.of.result needed_is c.of.ensures

pub returns : goal.returns
returns c =
    let kernel = c.args.kernel.now in
    let needed_is : c.types_needed-needed.result ≡ needed_by kernel.params kernel.insts = cc in
    rw (← partner-needed kernel c.types_needed-needed.result c.of.result needed_is c.of.ensures) c.module_over.ensures
