use Rattle.std.proofs.Common.{◌<◌, ◌≤◌, ◌++◌, get_or, min, length, take, flat_map, arith, ap, sym, ◌∙◌}
use Rattle.std.specs.List.{zip}
use Rattle.std.proofs.lemmas.Option.{get_or_from_slice_get, slice_get_within}
use Rattle.spv_module.specs.Sections.{type_declared}
use Rattle.spv_module.proofs.ZipLemmas.{zipped_more, zipped_all}
use Rattle.spv_module.proofs.declared.declared_types.Goals as goal

pub loop-i-preserved : goal.loop-i-preserved
loop-i-preserved c =
    let names = c.args.types.now.names in
    let types = c.args.types.now.table.types in
    let below = c.loop-i-test.true in
    let counted = ap length c.names-names.ensures in
    let lt : c.loop-i.i < length names = omega (arith, below, counted) in
    rw (c.in_ok-add_type.ensures, c.names-names.ensures, c.loop-i.invariant)
    (ap (λ ty. flat_map (type_declared names) (take c.loop-i.i (zip names types)) ++ type_declared names (get_or names c.loop-i.i _, ty)) (sym (get_or_from_slice_get types c.loop-i.i c.at.result.now c.at.result.now c.at.ensures))
    ∙ zipped_more (type_declared names) names types c.loop-i.i _ _ lt (slice_get_within types c.loop-i.i _ c.at.ensures))

pub returns : goal.returns
returns c =
    let names = c.args.types.now.names in
    let types = c.args.types.now.table.types in
    let past = c.loop-i-test.false in
    let counted = ap length c.names-names.ensures in
    let le : min (length names) (length types) ≤ c.loop-i.i = omega (arith, past, counted) in
    c.loop-i.invariant ∙ ap (flat_map (type_declared names)) (zipped_all names types c.loop-i.i le)
