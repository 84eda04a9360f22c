use Rattle.std.proofs.Common.{◌<◌, ◌+◌, ◌*◌, length, arith, ◌∙◌}
use Rattle.std.proofs.lemmas.Int.{ints}
use Rattle.std.proofs.lemmas.Option.{slice_get-get_or}
use Rattle.spv_module.proofs.PairLemmas.{pair_parent, pairs_within}
use Rattle.spv_module.proofs.inst_set.chosen_parent.Goals as goal

pub overflow_mul-result : goal.overflow_mul-result
overflow_mul-result c = let within = pairs_within c.args.ids.now c.args.i c.requires in grind (arith, ints, within, c.type_inv.ids)

pub offset_bounds-ids-i : goal.offset_bounds-ids-i
offset_bounds-ids-i c = let within = pairs_within c.args.ids.now c.args.i c.requires in grind (arith, ints, within, c.type_inv.ids)

pub bounds-ids-i : goal.bounds-ids-i
bounds-ids-i c = let within = pairs_within c.args.ids.now c.args.i c.requires in omega (arith, within)

pub returns : goal.returns
returns c =
    let within = pairs_within c.args.ids.now c.args.i c.requires in
    let lt : 2 * c.args.i + 1 < length c.args.ids.now = omega (arith, within) in
    pair_parent c.args.ids.now c.args.i c.requires ∙ slice_get-get_or c.args.ids.now (2 * c.args.i + 1) 0 lt

pub overflow_add-result : goal.overflow_add-result
overflow_add-result c = let within = pairs_within c.args.ids.now c.args.i c.requires in grind (arith, ints, within, c.type_inv.ids)
