use Rattle.std.proofs.Common.{slice_index, rules}
use Rattle.std.proofs.lemmas.List.FromFn.{fill_by_all}
use Rattle.kern_events.proofs.item.Item.new.Goals as goal

pub returns : goal.returns
returns c = fill_by_all (λ k. slice_index c.args.numbers.now k) c.loop-i.kept 27 0 c.loop-i.invariant.0 (search rules)
