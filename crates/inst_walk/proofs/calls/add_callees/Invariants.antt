use Rattle.std.proofs.Common.{◌≡◌, ◌++◌, take}
use Rattle.std.specs.List.{filter_map}
use Rattle.std.specs.Option.{option_and_then}
use Rattle.inst_walk.specs.Places.{place_of}
use Rattle.inst_walk.proofs.calls.add_callees.Given as goal

abbrev pub invariant-loop-inst : goal.invariant-loop-inst
invariant-loop-inst g l = l.row ≡ l.initial.row ++ filter_map (λ inst. option_and_then (place_of g.I.Name.PartialEq.eq l.functions) (g.I.InstSet.outline inst).calls) (take l.inst-index l.insts)
