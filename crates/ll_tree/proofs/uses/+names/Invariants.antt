use Rattle.std.proofs.Common.{◌≡◌, ◌++◌, take}
use Rattle.ll_tree.specs.Values.{names_in, bare}
use Rattle.ll_tree.proofs.uses.+names.Given as goal

abbrev pub invariant-add_all_names-loop-typed : goal.invariant-add_all_names-loop-typed
invariant-add_all_names-loop-typed l =
    l.names.items ≡ l.initial.names.items ++ names_in (bare (take l.typed-index l.values))
