use Rattle.std.proofs.Common.{◌≡◌, ℕ, nat_eq, take}
use Rattle.std.specs.HashSet.{contains}
use Rattle.spv_names.specs.RoleRules.{is_entry}
use Rattle.spv_names.proofs.role_rules.entry_functions.Given as goal

abbrev pub invariant-loop-inst : goal.invariant-loop-inst
invariant-loop-inst l = (id : ℕ) → contains nat_eq l.entries id ≡ is_entry (take l.inst-index l.insts) id
