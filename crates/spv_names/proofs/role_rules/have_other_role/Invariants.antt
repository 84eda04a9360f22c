use Rattle.std.proofs.Common.{◌≡◌, drop}
use Rattle.spv_names.specs.RoleRules.{have_other_role}
use Rattle.spv_names.proofs.role_rules.have_other_role.Given as goal

abbrev pub invariant-loop-index : goal.invariant-loop-index
invariant-loop-index l = have_other_role l.insts l.asks l.index (drop l.index l.ids) ≡ have_other_role l.insts l.asks 0 l.ids
