use Rattle.std.proofs.Common.{◌≡◌, ℕ, nat_eq, take}
use Rattle.std.specs.HashMap.{get}
use Rattle.spv_types.specs.Numbers.{constant_number}
use Rattle.spv_types.proofs.numbers.constant_numbers.Given as goal

abbrev pub invariant-loop-inst : goal.invariant-loop-inst
invariant-loop-inst l = (id : ℕ) → get nat_eq l.numbers id ≡ constant_number (take l.inst-index l.insts) id
