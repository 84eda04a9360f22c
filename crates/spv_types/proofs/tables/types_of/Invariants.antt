use Rattle.std.proofs.Common.{◌≡◌, ℕ, nat_eq, drop}
use Rattle.std.specs.HashMap.{get}
use Rattle.spv_types.specs.Numbers.{constant_number}
use Rattle.spv_types.specs.Packed.{is_packed}
use Rattle.spv_types.specs.Tables.{place_of, types_from, no_types}
use Rattle.spv_types.proofs.tables.types_of.Given as goal

abbrev pub invariant-loop-inst : goal.invariant-loop-inst
invariant-loop-inst l = record {
  noted : (id : ℕ) → get nat_eq l.places id ≡ place_of l.types.names id;
  going : types_from (constant_number l.insts) (is_packed l.insts) l.types (drop l.inst-index l.insts)
      ≡ types_from (constant_number l.insts) (is_packed l.insts) (no_types l.fn.pointer) l.insts;
}
