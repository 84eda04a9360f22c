use Rattle.std.proofs.Common.{◌≡◌, take, None}
use Rattle.rule_order.specs.Breaks.{least}
use Rattle.spv_names.specs.Definitions.{function_after}
use Rattle.spv_sections.specs.Places.{places_where}
use Rattle.spv_names.specs.IdRules.{uses_unknown}
use Rattle.spv_names.proofs.id_rules.unknown_fault.Given as goal

abbrev pub invariant-loop-index : goal.invariant-loop-index
invariant-loop-index l = record {
  told : l.least ≡ least (places_where (uses_unknown l.insts) (take l.index l.insts));
  function : l.function ≡ function_after 0 None (take l.index l.insts);
}
