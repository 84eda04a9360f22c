-- Which rule of section order and of ids a decoded module breaks first.
use Rattle.std.specs.Prelude.{ℕ, List, [], ◌∷◌, length, Option}
use Rattle.std.specs.Option.{option_map, option_or}
use Rattle.ports.specs.declared.faults.SpvFault.{SpvFault}
use Rattle.rule_order.specs.declared.breaks.Break.{Break}
use Rattle.rule_order.specs.Breaks.{RulePlaces, first_refusal}
use Rattle.spv_codec.specs.declared.module.RawInst.{RawInst}
use Rattle.spv_codec.specs.declared.module.RawModule.{RawModule}
use Rattle.spv_codec.specs.Framing.{module_words}
use Rattle.spv_sections.specs.SectionOrder.{section_places}
use Rattle.spv_names.specs.IdRules.{bound_places, twice_places, unknown_places, later_places}
use Rattle.spv_names.specs.RoleRules.{role_places}
use Rattle.spv_names.specs.Functions.{function_places}

abbrev pub rule_at : ℕ → List ℕ → RulePlaces
rule_at rule places = record { rule = rule; places = places }

-- the rule of section order, in a module of so many words
abbrev pub order_rules : List RawInst → ℕ → List RulePlaces
order_rules insts words = rule_at 14 (section_places insts words) ∷ []

-- the rules of ids and of the form of functions
abbrev pub id_rules : List RawInst → ℕ → ℕ → List RulePlaces
id_rules insts bound words =
    rule_at 20 (bound_places insts bound) ∷ rule_at 21 (twice_places insts) ∷ rule_at 22 (unknown_places insts) ∷
    rule_at 23 (role_places insts) ∷ rule_at 24 (later_places insts) ∷ rule_at 25 (function_places insts words) ∷ []

abbrev pub fault_of : Break → SpvFault
fault_of told = record { rule = told.rule; word = told.place }

-- the break that is told: that of section order where there is one
abbrev pub names_break : List RawInst → ℕ → ℕ → Option Break
names_break insts bound words = option_or (first_refusal (order_rules insts words)) (first_refusal (id_rules insts bound words))

abbrev pub names_fault : RawModule → Option SpvFault
names_fault raw = option_map fault_of (names_break raw.insts raw.bound (length (module_words raw)))
