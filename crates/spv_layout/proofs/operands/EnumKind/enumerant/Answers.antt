use Rattle.std.proofs.Common.{sym, ◌∙◌, ap}
use Rattle.std.specs.Prelude.{◌==◌, find}
use Rattle.std.specs.Option.{option_map}
use Rattle.spv_layout.proofs.FindLemmas.{find-map, option_map-option_copied}
use Rattle.spv_layout.specs.Enumerants.{enumerant_row}
use Rattle.spv_layout.proofs.operands.EnumKind.enumerant.Goals as goal

pub returns : goal.returns
returns c =
    option_map-option_copied enumerant_row c.with_value.result
    ∙ (ap (option_map enumerant_row) c.with_value.ensures
    ∙ (sym (find-map (λ e. e.value == c.args.value) enumerant_row c.enumerants.result.now)
    ∙ ap (find (λ e. e.value == c.args.value)) c.enumerants.ensures))
