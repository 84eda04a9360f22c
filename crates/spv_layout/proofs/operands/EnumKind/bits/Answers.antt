use Rattle.std.proofs.Common.{sym, ◌∙◌, ap, bit_or}
use Rattle.std.specs.Prelude.{fold}
use Rattle.std.proofs.lemmas.List.Folds.{fold-map}
use Rattle.spv_layout.specs.Enumerants.{enumerant_row}
use Rattle.spv_layout.proofs.operands.EnumKind.bits.Goals as goal

pub returns : goal.returns
returns c =
    c.bits_in.ensures ∙ (sym (fold-map (λ bits e. bit_or bits e.value) enumerant_row 0 c.enumerants.result.now)
    ∙ ap (fold (λ bits e. bit_or bits e.value) 0) c.enumerants.ensures)
