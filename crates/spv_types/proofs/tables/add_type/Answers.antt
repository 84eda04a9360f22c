use Rattle.std.proofs.Common.{◌==◌, ap, ap₂, sym, ◌∙◌, None, Some}
use Rattle.std.specs.Prelude.{if◌then◌else◌}
use Rattle.std.specs.Option.{option_or}
use Rattle.spv_types.specs.Tables.{place_of}
use Rattle.spv_types.proofs.Places.{placed-more}
use Rattle.spv_types.proofs.tables.add_type.Goals as goal

pub returns-clause-noted : goal.returns-clause-noted
returns-clause-noted c =
    let names = c.args.types.now.names in
    let name = c.args.name in
    λ id.
    c.in_ok-note.ensures id
    ∙ (ap₂ (λ o p. option_or o (if name.id == id then Some p else None)) (c.requires.noted id) c.in_ok-place.ensures.place
    ∙ (sym (placed-more names name id) ∙ ap (λ t. place_of t.names id) (sym c.in_ok-add.ensures.added)))
