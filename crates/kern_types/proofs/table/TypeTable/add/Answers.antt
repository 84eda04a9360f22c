use Rattle.std.proofs.Common.{◌∙◌, ap, option_map}
use Rattle.kern_types.specs.Layouts.{layout_of}
use Rattle.kern_types.specs.Kept.{capped}
use Rattle.kern_types.proofs.EntryLemmas.{IsTable-push}
use Rattle.kern_types.proofs.table.TypeTable.add.Goals as goal

pub invariant_of-self-2 : goal.invariant_of-self-2
invariant_of-self-2 c =
    let fields = c.self.inside in
    let exact = c.layout_of-layout.ensures.exact ∙ ap (λ es. option_map capped (layout_of fields.pointer es c.args.ty)) c.as_slice.ensures.value in
    rw c.in_ok-push.ensures.items (IsTable-push fields.pointer fields.entries.items c.args.ty c.layout_of-layout.result c.self.invariant exact c.layout_of-layout.ensures.kept)
