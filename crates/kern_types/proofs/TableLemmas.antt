-- What types that are added leave as it is
use Rattle.std.proofs.Common.{◌≡◌, List, [], ◌∷◌, Option, Some, None, option_map, refl, sym, ap, ◌∙◌, fold}
use Rattle.std.specs.Prelude.{slice_get}
use Rattle.std.proofs.lemmas.Option.{slice_get-map}
use Rattle.std.proofs.lemmas.List.Sums.{fold-append}
use Rattle.kern_types.specs.declared.class.PointerWidth.{PointerWidth}
use Rattle.kern_types.specs.declared.ty.Ty.{Ty}
use Rattle.kern_types.specs.declared.ty.TyId.{TyId}
use Rattle.kern_types.specs.declared.layout.Layout.{Layout}
use Rattle.kern_types.specs.declared.layout.Entry.{Entry}
use Rattle.kern_types.specs.Layouts.{◌>>=◌, layout_in, layout_of, with_type, entries_of}
use Rattle.kern_types.specs.Laws.{LayoutsComeFromParts, LayoutsStay}
use Rattle.kern_types.proofs.StepLemmas.{Keeps, layout_in-more, IsSettled, entries_settled, types-entries_of}

layout_in-fold : (pointer : PointerWidth) (types : List Ty) (entries : List Entry) (id : TyId) → Keeps (layout_in entries id) (layout_in (fold (with_type pointer) entries types) id)
layout_in-fold pointer [] entries id l e = e
layout_in-fold pointer (t ∷ types) entries id l e =
    layout_in-fold pointer types (with_type pointer entries t) id l (layout_in-more entries (record { ty = t; layout = layout_of pointer entries t } ∷ []) id l e)

pub layouts_stay : LayoutsStay
unfolding entries_of
layouts_stay pointer types more id l e =
    ap (λ es. layout_in es id) (fold-append (with_type pointer) [] types more)
    ∙ layout_in-fold pointer more (fold (with_type pointer) [] types) id l e

from_entry : (pointer : PointerWidth) (entries : List Entry) (t : Ty) (l : Layout) (o : Option Entry) → ((entry : Entry) → o ≡ Some entry → IsSettled pointer entries entry) → option_map (λ entry. entry.ty) o ≡ Some t → (o >>= λ entry. entry.layout) ≡ Some l → layout_of pointer entries t ≡ Some l
from_entry pointer entries t l None settled types e = cc
from_entry pointer entries t l (Some entry) settled types e =
    ap (layout_of pointer entries) (let same : t ≡ entry.ty = cc in same) ∙ (settled entry refl).layout_is l e

pub layouts_come_from_parts : LayoutsComeFromParts
layouts_come_from_parts table id t l found e =
    let entries = entries_of table.pointer table.types in
    from_entry table.pointer entries t l (slice_get entries id.0) (entries_settled table.pointer table.types id.0) (sym (slice_get-map (λ entry. entry.ty) entries id.0) ∙ ap (λ ts. slice_get ts id.0) (types-entries_of table.pointer table.types) ∙ found) e
