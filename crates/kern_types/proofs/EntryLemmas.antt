-- The entries of a table, as they are and as they are kept
use Rattle.std.proofs.Common.{◌≡◌, ℕ, ◌+◌, ◌*◌, ◌^◌, ◌<◌, ◌≤◌, max, Bool, true, false, List, [], ◌∷◌, ◌++◌, map, Option, Some, None, IfSome, option_map, refl, sym, ap, ◌∙◌, arith, inl, inr, ◌⊎◌}
use Rattle.std.proofs.Math.Nat.{le-mul_of_pos_right, mul_comm}
use Rattle.std.specs.Prelude.{slice_get, if◌then◌else◌, ◌==◌}
use Rattle.std.specs.Int.{next_multiple_of}
use Rattle.std.proofs.lemmas.Bool.{cases_lt}
use Rattle.kern_types.specs.declared.class.PointerWidth.{PointerWidth}
use Rattle.kern_types.specs.declared.ty.Ty.{Ty}
use Rattle.kern_types.specs.declared.ty.Ty.TheVariants as ty
use Rattle.kern_types.specs.declared.ty.TyId.{TyId}
use Rattle.kern_types.specs.declared.layout.Layout.{Layout}
use Rattle.kern_types.specs.declared.layout.Entry.{Entry}
use Rattle.kern_types.specs.Layouts.{◌>>=◌, end_after, greatest_align, as_placed, unaligned, struct_of, layout_in, layouts_in, type_in, element_bytes, lane_room, repeated, natural, layout_of, with_type, entries_of}
use Rattle.std.proofs.lemmas.Option.{slice_get-map}
use Rattle.kern_types.specs.Pointers.{pointer_bytes}
use Rattle.kern_types.specs.Kept.{capped_size, capped, capped_entry, IsKept, IsKeptEntry, IsTable}
use Rattle.std.proofs.lemmas.List.Elements.{All-nil, All-push}
use Rattle.std.proofs.lemmas.List.{map-append}
use Rattle.std.proofs.lemmas.List.Sums.{fold-append}
use Rattle.std.proofs.lemmas.Bool.Decides.{nat_tests}
use Rattle.kern_types.proofs.SizeLemmas.{KeptAlike, KeptAlike-add, KeptAlike-next, layout_same}

-- what is kept of a layout that is kept already
capped-capped : (o : Option Layout) → option_map capped (option_map capped o) ≡ option_map capped o
capped-capped None = refl
capped-capped (Some l) = ap Some (layout_same _ _ _ _ (omega arith) refl)

-- an id's layout among the kept entries is what is kept of its layout
pub layout_in-kept : (entries : List Entry) (id : TyId) → layout_in (map capped_entry entries) id ≡ option_map capped (layout_in entries id)
layout_in-kept entries id =
    ap (λ o. o >>= λ entry. entry.layout) (slice_get-map capped_entry entries id.0) ∙ of_entry (slice_get entries id.0)
  where
    of_entry : (o : Option Entry) → (option_map capped_entry o >>= λ entry. entry.layout) ≡ option_map capped (o >>= λ entry. entry.layout)
    of_entry None = refl
    of_entry (Some entry) = refl

type_in-kept : (entries : List Entry) (id : TyId) → type_in (map capped_entry entries) id ≡ type_in entries id
type_in-kept entries id =
    ap (λ o. o >>= λ entry. Some entry.ty) (slice_get-map capped_entry entries id.0) ∙ of_entry (slice_get entries id.0)
  where
    of_entry : (o : Option Entry) → (option_map capped_entry o >>= λ entry. Some entry.ty) ≡ (o >>= λ entry. Some entry.ty)
    of_entry None = refl
    of_entry (Some entry) = refl

cons_layouts : Option Layout → Option (List Layout) → Option (List Layout)
cons_layouts first rest = first >>= λ a. rest >>= λ b. Some (a ∷ b)

pub layouts_in-kept : (entries : List Entry) (ids : List TyId) → layouts_in (map capped_entry entries) ids ≡ option_map (map capped) (layouts_in entries ids)
unfolding layouts_in cons_layouts
layouts_in-kept entries [] = refl
layouts_in-kept entries (id ∷ ids) =
    ap (λ o. cons_layouts o (layouts_in (map capped_entry entries) ids)) (layout_in-kept entries id)
    ∙ ap (λ o. cons_layouts (option_map capped (layout_in entries id)) o) (layouts_in-kept entries ids)
    ∙ both (layout_in entries id) (layouts_in entries ids)
  where
    both : (first : Option Layout) (rest : Option (List Layout)) → cons_layouts (option_map capped first) (option_map (map capped) rest) ≡ option_map (map capped) (cons_layouts first rest)
    both None rest = refl
    both (Some a) None = refl
    both (Some a) (Some b) = refl

-- members as they are kept end where the members themselves do
KeptAlike-members : (x y : ℕ) (members : List Layout) → KeptAlike x y → KeptAlike (end_after x (map capped members)) (end_after y members)
unfolding end_after
KeptAlike-members x y [] alike = alike
KeptAlike-members x y (m ∷ ms) alike =
    KeptAlike-members (next_multiple_of x m.align + capped_size m.size) (next_multiple_of y m.align + m.size) ms (KeptAlike-add (next_multiple_of x m.align) (next_multiple_of y m.align) (capped_size m.size) m.size (KeptAlike-next x y m.align alike) (omega arith))

greatest_align-kept : (members : List Layout) → greatest_align (map capped members) ≡ greatest_align members
unfolding greatest_align
greatest_align-kept [] = refl
greatest_align-kept (m ∷ ms) = ap (λ n. max m.align n) (greatest_align-kept ms)

struct_of-kept : (members : List Layout) → capped (struct_of (map capped members)) ≡ capped (struct_of members)
struct_of-kept members =
    let aligns = greatest_align-kept members in
    layout_same _ _ _ _
    (KeptAlike-next (end_after 0 (map capped members)) (end_after 0 members) (greatest_align (map capped members)) (KeptAlike-members 0 0 members refl)
    ∙ ap (λ n. capped_size (next_multiple_of (end_after 0 members) n)) aligns)
    aligns

pub as_placed-kept : (packed : Bool) (members : List Layout) → as_placed packed (map capped members) ≡ map capped (as_placed packed members)
as_placed-kept false members = refl
as_placed-kept true [] = refl
as_placed-kept true (m ∷ ms) = ap (λ xs. capped (unaligned m) ∷ xs) (as_placed-kept true ms)

repeated-kept : (count : ℕ) (part : Layout) → 0 < count → capped (repeated count (capped part)) ≡ capped (repeated count part)
repeated-kept count part some =
    layout_same _ _ _ _ (size (cases_lt part.size (2 ^ 40 + 1))) refl
  where
    size : (part.size < 2 ^ 40 + 1) ⊎ (2 ^ 40 + 1 ≤ part.size) → capped_size (count * capped_size part.size) ≡ capped_size (count * part.size)
    size (inl low) = let same : capped_size part.size ≡ part.size = omega arith in ap (λ n. capped_size (count * n)) same
    size (inr high) =
        let same : capped_size part.size ≡ 2 ^ 40 + 1 = omega arith in
        let least : part.size ≤ count * part.size = rw (mul_comm count part.size) (le-mul_of_pos_right part.size some) in
        let least' : 2 ^ 40 + 1 ≤ count * (2 ^ 40 + 1) = omega arith in
        ap (λ n. capped_size (count * n)) same ∙ omega arith

pub pos_from_test : (count : ℕ) → (count == 0) ≡ false → 0 < count
pos_from_test count e = grind (arith, nat_tests)

-- the layout over the kept entries is kept as the layout itself
pub layout_of-kept : (pointer : PointerWidth) (entries : List Entry) (t : Ty) → option_map capped (layout_of pointer (map capped_entry entries) t) ≡ option_map capped (layout_of pointer entries t)
unfolding layout_of
layout_of-kept pointer entries ty.Void = refl
layout_of-kept pointer entries ty.Bool = refl
layout_of-kept pointer entries (ty.Int width) = refl
layout_of-kept pointer entries (ty.Vector part lanes) =
    ap (λ o. option_map capped (o >>= λ element. element_bytes element >>= λ bytes. lane_room lanes >>= λ room. Some (natural (room * bytes)))) (type_in-kept entries part)
layout_of-kept pointer entries (ty.Array part count) =
    ap (λ o. option_map capped (if count == 0 then None else option_map (repeated count) o)) (layout_in-kept entries part)
    ∙ array (count == 0) (pos_from_test count) (layout_in entries part)
  where
    array : (none : Bool) → (none ≡ false → 0 < count) → (o : Option Layout) → option_map capped (if none then None else option_map (repeated count) (option_map capped o)) ≡ option_map capped (if none then None else option_map (repeated count) o)
    array true some o = refl
    array false some None = refl
    array false some (Some l) = ap Some (repeated-kept count l (some refl))
layout_of-kept pointer entries (ty.Struct members packed) =
    ap (λ o. option_map capped (option_map (λ parts. struct_of (as_placed packed parts)) o)) (layouts_in-kept entries members)
    ∙ struct (layouts_in entries members)
  where
    struct : (o : Option (List Layout)) → option_map capped (option_map (λ parts. struct_of (as_placed packed parts)) (option_map (map capped) o)) ≡ option_map capped (option_map (λ parts. struct_of (as_placed packed parts)) o)
    struct None = refl
    struct (Some parts) =
        ap Some (ap (λ xs. capped (struct_of xs)) (as_placed-kept packed parts) ∙ struct_of-kept (as_placed packed parts))
layout_of-kept pointer entries (ty.Pointer class to) =
    ap (λ o. option_map capped (option_map (λ target. natural (pointer_bytes pointer)) o)) (layout_in-kept entries to)
    ∙ target (layout_in entries to)
  where
    target : (o : Option Layout) → option_map capped (option_map (λ l. natural (pointer_bytes pointer)) (option_map capped o)) ≡ option_map capped (option_map (λ l. natural (pointer_bytes pointer)) o)
    target None = refl
    target (Some l) = refl
layout_of-kept pointer entries (ty.Function given params) = refl
layout_of-kept pointer entries ty.Other = refl

-- one type more comes with its layout over the entries before it
pub entries_of-push : (pointer : PointerWidth) (types : List Ty) (t : Ty) → entries_of pointer (types ++ t ∷ []) ≡ with_type pointer (entries_of pointer types) t
unfolding entries_of
entries_of-push pointer types t = fold-append (with_type pointer) [] types (t ∷ [])

-- the types of entries
abbrev pub types_of : List Entry → List Ty
types_of entries = map (λ entry. entry.ty) entries

-- a table with one type more is a table
pub IsTable-push : (pointer : PointerWidth) (entries : List Entry) (t : Ty) (layout : Option Layout) → IsTable pointer entries → layout ≡ option_map capped (layout_of pointer entries t) → IfSome layout IsKept → IsTable pointer (entries ++ (record { ty = t; layout = layout }) ∷ [])
IsTable-push pointer entries t layout table exact kept =
    let real = entries_of pointer (types_of entries) in
    let entry : Entry = record { ty = t; layout = layout } in
    let named : Option Layout → Entry = λ o. record { ty = t; layout = o } in
    let types : types_of (entries ++ entry ∷ []) ≡ types_of entries ++ t ∷ [] = map-append (λ e. e.ty) entries (entry ∷ []) in
    let over = ap (λ es. option_map capped (layout_of pointer es t)) table.exact in
    let here : layout ≡ option_map capped (layout_of pointer real t) = exact ∙ over ∙ layout_of-kept pointer real t in
    record {
      kept = All-push IsKeptEntry entries entry table.kept kept;
      exact =
          ap (λ o. entries ++ named o ∷ []) here
          ∙ ap (λ es. es ++ named (option_map capped (layout_of pointer real t)) ∷ []) table.exact
          ∙ sym (map-append capped_entry real (named (layout_of pointer real t) ∷ []))
          ∙ ap (map capped_entry) (sym (entries_of-push pointer (types_of entries) t) ∙ ap (entries_of pointer) (sym types));
    }

pub IsTable-nil : (pointer : PointerWidth) → IsTable pointer []
unfolding entries_of
IsTable-nil pointer = record { kept = All-nil IsKeptEntry; exact = refl }
