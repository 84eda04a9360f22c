-- A step over the entries as they are kept is one over the entries themselves
use Rattle.std.proofs.Common.{◌≡◌, ℕ, ◌+◌, ◌*◌, ◌^◌, ◌<◌, ◌≤◌, zero, suc, Bool, true, false, List, [], ◌∷◌, ◌++◌, length, map, Option, Some, None, IsSome, option_map, ◌⊎◌, inl, inr, fold, refl, sym, ap, ◌∙◌, arith, append_assoc, append-nil}
use Rattle.std.specs.Prelude.{slice_get, if◌then◌else◌, ◌==◌, ℤ, pos, negsuc, ◌*ℤ◌}
use Rattle.std.specs.Int.{next_multiple_of}
use Rattle.std.proofs.Math.Nat.{le-mul_of_pos_right, mul_comm}
use Rattle.std.proofs.lemmas.Option.{slice_get-map}
use Rattle.std.proofs.lemmas.List.{map-append}
use Rattle.std.proofs.lemmas.Bool.Decides.{nat_tests}
use Rattle.kern_lanes.specs.declared.width.Width.{Width}
use Rattle.kern_lanes.specs.declared.width.Width.TheVariants.{W64}
use Rattle.kern_lanes.specs.Widths.{lane}
use Rattle.kern_types.specs.declared.class.PointerWidth.{PointerWidth}
use Rattle.kern_types.specs.declared.ty.Ty.{Ty}
use Rattle.kern_types.specs.declared.ty.Ty.TheVariants as ty
use Rattle.kern_types.specs.declared.ty.TyId.{TyId}
use Rattle.kern_types.specs.declared.layout.Layout.{Layout}
use Rattle.kern_types.specs.declared.layout.Entry.{Entry}
use Rattle.kern_types.specs.Layouts.{◌>>=◌, end_after, as_placed, struct_of, layout_in, layouts_in, struct_in, type_in, element_bytes, int_bytes, lane_room, vector_of, array_of, repeated, natural, layout_of, with_type, entries_of}
use Rattle.kern_types.specs.Pointers.{pointer_bytes}
use Rattle.kern_types.specs.Kept.{capped_size, capped, capped_entry, start_of, kept_member}
use Rattle.kern_types.specs.Tables.{within_limit}
use Rattle.kern_types.specs.Steps.{member_offset, answered, element_at, member_at, part_in}
use Rattle.kern_types.proofs.SizeLemmas.{KeptAlike, KeptAlike-add, KeptAlike-next}
use Rattle.kern_types.proofs.EntryLemmas.{layout_in-kept, layouts_in-kept, as_placed-kept, pos_from_test}

-- ---- more entries keep what fewer give

slice_get-more : {A : Type 0} (xs ys : List A) (i : ℕ) (x : A) → slice_get xs i ≡ Some x → slice_get (xs ++ ys) i ≡ Some x
slice_get-more [] ys i x e = cc
slice_get-more (a ∷ xs) ys zero x e = e
slice_get-more (a ∷ xs) ys (suc i) x e = slice_get-more xs ys i x e

-- o' gives what o gives
abbrev pub Keeps : {A : Type 0} → Option A → Option A → Type 0
Keeps {A} o o' = (x : A) → o ≡ Some x → o' ≡ Some x

bind-keeps : {A B : Type 0} (o o' : Option A) (f : A → Option B) → Keeps o o' → Keeps (o >>= f) (o' >>= f)
bind-keeps None o' f keeps y e = cc
bind-keeps (Some x) o' f keeps y e = ap (λ z. z >>= f) (keeps x refl) ∙ e

option_map-keeps : {A B : Type 0} (o o' : Option A) (f : A → B) → Keeps o o' → Keeps (option_map f o) (option_map f o')
option_map-keeps None o' f keeps y e = cc
option_map-keeps (Some x) o' f keeps y e = ap (option_map f) (keeps x refl) ∙ e

pub layout_in-more : (entries more : List Entry) (id : TyId) → Keeps (layout_in entries id) (layout_in (entries ++ more) id)
layout_in-more entries more id = bind-keeps (slice_get entries id.0) (slice_get (entries ++ more) id.0) (λ entry. entry.layout) (slice_get-more entries more id.0)

type_in-more : (entries more : List Entry) (id : TyId) → Keeps (type_in entries id) (type_in (entries ++ more) id)
type_in-more entries more id = bind-keeps (slice_get entries id.0) (slice_get (entries ++ more) id.0) (λ entry. Some entry.ty) (slice_get-more entries more id.0)

layouts_in-more : (entries more : List Entry) (ids : List TyId) → Keeps (layouts_in entries ids) (layouts_in (entries ++ more) ids)
unfolding layouts_in
layouts_in-more entries more [] y e = e
layouts_in-more entries more (id ∷ ids) y e = both (layout_in entries id) (layouts_in entries ids) (layout_in-more entries more id) (layouts_in-more entries more ids) e
  where
    both : (o : Option Layout) (os : Option (List Layout)) → Keeps o (layout_in (entries ++ more) id) → Keeps os (layouts_in (entries ++ more) ids) → (o >>= λ a. os >>= λ b. Some (a ∷ b)) ≡ Some y → (layout_in (entries ++ more) id >>= λ a. layouts_in (entries ++ more) ids >>= λ b. Some (a ∷ b)) ≡ Some y
    both None os first rest h = cc
    both (Some a) None first rest h = cc
    both (Some a) (Some b) first rest h =
        ap (λ o. o >>= λ x. layouts_in (entries ++ more) ids >>= λ z. Some (x ∷ z)) (first a refl)
        ∙ ap (λ o. o >>= λ z. Some (a ∷ z)) (rest b refl) ∙ h

layout_of-more : (pointer : PointerWidth) (entries more : List Entry) (t : Ty) → Keeps (layout_of pointer entries t) (layout_of pointer (entries ++ more) t)
unfolding layout_of
layout_of-more pointer entries more ty.Void y e = e
layout_of-more pointer entries more ty.Bool y e = e
layout_of-more pointer entries more (ty.Int width) y e = e
layout_of-more pointer entries more (ty.Vector part lanes) y e =
    bind-keeps (type_in entries part) (type_in (entries ++ more) part) (λ element. element_bytes element >>= λ bytes. lane_room lanes >>= λ room. Some (natural (room * bytes))) (type_in-more entries more part) y e
layout_of-more pointer entries more (ty.Array part count) y e =
    array (count == 0) (layout_in entries part) (layout_in (entries ++ more) part) (layout_in-more entries more part) e
  where
    array : (none : Bool) (o o' : Option Layout) → Keeps o o' → (if none then None else option_map (repeated count) o) ≡ Some y → (if none then None else option_map (repeated count) o') ≡ Some y
    array true o o' keeps h = h
    array false o o' keeps h = option_map-keeps o o' (repeated count) keeps y h
layout_of-more pointer entries more (ty.Struct members packed) y e =
    option_map-keeps (layouts_in entries members) (layouts_in (entries ++ more) members) (λ parts. struct_of (as_placed packed parts)) (layouts_in-more entries more members) y e
layout_of-more pointer entries more (ty.Pointer class to) y e =
    option_map-keeps (layout_in entries to) (layout_in (entries ++ more) to) (λ target. natural (pointer_bytes pointer)) (layout_in-more entries more to) y e
layout_of-more pointer entries more (ty.Function given params) y e = e
layout_of-more pointer entries more ty.Other y e = e

-- ---- an entry has the layout that all entries give its type

-- the entry is settled: later entries do not change its layout
pub record IsSettled (pointer : PointerWidth) (entries : List Entry) (entry : Entry) : Type 0 where
  pub layout_is : Keeps entry.layout (layout_of pointer entries entry.ty)
  pub integer : (width : Width) → entry.ty ≡ ty.Int width → entry.layout ≡ option_map natural (int_bytes width)

abbrev pub AllSettled : PointerWidth → List Entry → Type 0
AllSettled pointer entries = (i : ℕ) (entry : Entry) → slice_get entries i ≡ Some entry → IsSettled pointer entries entry

pub slice_get-split : {A : Type 0} (xs : List A) (y x : A) (i : ℕ) → slice_get (xs ++ y ∷ []) i ≡ Some x → (slice_get xs i ≡ Some x) ⊎ (y ≡ x)
slice_get-split [] y x zero e = inr cc
slice_get-split [] y x (suc i) e = cc
slice_get-split (a ∷ xs) y x zero e = inl e
slice_get-split (a ∷ xs) y x (suc i) e = slice_get-split xs y x i e

integer_layout : (pointer : PointerWidth) (entries : List Entry) (t : Ty) (width : Width) → t ≡ ty.Int width → layout_of pointer entries t ≡ option_map natural (int_bytes width)
unfolding layout_of
integer_layout pointer entries t width e = ap (layout_of pointer entries) e

AllSettled-with_type : (pointer : PointerWidth) (entries : List Entry) (t : Ty) → AllSettled pointer entries → AllSettled pointer (with_type pointer entries t)
AllSettled-with_type pointer entries t settled i entry found =
    let new : Entry = record { ty = t; layout = layout_of pointer entries t } in
    elim (slice_get-split entries new entry i found) [
      | inl old ↦ let h = settled i entry old in record {
        layout_is = λ l e. layout_of-more pointer entries (new ∷ []) entry.ty l (h.layout_is l e);
        integer = h.integer;
      }
      | inr last ↦ record {
        layout_is = λ l e. layout_of-more pointer entries (new ∷ []) entry.ty l (ap (λ x. layout_of pointer entries x.ty) (sym last) ∙ ap (λ x. x.layout) last ∙ e);
        integer = λ width e. ap (λ x. x.layout) (sym last) ∙ integer_layout pointer entries t width (ap (λ x. x.ty) last ∙ e);
      }
    ]

AllSettled-fold : (pointer : PointerWidth) (types : List Ty) (entries : List Entry) → AllSettled pointer entries → AllSettled pointer (fold (with_type pointer) entries types)
AllSettled-fold pointer [] entries settled = settled
AllSettled-fold pointer (t ∷ types) entries settled =
    AllSettled-fold pointer types (with_type pointer entries t) (AllSettled-with_type pointer entries t settled)

pub entries_settled : (pointer : PointerWidth) (types : List Ty) → AllSettled pointer (entries_of pointer types)
unfolding entries_of
entries_settled pointer types = AllSettled-fold pointer types [] (λ i entry e. cc)

types-fold : (pointer : PointerWidth) (types : List Ty) (entries : List Entry) → map (λ entry. entry.ty) (fold (with_type pointer) entries types) ≡ map (λ entry. entry.ty) entries ++ types
types-fold pointer [] entries = sym (append-nil (map (λ entry. entry.ty) entries))
types-fold pointer (t ∷ types) entries =
    let new : Entry = record { ty = t; layout = layout_of pointer entries t } in
    types-fold pointer types (with_type pointer entries t)
    ∙ ap (λ xs. xs ++ types) (map-append (λ entry. entry.ty) entries (new ∷ []))
    ∙ append_assoc (map (λ entry. entry.ty) entries) (t ∷ []) types

-- the entries are those of their types
pub types-entries_of : (pointer : PointerWidth) (types : List Ty) → map (λ entry. entry.ty) (entries_of pointer types) ≡ types
unfolding entries_of
types-entries_of pointer types = types-fold pointer types []

-- ---- the layout of a type of the table that has a size

-- t has a layout over the entries, of at most the greatest size
pub record HasKeptLayout (pointer : PointerWidth) (entries : List Entry) (t : Ty) : Type 0 where
  pub layout : Layout
  pub layout_is : layout_of pointer entries t ≡ Some layout
  pub bounded : layout.size ≤ 2 ^ 40

kept_layout-from : (pointer : PointerWidth) (entries : List Entry) (t : Ty) (o : Option Entry) → ((entry : Entry) → o ≡ Some entry → IsSettled pointer entries entry) → option_map (λ entry. entry.ty) o ≡ Some t → IsSome (option_map (λ l. l.size) ((o >>= λ entry. entry.layout) >>= within_limit)) → HasKeptLayout pointer entries t
kept_layout-from pointer entries t None settled types sized = cc
kept_layout-from pointer entries t (Some entry) settled types sized = by_layout entry.layout refl sized
  where
    by_layout : (o : Option Layout) → entry.layout ≡ o → IsSome (option_map (λ l. l.size) (o >>= within_limit)) → HasKeptLayout pointer entries t
    by_layout None e has = cc
    by_layout (Some l) e has = record {
      layout = l;
      layout_is = ap (layout_of pointer entries) (let same : t ≡ entry.ty = cc in same) ∙ (settled entry refl).layout_is l e;
      bounded = grind (arith, nat_tests);
    }

pub kept_layout : (pointer : PointerWidth) (types : List Ty) (id : TyId) (t : Ty) → slice_get types id.0 ≡ Some t → IsSome (option_map (λ l. l.size) (layout_in (entries_of pointer types) id >>= within_limit)) → HasKeptLayout pointer (entries_of pointer types) t
kept_layout pointer types id t found sized =
    let entries = entries_of pointer types in
    kept_layout-from pointer entries t (slice_get entries id.0) (entries_settled pointer types id.0) (sym (slice_get-map (λ entry. entry.ty) entries id.0) ∙ ap (λ ts. slice_get ts id.0) (types-entries_of pointer types) ∙ found) sized

-- ---- elements

-- the layout of a part, which is no larger than this
pub record HasPart (entries : List Entry) (part : TyId) (most : ℕ) : Type 0 where
  pub layout : Layout
  pub layout_is : layout_in entries part ≡ Some layout
  pub bounded : layout.size ≤ most

HasPart-array : (entries : List Entry) (part : TyId) (count : ℕ) (l : Layout) → array_of entries part count ≡ Some l → HasPart entries part l.size
HasPart-array entries part count l e = array (count == 0) (pos_from_test count) (layout_in entries part) refl e
  where
    array : (none : Bool) → (none ≡ false → 0 < count) → (o : Option Layout) → layout_in entries part ≡ o → (if none then None else option_map (repeated count) o) ≡ Some l → HasPart entries part l.size
    array true some o is h = cc
    array false some None is h = cc
    array false some (Some lp) is h = record {
      layout = lp;
      layout_is = is;
      bounded =
          let size : count * lp.size ≡ l.size = ap (λ x. x.size) (let same : repeated count lp ≡ l = cc in same) in
          let least : lp.size ≤ count * lp.size = rw (mul_comm count lp.size) (le-mul_of_pos_right lp.size (some refl)) in
          omega arith;
    }

lane_room-pos : (lanes room : ℕ) → lane_room lanes ≡ Some room → 0 < room
lane_room-pos lanes room e = grind (arith, nat_tests)

vector_part : (entries : List Entry) (part : TyId) (lanes : ℕ) (l : Layout) (width : Width) → layout_in entries part ≡ option_map natural (int_bytes width) → (bytes : Option ℕ) → int_bytes width ≡ bytes → (room : Option ℕ) → lane_room lanes ≡ room → (bytes >>= λ b. room >>= λ r. Some (natural (r * b))) ≡ Some l → HasPart entries part l.size
vector_part entries part lanes l width here None bytes_is room room_is e = cc
vector_part entries part lanes l width here (Some b) bytes_is None room_is e = cc
vector_part entries part lanes l width here (Some b) bytes_is (Some r) room_is e =
    let size : r * b ≡ l.size = ap (λ x. x.size) (let same : natural (r * b) ≡ l = cc in same) in
    let least : b ≤ r * b = rw (mul_comm r b) (le-mul_of_pos_right b (lane_room-pos lanes r room_is)) in
    record {
      layout = natural b;
      layout_is = here ∙ ap (option_map natural) bytes_is;
      bounded = omega arith;
    }

vector_element : (entries : List Entry) (part : TyId) (lanes : ℕ) (l : Layout) (entry : Entry) → layout_in entries part ≡ entry.layout → ((width : Width) → entry.ty ≡ ty.Int width → entry.layout ≡ option_map natural (int_bytes width)) → (t : Ty) → entry.ty ≡ t → (element_bytes t >>= λ b. lane_room lanes >>= λ r. Some (natural (r * b))) ≡ Some l → HasPart entries part l.size
vector_element entries part lanes l entry here integer ty.Void type_is e = cc
vector_element entries part lanes l entry here integer ty.Bool type_is e = cc
vector_element entries part lanes l entry here integer (ty.Int width) type_is e =
    vector_part entries part lanes l width (here ∙ integer width type_is) (int_bytes width) refl (lane_room lanes) refl e
vector_element entries part lanes l entry here integer (ty.Vector other n) type_is e = cc
vector_element entries part lanes l entry here integer (ty.Array other n) type_is e = cc
vector_element entries part lanes l entry here integer (ty.Struct members packed) type_is e = cc
vector_element entries part lanes l entry here integer (ty.Pointer class to) type_is e = cc
vector_element entries part lanes l entry here integer (ty.Function given params) type_is e = cc
vector_element entries part lanes l entry here integer ty.Other type_is e = cc

HasPart-vector : (pointer : PointerWidth) (entries : List Entry) (part : TyId) (lanes : ℕ) (l : Layout) → AllSettled pointer entries → vector_of entries part lanes ≡ Some l → HasPart entries part l.size
HasPart-vector pointer entries part lanes l settled e =
    by_entry (slice_get entries part.0) refl e
  where
    by_entry : (o : Option Entry) → slice_get entries part.0 ≡ o → ((o >>= λ entry. Some entry.ty) >>= λ t. element_bytes t >>= λ b. lane_room lanes >>= λ r. Some (natural (r * b))) ≡ Some l → HasPart entries part l.size
    by_entry None is h = cc
    by_entry (Some entry) is h =
        vector_element entries part lanes l entry (ap (λ o. o >>= λ x. x.layout) is) (settled part.0 entry is).integer entry.ty refl h

-- a step to an element
answered-element : (entries : List Entry) (part : TyId) (index : ℤ) → HasPart entries part (2 ^ 40) → answered (element_at (map capped_entry entries) part index) ≡ answered (element_at entries part index)
answered-element entries part index has =
    let lp = has.layout in
    let same : capped_size lp.size ≡ lp.size = omega (arith, has.bounded) in
    let kept : layout_in (map capped_entry entries) part ≡ Some (capped lp) = layout_in-kept entries part ∙ ap (option_map capped) has.layout_is in
    let given : Option Layout → Option (ℕ × TyId) = λ o. answered (option_map (λ layout. (index *ℤ pos layout.size, part)) o) in
    ap given kept ∙ ap (λ n. Some (lane W64 (index *ℤ pos n), part)) same ∙ sym (ap given has.layout_is)

-- ---- members

end_after-ge : (at : ℕ) (members : List Layout) → at ≤ end_after at members
unfolding end_after
end_after-ge at [] = omega arith
end_after-ge at (m ∷ ms) = omega (arith, end_after-ge (next_multiple_of at m.align + m.size) ms)

member_offset-le : (at : ℕ) (members : List Layout) (index : ℕ) → index < length members → member_offset at members index ≤ end_after at members
unfolding end_after member_offset
member_offset-le at [] index inside = absurd (omega arith)
member_offset-le at (m ∷ ms) zero inside = omega (arith, end_after-ge (next_multiple_of at m.align + m.size) ms)
member_offset-le at (m ∷ ms) (suc index) inside = member_offset-le (next_multiple_of at m.align + m.size) ms index (omega arith)

KeptAlike-offsets : (x y : ℕ) (members : List Layout) (index : ℕ) → KeptAlike x y → KeptAlike (member_offset x (map capped members) index) (member_offset y members index)
unfolding member_offset
KeptAlike-offsets x y [] index alike = alike
KeptAlike-offsets x y (m ∷ ms) zero alike = KeptAlike-next x y m.align alike
KeptAlike-offsets x y (m ∷ ms) (suc index) alike =
    KeptAlike-offsets (next_multiple_of x m.align + capped_size m.size) (next_multiple_of y m.align + m.size) ms index (KeptAlike-add (next_multiple_of x m.align) (next_multiple_of y m.align) (capped_size m.size) m.size (KeptAlike-next x y m.align alike) (omega arith))

length-layouts_in : (entries : List Entry) (ids : List TyId) (ls : List Layout) → layouts_in entries ids ≡ Some ls → length ls ≡ length ids
unfolding layouts_in
length-layouts_in entries [] ls e = ap length (let same : ls ≡ [] = cc in same)
length-layouts_in entries (id ∷ ids) ls e = both (layout_in entries id) (layouts_in entries ids) (length-layouts_in entries ids) e
  where
    both : (o : Option Layout) (os : Option (List Layout)) → ((b : List Layout) → os ≡ Some b → length b ≡ length ids) → (o >>= λ a. os >>= λ b. Some (a ∷ b)) ≡ Some ls → length ls ≡ suc (length ids)
    both None os rest h = cc
    both (Some a) None rest h = cc
    both (Some a) (Some b) rest h =
        ap length (let same : ls ≡ a ∷ b = cc in same) ∙ ap suc (rest b refl)

length-as_placed : (packed : Bool) (ls : List Layout) → length (as_placed packed ls) ≡ length ls
length-as_placed false ls = refl
length-as_placed true [] = refl
length-as_placed true (l ∷ ls) = ap suc (length-as_placed true ls)

slice_get-inside : {A : Type 0} (xs : List A) (i : ℕ) (x : A) → slice_get xs i ≡ Some x → i < length xs
slice_get-inside [] i x e = cc
slice_get-inside (a ∷ xs) zero x e = omega arith
slice_get-inside (a ∷ xs) (suc i) x e = omega (arith, slice_get-inside xs i x e)

lane-small : (n : ℕ) → n < 2 ^ 64 → lane W64 (pos n) ≡ n
unfolding lane
lane-small n small = omega arith

-- a step to a member
kept_member-is : (entries : List Entry) (members : List TyId) (packed : Bool) (index : ℤ) (ls : List Layout) → layouts_in entries members ≡ Some ls → end_after 0 (as_placed packed ls) ≤ 2 ^ 40 → kept_member (map capped_entry entries) members packed index ≡ answered (member_at entries members packed index)
kept_member-is entries members packed (negsuc n) ls layouts bounded = refl
kept_member-is entries members packed (pos n) ls layouts bounded = by_member (slice_get members n) refl
  where
    by_member : (o : Option TyId) → slice_get members n ≡ o → (o >>= λ member. option_map (λ start. (start, member)) (start_of (map capped_entry entries) packed 0 n members)) ≡ answered (o >>= λ member. layouts_in entries members >>= λ parts. Some (pos (member_offset 0 (as_placed packed parts) n), member))
    by_member None e = refl
    by_member (Some member) e =
        let placed = as_placed packed ls in
        let off = member_offset 0 placed n in
        let inside : n < length placed = omega (arith, slice_get-inside members n member e, length-layouts_in entries members ls layouts, length-as_placed packed ls) in
        let low : off ≤ 2 ^ 40 = omega (arith, member_offset-le 0 placed n inside, bounded) in
        let here = layouts_in-kept entries members ∙ ap (option_map (map capped)) layouts in
        let start : capped_size (member_offset 0 (as_placed packed (map capped ls)) n) ≡ off =
        ap (λ xs. capped_size (member_offset 0 xs n)) (as_placed-kept packed ls) ∙ KeptAlike-offsets 0 0 placed n refl ∙ omega arith in
        ap (λ o. option_map (λ s. (s, member)) (option_map (λ parts. capped_size (member_offset 0 (as_placed packed parts) n)) o)) here
        ∙ ap (λ s. Some (s, member)) (start ∙ sym (lane-small off (omega arith)))
        ∙ sym (ap (λ o. answered (o >>= λ parts. Some (pos (member_offset 0 (as_placed packed parts) n), member))) layouts)

-- ---- a step over the table

HasPart-of : (pointer : PointerWidth) (entries : List Entry) (t : Ty) (part : TyId) → AllSettled pointer entries → HasKeptLayout pointer entries t → (((n : ℕ) × (t ≡ ty.Vector part n)) ⊎ ((n : ℕ) × (t ≡ ty.Array part n))) → HasPart entries part (2 ^ 40)
unfolding layout_of
HasPart-of pointer entries t part settled kept (inl (n, is)) =
    let e = ap (layout_of pointer entries) (sym is) ∙ kept.layout_is in
    let has = HasPart-vector pointer entries part n kept.layout settled e in
    record { layout = has.layout; layout_is = has.layout_is; bounded = omega (arith, has.bounded, kept.bounded) }
HasPart-of pointer entries t part settled kept (inr (n, is)) =
    let e = ap (layout_of pointer entries) (sym is) ∙ kept.layout_is in
    let has = HasPart-array entries part n kept.layout e in
    record { layout = has.layout; layout_is = has.layout_is; bounded = omega (arith, has.bounded, kept.bounded) }

part_in-element : (entries : List Entry) (t : Ty) (part : TyId) (index : ℤ) → (((n : ℕ) × (t ≡ ty.Vector part n)) ⊎ ((n : ℕ) × (t ≡ ty.Array part n))) → part_in entries t index ≡ element_at entries part index
part_in-element entries t part index (inl (n, is)) = ap (λ x. part_in entries x index) is
part_in-element entries t part index (inr (n, is)) = ap (λ x. part_in entries x index) is

pub step_to_element : (pointer : PointerWidth) (types : List Ty) (id : TyId) (t : Ty) (part : TyId) (index : ℤ) → slice_get types id.0 ≡ Some t → IsSome (option_map (λ l. l.size) (layout_in (entries_of pointer types) id >>= within_limit)) → (((n : ℕ) × (t ≡ ty.Vector part n)) ⊎ ((n : ℕ) × (t ≡ ty.Array part n))) → answered (element_at (map capped_entry (entries_of pointer types)) part index) ≡ answered (slice_get types id.0 >>= λ x. part_in (entries_of pointer types) x index)
step_to_element pointer types id t part index found sized is =
    let entries = entries_of pointer types in
    answered-element entries part index (HasPart-of pointer entries t part (entries_settled pointer types) (kept_layout pointer types id t found sized) is)
    ∙ ap answered (sym (part_in-element entries t part index is))
    ∙ sym (ap (λ o. answered (o >>= λ x. part_in entries x index)) found)

-- the members of a struct that has a layout, and where they end
pub record HasMembers (entries : List Entry) (members : List TyId) (packed : Bool) : Type 0 where
  pub layouts : List Layout
  pub layouts_is : layouts_in entries members ≡ Some layouts
  pub bounded : end_after 0 (as_placed packed layouts) ≤ 2 ^ 40

HasMembers-of : (pointer : PointerWidth) (entries : List Entry) (t : Ty) (members : List TyId) (packed : Bool) → HasKeptLayout pointer entries t → t ≡ ty.Struct members packed → HasMembers entries members packed
unfolding layout_of
HasMembers-of pointer entries t members packed kept is =
    let e : struct_in entries members packed ≡ Some kept.layout = ap (layout_of pointer entries) (sym is) ∙ kept.layout_is in
    by_layouts (layouts_in entries members) refl e
  where
    by_layouts : (o : Option (List Layout)) → layouts_in entries members ≡ o → option_map (λ parts. struct_of (as_placed packed parts)) o ≡ Some kept.layout → HasMembers entries members packed
    by_layouts None here h = cc
    by_layouts (Some ls) here h =
        let size : (struct_of (as_placed packed ls)).size ≡ kept.layout.size = ap (λ x. x.size) (let same : struct_of (as_placed packed ls) ≡ kept.layout = cc in same) in
        record { layouts = ls; layouts_is = here; bounded = omega (arith, size, kept.bounded) }

pub step_to_member : (pointer : PointerWidth) (types : List Ty) (id : TyId) (t : Ty) (members : List TyId) (packed : Bool) (index : ℤ) → slice_get types id.0 ≡ Some t → IsSome (option_map (λ l. l.size) (layout_in (entries_of pointer types) id >>= within_limit)) → t ≡ ty.Struct members packed → kept_member (map capped_entry (entries_of pointer types)) members packed index ≡ answered (slice_get types id.0 >>= λ x. part_in (entries_of pointer types) x index)
step_to_member pointer types id t members packed index found sized is =
    let entries = entries_of pointer types in
    let has = HasMembers-of pointer entries t members packed (kept_layout pointer types id t found sized) is in
    kept_member-is entries members packed index has.layouts has.layouts_is has.bounded
    ∙ ap (λ x. answered (part_in entries x index)) (sym is)
    ∙ sym (ap (λ o. answered (o >>= λ x. part_in entries x index)) found)

pub members_sized : (pointer : PointerWidth) (types : List Ty) (id : TyId) (t : Ty) (members : List TyId) (packed : Bool) → slice_get types id.0 ≡ Some t → IsSome (option_map (λ l. l.size) (layout_in (entries_of pointer types) id >>= within_limit)) → t ≡ ty.Struct members packed → IsSome (layouts_in (map capped_entry (entries_of pointer types)) members)
members_sized pointer types id t members packed found sized is =
    let entries = entries_of pointer types in
    let has = HasMembers-of pointer entries t members packed (kept_layout pointer types id t found sized) is in
    rw (layouts_in-kept entries members, has.layouts_is) refl

-- the same, as the code's calls give it
pub element_step : (pointer : PointerWidth) (types : List Ty) (id : TyId) (t : Ty) (part : TyId) (index i : ℤ) (es : List Entry) (r : Option (ℕ × TyId)) → r ≡ answered (element_at es part i) → es ≡ map capped_entry (entries_of pointer types) → i ≡ index → slice_get types id.0 ≡ Some t → IsSome (option_map (λ l. l.size) (layout_in (entries_of pointer types) id >>= within_limit)) → (((n : ℕ) × (t ≡ ty.Vector part n)) ⊎ ((n : ℕ) × (t ≡ ty.Array part n))) → r ≡ answered (slice_get types id.0 >>= λ x. part_in (entries_of pointer types) x index)
element_step pointer types id t part index i es r r_is es_is i_is found sized is =
    r_is
    ∙ ap (λ xs. answered (element_at xs part i)) es_is
    ∙ ap (λ n. answered (element_at (map capped_entry (entries_of pointer types)) part n)) i_is
    ∙ step_to_element pointer types id t part index found sized is

pub member_step : (pointer : PointerWidth) (types : List Ty) (id : TyId) (t : Ty) (members ms : List TyId) (packed : Bool) (index i : ℤ) (es : List Entry) (r : Option (ℕ × TyId)) → r ≡ kept_member es ms packed i → es ≡ map capped_entry (entries_of pointer types) → ms ≡ members → i ≡ index → slice_get types id.0 ≡ Some t → IsSome (option_map (λ l. l.size) (layout_in (entries_of pointer types) id >>= within_limit)) → t ≡ ty.Struct members packed → r ≡ answered (slice_get types id.0 >>= λ x. part_in (entries_of pointer types) x index)
member_step pointer types id t members ms packed index i es r r_is es_is ms_is i_is found sized is =
    r_is
    ∙ ap (λ xs. kept_member xs ms packed i) es_is
    ∙ ap (λ xs. kept_member (map capped_entry (entries_of pointer types)) xs packed i) ms_is
    ∙ ap (λ n. kept_member (map capped_entry (entries_of pointer types)) members packed n) i_is
    ∙ step_to_member pointer types id t members packed index found sized is
