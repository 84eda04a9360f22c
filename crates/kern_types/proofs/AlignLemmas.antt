-- Alignments are powers of two, and sizes are multiples of them
use Rattle.std.proofs.Common.{◌≡◌, ℕ, ◌+◌, ◌-◌, ◌*◌, ◌%◌, ◌^◌, ◌<◌, max, Bool, true, false, List, [], ◌∷◌, map, Option, Some, None, option_map, inl, inr, refl, sym, ap, ◌∙◌, arith, fold, pow_pos, subst}
use Rattle.std.specs.Prelude.{slice_get, if◌then◌else◌, ◌==◌}
use Rattle.std.specs.Int.{next_multiple_of}
use Rattle.std.proofs.Math.Nat.{mod_self, zero-mod, add-mod, mod-eq_of_lt, mul-zero}
use Rattle.std.proofs.lemmas.Nat.{mul-mod, pow-add, mod_below}
use Rattle.std.proofs.lemmas.Bool.{cases_lt}
use Rattle.kern_lanes.specs.declared.width.Width.{Width}
use Rattle.kern_lanes.specs.declared.width.Width.TheVariants.{W1, W8, W16, W32, W64}
use Rattle.kern_types.specs.declared.class.PointerWidth.{PointerWidth}
use Rattle.kern_types.specs.declared.class.PointerWidth.TheVariants.{P32, P64}
use Rattle.kern_types.specs.declared.ty.Ty.{Ty}
use Rattle.kern_types.specs.declared.ty.Ty.TheVariants as ty
use Rattle.kern_types.specs.declared.ty.TyId.{TyId}
use Rattle.kern_types.specs.declared.layout.Layout.{Layout}
use Rattle.kern_types.specs.declared.layout.Entry.{Entry}
use Rattle.kern_types.specs.Layouts.{◌>>=◌, end_after, greatest_align, as_placed, unaligned, struct_of, layout_in, layouts_in, type_in, element_bytes, int_bytes, lane_room, repeated, natural, layout_of, with_type, entries_of}
use Rattle.kern_types.specs.Pointers.{pointer_bytes}
use Rattle.kern_types.specs.Laws.{IsWellAligned, LayoutsAreAligned}
use Rattle.kern_types.proofs.StepLemmas.{slice_get-split}

-- the number is a power of two
pub record IsPower (n : ℕ) : Type 0 where
  pub exponent : ℕ
  pub power : n ≡ 2 ^ exponent

next_multiple_of-mod : (x y : ℕ) → 0 < y → next_multiple_of x y % y ≡ 0
next_multiple_of-mod x y some =
    let r = x % y in
    let small : r < y = mod_below x y some in
    let split : next_multiple_of x y % y ≡ (r + (y - r) % y % y) % y = add-mod x ((y - r) % y) y in
    elim (cases_lt 0 r) [
      | inl part ↦
          let rest : (y - r) % y ≡ y - r = mod-eq_of_lt {n = y - r} {m = y} (omega arith) in
          let again : (y - r) % y % y ≡ y - r = ap (λ n. n % y) rest ∙ rest in
          let whole : r + (y - r) ≡ y = omega arith in
          split ∙ ap (λ n. (r + n) % y) again ∙ ap (λ n. n % y) whole ∙ mod_self y
      | inr none ↦
          let zero_rest : r ≡ 0 = omega arith in
          let full : y - r ≡ y = omega arith in
          let gone : (y - r) % y ≡ 0 = ap (λ n. n % y) full ∙ mod_self y in
          split ∙ ap (λ n. (n + (y - r) % y % y) % y) zero_rest ∙ ap (λ n. (0 + n % y) % y) gone ∙ ap (λ n. (0 + n) % y) (zero-mod y) ∙ zero-mod y
    ]

IsPower-max : (m n : ℕ) → IsPower m → IsPower n → IsPower (max m n)
IsPower-max m n pm pn =
    elim (cases_lt m n) [
      | inl low ↦ let e : max m n ≡ n = omega arith in record { exponent = pn.exponent; power = e ∙ pn.power }
      | inr high ↦ let e : max m n ≡ m = omega arith in record { exponent = pm.exponent; power = e ∙ pm.power }
    ]

IsPower-pos : (n : ℕ) → IsPower n → 0 < n
IsPower-pos n p = omega (arith, p.power, pow_pos p.exponent)

IsWellAligned-natural : (bytes : ℕ) → IsPower bytes → IsWellAligned (natural bytes)
IsWellAligned-natural bytes p = record { exponent = p.exponent; power = p.power; multiple = mod_self bytes }

-- all these are well aligned
abbrev pub AllAligned : List Layout → Type 0
AllAligned [] = Unit {0}
AllAligned (l ∷ ls) = IsWellAligned l × AllAligned ls

greatest_align-power : (ls : List Layout) → AllAligned ls → IsPower (greatest_align ls)
unfolding greatest_align
greatest_align-power [] h = record { exponent = 0; power = refl }
greatest_align-power (l ∷ ls) h =
    IsPower-max l.align (greatest_align ls) (record { exponent = h.0.exponent; power = h.0.power }) (greatest_align-power ls h.1)

greatest_align-unaligned : (ls : List Layout) → greatest_align (map unaligned ls) ≡ 1
unfolding greatest_align
greatest_align-unaligned [] = refl
greatest_align-unaligned (l ∷ ls) = ap (max 1) (greatest_align-unaligned ls)

placed-power : (packed : Bool) (ls : List Layout) → AllAligned ls → IsPower (greatest_align (as_placed packed ls))
placed-power false ls h = greatest_align-power ls h
placed-power true ls h = record { exponent = 0; power = greatest_align-unaligned ls }

IsWellAligned-struct : (placed : List Layout) → IsPower (greatest_align placed) → IsWellAligned (struct_of placed)
IsWellAligned-struct placed p =
    record { exponent = p.exponent; power = p.power; multiple = next_multiple_of-mod (end_after 0 placed) (greatest_align placed) (IsPower-pos (greatest_align placed) p) }

along : (a b : Layout) → Some a ≡ Some b → IsWellAligned a → IsWellAligned b
along a b e h = let same : a ≡ b = cc in subst IsWellAligned same h

-- each layout that these entries have is well aligned
abbrev pub EntriesAligned : List Entry → Type 0
EntriesAligned entries = (id : TyId) (l : Layout) → layout_in entries id ≡ Some l → IsWellAligned l

int_power : (width : Width) (bytes : ℕ) → int_bytes width ≡ Some bytes → IsPower bytes
int_power W1 bytes e = cc
int_power W8 bytes e = record { exponent = 0; power = cc }
int_power W16 bytes e = record { exponent = 1; power = cc }
int_power W32 bytes e = record { exponent = 2; power = cc }
int_power W64 bytes e = record { exponent = 3; power = cc }

element_power : (t : Ty) (bytes : ℕ) → element_bytes t ≡ Some bytes → IsPower bytes
element_power ty.Void bytes e = cc
element_power ty.Bool bytes e = cc
element_power (ty.Int width) bytes e = int_power width bytes e
element_power (ty.Vector part n) bytes e = cc
element_power (ty.Array part n) bytes e = cc
element_power (ty.Struct members packed) bytes e = cc
element_power (ty.Pointer class to) bytes e = cc
element_power (ty.Function given params) bytes e = cc
element_power ty.Other bytes e = cc

choice_power : (test : Bool) (a r : ℕ) (o : Option ℕ) → IsPower a → (o ≡ Some r → IsPower r) → (if test then Some a else o) ≡ Some r → IsPower r
choice_power true a r o first others e = record { exponent = first.exponent; power = (let same : r ≡ a = cc in same) ∙ first.power }
choice_power false a r o first others e = others e

room_power : (lanes room : ℕ) → lane_room lanes ≡ Some room → IsPower room
room_power lanes room e =
    let two : IsPower 2 = record { exponent = 1; power = refl } in
    let four : IsPower 4 = record { exponent = 2; power = refl } in
    let eight : IsPower 8 = record { exponent = 3; power = refl } in
    let sixteen : IsPower 16 = record { exponent = 4; power = refl } in
    choice_power (lanes == 2) 2 room _ two (choice_power (lanes == 3) 4 room _ four (choice_power (lanes == 4) 4 room _ four (choice_power (lanes == 8) 8 room _ eight (choice_power (lanes == 16) 16 room None sixteen (λ h. cc))))) e

IsPower-mul : (m n : ℕ) → IsPower m → IsPower n → IsPower (m * n)
IsPower-mul m n pm pn =
    record { exponent = pm.exponent + pn.exponent; power = ap (λ k. k * n) pm.power ∙ ap (λ k. 2 ^ pm.exponent * k) pn.power ∙ sym (pow-add 2 pm.exponent pn.exponent) }

vector_aligned : (lanes : ℕ) (l : Layout) (element : Option Ty) → (element >>= λ t. element_bytes t >>= λ b. lane_room lanes >>= λ r. Some (natural (r * b))) ≡ Some l → IsWellAligned l
vector_aligned lanes l None e = cc
vector_aligned lanes l (Some t) e = by_bytes (element_bytes t) (element_power t) (lane_room lanes) (room_power lanes) e
  where
    by_bytes : (bytes : Option ℕ) → ((b : ℕ) → bytes ≡ Some b → IsPower b) → (room : Option ℕ) → ((r : ℕ) → room ≡ Some r → IsPower r) → (bytes >>= λ b. room >>= λ r. Some (natural (r * b))) ≡ Some l → IsWellAligned l
    by_bytes None power room powers h = cc
    by_bytes (Some b) power None powers h = cc
    by_bytes (Some b) power (Some r) powers h =
        along (natural (r * b)) l h (IsWellAligned-natural (r * b) (IsPower-mul r b (powers r refl) (power b refl)))

IsWellAligned-repeated : (count : ℕ) (part : Layout) → IsWellAligned part → IsWellAligned (repeated count part)
IsWellAligned-repeated count part h =
    record {
      exponent = h.exponent;
      power = h.power;
      multiple = mul-mod count part.size part.align ∙ ap (λ n. (count % part.align * n) % part.align) h.multiple ∙ ap (λ n. n % part.align) (mul-zero (count % part.align)) ∙ zero-mod part.align;
    }

array_aligned : (count : ℕ) (l : Layout) (none : Bool) (part : Option Layout) → ((lp : Layout) → part ≡ Some lp → IsWellAligned lp) → (if none then None else option_map (repeated count) part) ≡ Some l → IsWellAligned l
array_aligned count l true part parts e = cc
array_aligned count l false None parts e = cc
array_aligned count l false (Some lp) parts e = along (repeated count lp) l e (IsWellAligned-repeated count lp (parts lp refl))

members_aligned : (entries : List Entry) (ids : List TyId) (ls : List Layout) → EntriesAligned entries → layouts_in entries ids ≡ Some ls → AllAligned ls
unfolding layouts_in
members_aligned entries [] ls parts e = let same : [] ≡ ls = cc in subst AllAligned same tt
members_aligned entries (id ∷ ids) ls parts e = both (layout_in entries id) (parts id) (layouts_in entries ids) (λ b h. members_aligned entries ids b parts h) e
  where
    both : (o : Option Layout) → ((a : Layout) → o ≡ Some a → IsWellAligned a) → (os : Option (List Layout)) → ((b : List Layout) → os ≡ Some b → AllAligned b) → (o >>= λ a. os >>= λ b. Some (a ∷ b)) ≡ Some ls → AllAligned ls
    both None first os rest h = cc
    both (Some a) first None rest h = cc
    both (Some a) first (Some b) rest h =
        let same : a ∷ b ≡ ls = cc in subst AllAligned same (first a refl, rest b refl)

struct_aligned : (packed : Bool) (l : Layout) (parts : Option (List Layout)) → ((ls : List Layout) → parts ≡ Some ls → AllAligned ls) → option_map (λ ls. struct_of (as_placed packed ls)) parts ≡ Some l → IsWellAligned l
struct_aligned packed l None members e = cc
struct_aligned packed l (Some ls) members e =
    along (struct_of (as_placed packed ls)) l e (IsWellAligned-struct (as_placed packed ls) (placed-power packed ls (members ls refl)))

pointer_aligned : (pointer : PointerWidth) (l : Layout) (target : Option Layout) → option_map (λ x. natural (pointer_bytes pointer)) target ≡ Some l → IsWellAligned l
pointer_aligned pointer l None e = cc
pointer_aligned P32 l (Some x) e = along (natural 4) l e (IsWellAligned-natural 4 (record { exponent = 2; power = refl }))
pointer_aligned P64 l (Some x) e = along (natural 8) l e (IsWellAligned-natural 8 (record { exponent = 3; power = refl }))

int_aligned : (l : Layout) (bytes : Option ℕ) → ((b : ℕ) → bytes ≡ Some b → IsPower b) → option_map natural bytes ≡ Some l → IsWellAligned l
int_aligned l None power e = cc
int_aligned l (Some b) power e = along (natural b) l e (IsWellAligned-natural b (power b refl))

layout_of-aligned : (pointer : PointerWidth) (entries : List Entry) (t : Ty) (l : Layout) → EntriesAligned entries → layout_of pointer entries t ≡ Some l → IsWellAligned l
unfolding layout_of
layout_of-aligned pointer entries ty.Void l parts e = cc
layout_of-aligned pointer entries ty.Bool l parts e = cc
layout_of-aligned pointer entries (ty.Int width) l parts e = int_aligned l (int_bytes width) (int_power width) e
layout_of-aligned pointer entries (ty.Vector part lanes) l parts e = vector_aligned lanes l (type_in entries part) e
layout_of-aligned pointer entries (ty.Array part count) l parts e = array_aligned count l (count == 0) (layout_in entries part) (parts part) e
layout_of-aligned pointer entries (ty.Struct members packed) l parts e = struct_aligned packed l (layouts_in entries members) (λ ls h. members_aligned entries members ls parts h) e
layout_of-aligned pointer entries (ty.Pointer class to) l parts e = pointer_aligned pointer l (layout_in entries to) e
layout_of-aligned pointer entries (ty.Function given params) l parts e = cc
layout_of-aligned pointer entries ty.Other l parts e = cc

-- one type more keeps all layouts aligned
EntriesAligned-with_type : (pointer : PointerWidth) (entries : List Entry) (t : Ty) → EntriesAligned entries → EntriesAligned (with_type pointer entries t)
EntriesAligned-with_type pointer entries t parts id l e = by_entry (slice_get (with_type pointer entries t) id.0) refl e
  where
    by_entry : (o : Option Entry) → slice_get (with_type pointer entries t) id.0 ≡ o → (o >>= λ entry. entry.layout) ≡ Some l → IsWellAligned l
    by_entry None found h = cc
    by_entry (Some entry) found h =
        let new : Entry = record { ty = t; layout = layout_of pointer entries t } in
        elim (slice_get-split entries new entry id.0 found) [
          | inl old ↦ parts id l (ap (λ o. o >>= λ x. x.layout) old ∙ h)
          | inr last ↦ layout_of-aligned pointer entries t l parts (ap (λ x. x.layout) last ∙ h)
        ]

EntriesAligned-fold : (pointer : PointerWidth) (types : List Ty) (entries : List Entry) → EntriesAligned entries → EntriesAligned (fold (with_type pointer) entries types)
EntriesAligned-fold pointer [] entries parts = parts
EntriesAligned-fold pointer (t ∷ types) entries parts =
    EntriesAligned-fold pointer types (with_type pointer entries t) (EntriesAligned-with_type pointer entries t parts)

pub layouts_are_aligned : LayoutsAreAligned
unfolding entries_of
layouts_are_aligned table id l e =
    EntriesAligned-fold table.pointer table.types [] (λ other k h. cc) id l e
