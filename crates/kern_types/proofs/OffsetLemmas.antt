-- Where a member starts, member by member
use Rattle.std.proofs.Common.{◌≡◌, ℕ, ◌+◌, ◌-◌, ◌^◌, ◌<◌, ◌≤◌, zero, suc, Bool, List, [], ◌∷◌, length, drop, get_or, Option, Some, None, IsSome, option_map, refl, sym, ap, ◌∙◌, arith}
use Rattle.std.specs.Prelude.{if◌then◌else◌}
use Rattle.std.specs.Prelude.{ℤ, pos, negsuc, ◌*ℤ◌, unsigned_abs, FitsSigned}
use Rattle.std.specs.Int.{next_multiple_of, int_rem_euclid, w64, w128, cast_signed, cast_unsigned}
use Rattle.std.proofs.lemmas.Int.{to_z-of_z, fits_signed_mul}
use Rattle.kern_lanes.specs.declared.width.Width.TheVariants.{W64}
use Rattle.kern_lanes.specs.Widths.{lane}
use Rattle.kern_types.specs.declared.ty.TyId.{TyId}
use Rattle.kern_types.specs.declared.layout.Layout.{Layout}
use Rattle.kern_types.specs.declared.layout.Entry.{Entry}
use Rattle.kern_types.specs.Layouts.{as_placed, unaligned, layout_in, layouts_in}
use Rattle.kern_types.specs.Kept.{capped_size, start_of}
use Rattle.kern_types.specs.Steps.{member_offset}
use Rattle.kern_types.proofs.SizeLemmas.{KeptAlike, KeptAlike-capped, KeptAlike-add, KeptAlike-next}
use Rattle.kern_types.proofs.StructLemmas.{none_first, some_first, option_map-same, drop-at, as_placed-cons}

-- where a member starts depends on no more of the first start than what is kept
KeptAlike-member : (x y : ℕ) (members : List Layout) (index : ℕ) → KeptAlike x y → KeptAlike (member_offset x members index) (member_offset y members index)
unfolding member_offset
KeptAlike-member x y [] index alike = alike
KeptAlike-member x y (m ∷ ms) zero alike = KeptAlike-next x y m.align alike
KeptAlike-member x y (m ∷ ms) (suc index) alike =
    KeptAlike-member (next_multiple_of x m.align + m.size) (next_multiple_of y m.align + m.size) ms index (KeptAlike-add (next_multiple_of x m.align) (next_multiple_of y m.align) m.size m.size (KeptAlike-next x y m.align alike) refl)

-- a member without a layout: nothing has a start
pub start_of-none : (entries : List Entry) (packed : Bool) (end index : ℕ) (ids : List TyId) (i : ℕ) (d : TyId) → i < length ids → layout_in entries (get_or ids i d) ≡ None → start_of entries packed end index (drop i ids) ≡ None
unfolding layouts_in
start_of-none entries packed end index ids i d inside none =
    ap (λ xs. start_of entries packed end index xs) (drop-at ids i d inside)
    ∙ none_first (layout_in entries (get_or ids i d)) (layouts_in entries (drop (i + 1) ids)) (λ parts. capped_size (member_offset end (as_placed packed parts) index)) none

-- a member before the one that is sought is placed
pub start_of-next : (entries : List Entry) (packed : Bool) (end end' index : ℕ) (ids : List TyId) (i : ℕ) (d : TyId) (l m : Layout) (whole : Option ℕ) → i < length ids → i < index → Some l ≡ layout_in entries (get_or ids i d) → m ≡ (if packed then unaligned l else l) → end' ≡ capped_size (next_multiple_of end m.align + m.size) → start_of entries packed end (index - i) (drop i ids) ≡ whole → start_of entries packed end' (index - (i + 1)) (drop (i + 1) ids) ≡ whole
unfolding layouts_in member_offset
start_of-next entries packed end end' index ids i d l m whole inside before some placed end_is kept =
    let left = index - (i + 1) in
    let at = next_multiple_of end m.align + m.size in
    let count : index - i ≡ suc left = omega arith in
    let F : List Layout → ℕ = λ parts. capped_size (member_offset end (as_placed packed parts) (suc left)) in
    let rest = layouts_in entries (drop (i + 1) ids) in
    let step : (ls : List Layout) → capped_size (member_offset end' (as_placed packed ls) left) ≡ F (l ∷ ls) =
    λ ls. ap (λ n. capped_size (member_offset n (as_placed packed ls) left)) end_is
    ∙ sym (KeptAlike-member at (capped_size at) (as_placed packed ls) left (KeptAlike-capped at))
    ∙ sym (ap (λ xs. capped_size (member_offset end xs (suc left))) (as_placed-cons packed l ls ∙ ap (λ x. x ∷ as_placed packed ls) (sym placed))) in
    option_map-same (λ ls. capped_size (member_offset end' (as_placed packed ls) left)) (λ ls. F (l ∷ ls)) rest step
    ∙ sym (some_first (layout_in entries (get_or ids i d)) rest F l (sym some))
    ∙ sym (ap (λ xs. start_of entries packed end (suc left) xs) (drop-at ids i d inside))
    ∙ sym (ap (λ n. start_of entries packed end n (drop i ids)) count)
    ∙ kept

-- the member that is sought starts here
pub start_of-here : (entries : List Entry) (packed : Bool) (end next start index : ℕ) (ids : List TyId) (i : ℕ) (d : TyId) (l m : Layout) (whole : Option ℕ) → i < length ids → i ≡ index → Some l ≡ layout_in entries (get_or ids i d) → m ≡ (if packed then unaligned l else l) → next ≡ next_multiple_of end m.align → start ≡ capped_size next → start_of entries packed end (index - i) (drop i ids) ≡ whole → IsSome whole → Some start ≡ whole
unfolding layouts_in member_offset
start_of-here entries packed end next start index ids i d l m whole inside here some placed next_is start_is kept sized =
    let none : index - i ≡ 0 = omega arith in
    let F : List Layout → ℕ = λ parts. capped_size (member_offset end (as_placed packed parts) 0) in
    let rest = layouts_in entries (drop (i + 1) ids) in
    let whole_is : option_map (λ ls. F (l ∷ ls)) rest ≡ whole =
    sym (some_first (layout_in entries (get_or ids i d)) rest F l (sym some))
    ∙ sym (ap (λ xs. start_of entries packed end 0 xs) (drop-at ids i d inside))
    ∙ sym (ap (λ n. start_of entries packed end n (drop i ids)) none)
    ∙ kept in
    let step : (ls : List Layout) → F (l ∷ ls) ≡ start =
    λ ls. ap (λ xs. capped_size (member_offset end xs 0)) (as_placed-cons packed l ls ∙ ap (λ x. x ∷ as_placed packed ls) (sym placed))
    ∙ ap capped_size (sym next_is) ∙ sym start_is in
    settled rest step whole_is
  where
    settled : (rest : Option (List Layout)) → ((ls : List Layout) → capped_size (member_offset end (as_placed packed (l ∷ ls)) 0) ≡ start) → option_map (λ ls. capped_size (member_offset end (as_placed packed (l ∷ ls)) 0)) rest ≡ whole → Some start ≡ whole
    settled None step whole_is = cc
    settled (Some ls) step whole_is = ap Some (sym (step ls)) ∙ whole_is

-- the same for an index times a size
pub offset_value : (index : ℤ) (size : ℕ) (x y r : ℤ) → FitsSigned w64 index → size < 2 ^ 64 → x ≡ cast_signed w64 (cast_unsigned w64 index) → y ≡ pos size → r ≡ int_rem_euclid (cast_signed w128 (cast_unsigned w128 (cast_signed w128 (cast_unsigned w128 x) *ℤ cast_signed w128 (cast_unsigned w128 y)))) (pos (2 ^ 64)) → FitsSigned w128 r → unsigned_abs (cast_signed w128 (cast_unsigned w128 r)) ≡ lane W64 (index *ℤ pos size)
unfolding lane
offset_value index size x y r fits bound x_is y_is r_is r_fits =
    let index_is : x ≡ index = x_is ∙ to_z-of_z w64 index fits in
    let wide : FitsSigned w128 x = rw index_is (record { sfits = omega (arith, fits.sfits) }) in
    let wide_size : FitsSigned w128 y = rw y_is (record { sfits = omega arith }) in
    let left : unsigned_abs index ≤ 2 ^ 63 = abs_bound index fits in
    let product : FitsSigned w128 (index *ℤ pos size) = fits_signed_mul w128 index (pos size) (2 ^ 63) (2 ^ 64 - 1) left (omega arith) (omega arith) in
    let same : x *ℤ y ≡ index *ℤ pos size = ap (λ z. z *ℤ y) index_is ∙ ap (λ z. index *ℤ z) y_is in
    let whole = to_z-of_z w128 (index *ℤ pos size) product in
    let times = ap (λ z. z *ℤ cast_signed w128 (cast_unsigned w128 y)) (to_z-of_z w128 x wide) ∙ ap (λ z. x *ℤ z) (to_z-of_z w128 y wide_size) ∙ same in
    ap unsigned_abs (to_z-of_z w128 r r_fits ∙ r_is ∙ ap (λ z. int_rem_euclid (cast_signed w128 (cast_unsigned w128 z)) (pos (2 ^ 64))) times ∙ ap (λ z. int_rem_euclid z (pos (2 ^ 64))) whole)
  where
    abs_bound : (z : ℤ) → FitsSigned w64 z → unsigned_abs z ≤ 2 ^ 63
    abs_bound (pos n) h = omega (arith, h.sfits)
    abs_bound (negsuc n) h = omega (arith, h.sfits)
