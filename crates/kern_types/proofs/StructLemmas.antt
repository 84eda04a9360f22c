-- The layout of a struct, member by member
use Rattle.std.proofs.Common.{◌≡◌, ℕ, ◌+◌, ◌<◌, ◌≤◌, max, Bool, true, false, List, [], ◌∷◌, length, drop, get_or, Option, Some, None, option_map, refl, sym, ap, ◌∙◌, arith, add-one, drop-cons}
use Rattle.std.specs.Prelude.{if◌then◌else◌}
use Rattle.std.specs.Int.{next_multiple_of}
use Rattle.std.proofs.lemmas.List.{drop_all}
use Rattle.kern_types.specs.declared.ty.TyId.{TyId}
use Rattle.kern_types.specs.declared.layout.Layout.{Layout}
use Rattle.kern_types.specs.declared.layout.Entry.{Entry}
use Rattle.kern_types.specs.Layouts.{◌>>=◌, end_after, greatest_align, as_placed, unaligned, struct_of, layout_in, layouts_in, struct_in}
use Rattle.kern_types.specs.Kept.{capped_size, capped}
use Rattle.kern_types.proofs.SizeLemmas.{KeptAlike-capped, KeptAlike-next, KeptAlike-end, layout_same, greatest_align_pos}

-- the layout of a struct of which some members are placed: they end there, and have that alignment
abbrev pub finish : ℕ → ℕ → List Layout → Layout
finish end align rest = record { size = next_multiple_of (end_after end rest) (max align (greatest_align rest)); align = max align (greatest_align rest) }

-- what is kept of a struct, where the members from i on are still to come
abbrev pub left_of : List Entry → Bool → ℕ → ℕ → List TyId → Option Layout
left_of entries packed end align ids =
    option_map (λ parts. capped (finish end align (as_placed packed parts))) (layouts_in entries ids)

-- one member more is placed
finish_step : (end align : ℕ) (m : Layout) (rest : List Layout) → capped (finish end align (m ∷ rest)) ≡ capped (finish (capped_size (next_multiple_of end m.align + m.size)) (max align m.align) rest)
unfolding end_after greatest_align
finish_step end align m rest =
    let at = next_multiple_of end m.align + m.size in
    let aligns : max align (max m.align (greatest_align rest)) ≡ max (max align m.align) (greatest_align rest) = omega arith in
    let ends = KeptAlike-end at (capped_size at) rest (KeptAlike-capped at) in
    let sizes = KeptAlike-next (end_after at rest) (end_after (capped_size at) rest) (max align (max m.align (greatest_align rest))) ends in
    layout_same _ _ _ _ (sizes ∙ ap (λ n. capped_size (next_multiple_of (end_after (capped_size at) rest) n)) aligns) aligns

pub as_placed-cons : (packed : Bool) (l : Layout) (ls : List Layout) → as_placed packed (l ∷ ls) ≡ (if packed then unaligned l else l) ∷ as_placed packed ls
as_placed-cons true l ls = refl
as_placed-cons false l ls = refl

as_placed-nil : (packed : Bool) → as_placed packed [] ≡ []
as_placed-nil true = refl
as_placed-nil false = refl

-- nothing is placed yet
pub left_of-start : (entries : List Entry) (packed : Bool) (ids : List TyId) → left_of entries packed 0 1 (drop 0 ids) ≡ option_map capped (struct_in entries ids packed)
left_of-start entries packed ids = start (layouts_in entries ids)
  where
    start : (parts : Option (List Layout)) → option_map (λ ls. capped (finish 0 1 (as_placed packed ls))) parts ≡ option_map capped (option_map (λ ls. struct_of (as_placed packed ls)) parts)
    start None = refl
    start (Some ls) =
        let placed = as_placed packed ls in
        let aligns : max 1 (greatest_align placed) ≡ greatest_align placed = omega (arith, greatest_align_pos placed) in
        ap Some (layout_same _ _ _ _ (ap (λ n. capped_size (next_multiple_of (end_after 0 placed) n)) aligns) aligns)

pub none_first : {B : Type 0} (first : Option Layout) (rest : Option (List Layout)) (F : List Layout → B) → first ≡ None → option_map F (first >>= λ a. rest >>= λ b. Some (a ∷ b)) ≡ None
none_first None rest F e = refl
none_first (Some a) rest F e = cc

pub some_first : {B : Type 0} (first : Option Layout) (rest : Option (List Layout)) (F : List Layout → B) (l : Layout) → first ≡ Some l → option_map F (first >>= λ a. rest >>= λ b. Some (a ∷ b)) ≡ option_map (λ b. F (l ∷ b)) rest
some_first None rest F l e = cc
some_first (Some a) None F l e = refl
some_first (Some a) (Some b) F l e = let same : a ≡ l = cc in ap (λ x. Some (F (x ∷ b))) same

pub option_map-same : {B : Type 0} (F G : List Layout → B) (parts : Option (List Layout)) → ((ls : List Layout) → F ls ≡ G ls) → option_map F parts ≡ option_map G parts
option_map-same F G None same = refl
option_map-same F G (Some ls) same = ap Some (same ls)

-- what is left begins with the member at i
pub drop-at : (ids : List TyId) (i : ℕ) (d : TyId) → i < length ids → drop i ids ≡ get_or ids i d ∷ drop (i + 1) ids
drop-at ids i d inside = rw (add-one, drop-cons ids i d) refl

-- a member without a layout: the struct has none
pub left_of-none : (entries : List Entry) (packed : Bool) (end align : ℕ) (ids : List TyId) (i : ℕ) (d : TyId) → i < length ids → layout_in entries (get_or ids i d) ≡ None → left_of entries packed end align (drop i ids) ≡ None
unfolding layouts_in
left_of-none entries packed end align ids i d inside none =
    ap (λ xs. left_of entries packed end align xs) (drop-at ids i d inside)
    ∙ none_first (layout_in entries (get_or ids i d)) (layouts_in entries (drop (i + 1) ids)) (λ parts. capped (finish end align (as_placed packed parts))) none

-- a member with a layout is placed
pub left_of-some : (entries : List Entry) (packed : Bool) (end align : ℕ) (ids : List TyId) (i : ℕ) (d : TyId) (l m : Layout) → i < length ids → Some l ≡ layout_in entries (get_or ids i d) → m ≡ (if packed then unaligned l else l) → left_of entries packed end align (drop i ids) ≡ left_of entries packed (capped_size (next_multiple_of end m.align + m.size)) (max align m.align) (drop (i + 1) ids)
unfolding layouts_in
left_of-some entries packed end align ids i d l m inside some placed =
    let F : List Layout → Layout = λ parts. capped (finish end align (as_placed packed parts)) in
    ap (λ xs. left_of entries packed end align xs) (drop-at ids i d inside)
    ∙ some_first (layout_in entries (get_or ids i d)) (layouts_in entries (drop (i + 1) ids)) F l (sym some)
    ∙ option_map-same (λ ls. F (l ∷ ls)) (λ ls. capped (finish (capped_size (next_multiple_of end m.align + m.size)) (max align m.align) (as_placed packed ls))) (layouts_in entries (drop (i + 1) ids))
    (λ ls. ap (λ xs. capped (finish end align xs)) (as_placed-cons packed l ls ∙ ap (λ x. x ∷ as_placed packed ls) (sym placed)) ∙ finish_step end align m (as_placed packed ls))

-- all members are placed
pub left_of-end : (entries : List Entry) (packed : Bool) (end align : ℕ) (ids : List TyId) (i : ℕ) → length ids ≤ i → 0 < align → left_of entries packed end align (drop i ids) ≡ Some (record { size = capped_size (next_multiple_of end align); align = align })
unfolding layouts_in end_after greatest_align
left_of-end entries packed end align ids i past aligned =
    let one : max align 1 ≡ align = omega arith in
    ap (λ xs. left_of entries packed end align xs) (drop_all i ids past)
    ∙ ap (λ xs. Some (capped (finish end align xs))) (as_placed-nil packed)
    ∙ ap Some (layout_same _ _ _ _ (ap (λ n. capped_size (next_multiple_of end n)) one) one)

-- the same, as the code's steps give it
pub left_of-next : (entries : List Entry) (packed : Bool) (end align end' align' : ℕ) (ids : List TyId) (i : ℕ) (d : TyId) (l m : Layout) (whole : Option Layout) → i < length ids → Some l ≡ layout_in entries (get_or ids i d) → m ≡ (if packed then unaligned l else l) → end' ≡ capped_size (next_multiple_of end m.align + m.size) → align' ≡ max align m.align → left_of entries packed end align (drop i ids) ≡ whole → left_of entries packed end' align' (drop (i + 1) ids) ≡ whole
left_of-next entries packed end align end' align' ids i d l m whole inside some placed end_is align_is kept =
    ap (λ n. left_of entries packed n align' (drop (i + 1) ids)) end_is
    ∙ ap (λ n. left_of entries packed (capped_size (next_multiple_of end m.align + m.size)) n (drop (i + 1) ids)) align_is
    ∙ sym (left_of-some entries packed end align ids i d l m inside some placed)
    ∙ kept

pub left_of-done : (entries : List Entry) (packed : Bool) (end align next size : ℕ) (ids : List TyId) (i : ℕ) (whole : Option Layout) → length ids ≤ i → 0 < align → next ≡ next_multiple_of end align → size ≡ capped_size next → left_of entries packed end align (drop i ids) ≡ whole → Some (record { size = size; align = align }) ≡ whole
left_of-done entries packed end align next size ids i whole past aligned next_is size_is kept =
    ap Some (layout_same size (capped_size (next_multiple_of end align)) align align (size_is ∙ ap capped_size next_is) refl)
    ∙ sym (left_of-end entries packed end align ids i past aligned)
    ∙ kept
