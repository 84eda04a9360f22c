-- A scan goes on by one instruction.
use Rattle.std.proofs.Common.{◌≡◌, ℕ, ◌+◌, ◌<◌, Bool, true, false, List, [], ◌∷◌, ◌++◌, length, get_or, take, Option, Some, None, refl, ap, ap₂, sym, ◌∙◌, arith, append_assoc}
use Rattle.std.specs.Prelude.{◌||◌}
use Rattle.std.specs.List.{list_any}
use Rattle.std.proofs.lemmas.List.{take_more, append-nil}
use Rattle.std.proofs.lemmas.List.Folds.{list_any_more}
use Rattle.rule_order.specs.Breaks.{least, least_with}
use Rattle.spv_codec.specs.declared.module.RawInst.{RawInst}
use Rattle.spv_sections.specs.Places.{place_if, places_behind, places_where, lesser, told}

lesser-assoc : (a b c : Option ℕ) → lesser (lesser a b) c ≡ lesser a (lesser b c)
lesser-assoc None b c = refl
lesser-assoc (Some a) None c = refl
lesser-assoc (Some a) (Some b) None = refl
lesser-assoc (Some a) (Some b) (Some c) = ap Some (omega arith)

-- the least of two lists of places is the lesser of the least ones
pub least-append : (xs ys : List ℕ) → least (xs ++ ys) ≡ lesser (least xs) (least ys)
least-append [] ys = refl
least-append (x ∷ xs) ys = ap (λ o. Some (least_with x o)) (least-append xs ys) ∙ of_lesser x (least xs) (least ys)
  where
    of_lesser : (x : ℕ) (a b : Option ℕ) → Some (least_with x (lesser a b)) ≡ lesser (Some (least_with x a)) b
    of_lesser x None None = refl
    of_lesser x None (Some b) = refl
    of_lesser x (Some a) None = refl
    of_lesser x (Some a) (Some b) = ap Some (omega arith)

none-last : (a : Option ℕ) → lesser a None ≡ a
none-last None = refl
none-last (Some a) = refl

pub least-told : (xs : List ℕ) (b : Bool) (place : ℕ) → least (xs ++ place_if b place) ≡ told (least xs) b place
least-told xs true place = least-append xs (place ∷ [])
least-told xs false place = least-append xs [] ∙ none-last (least xs)

places-more : (is_broken : List RawInst → RawInst → Bool) (before xs : List RawInst) (inst : RawInst)
    → places_behind is_broken before (xs ++ inst ∷ []) ≡ places_behind is_broken before xs ++ place_if (is_broken (before ++ xs) inst) inst.place
places-more is_broken before [] inst = append-nil (place_if (is_broken before inst) inst.place) ∙ ap (λ ys. place_if (is_broken ys inst) inst.place) (sym (append-nil before))
places-more is_broken before (x ∷ xs) inst =
    ap (λ ys. place_if (is_broken before x) x.place ++ ys)
    (places-more is_broken (before ++ x ∷ []) xs inst ∙ ap (λ ys. places_behind is_broken (before ++ x ∷ []) xs ++ place_if (is_broken ys inst) inst.place) (append_assoc before (x ∷ []) xs))
    ∙ sym (append_assoc (place_if (is_broken before x) x.place) (places_behind is_broken (before ++ x ∷ []) xs) (place_if (is_broken (before ++ (x ∷ xs)) inst) inst.place))

-- what stands before an instruction, and the instruction
pub front-more : (insts : List RawInst) (i : ℕ) (inst : RawInst) → i < length insts → inst ≡ get_or insts i inst → take (i + 1) insts ≡ take i insts ++ inst ∷ []
front-more insts i inst below is = take_more insts i inst below ∙ ap (λ x. take i insts ++ x ∷ []) (sym is)

-- the least place so far
pub scan-more : (is_broken : List RawInst → RawInst → Bool) (insts : List RawInst) (i : ℕ) (inst : RawInst) → i < length insts → inst ≡ get_or insts i inst
    → (found : Option ℕ) (b : Bool) → b ≡ is_broken (take i insts) inst → found ≡ least (places_where is_broken (take i insts))
    → told found b inst.place ≡ least (places_where is_broken (take (i + 1) insts))
scan-more is_broken insts i inst below is found b test so_far =
    ap (λ o. told o b inst.place) so_far
    ∙ (ap (λ t. told (least (places_where is_broken (take i insts))) t inst.place) test
    ∙ (sym (least-told (places_where is_broken (take i insts)) (is_broken (take i insts) inst) inst.place)
    ∙ (ap least (sym (places-more is_broken [] (take i insts) inst)) ∙ ap (λ xs. least (places_where is_broken xs)) (sym (front-more insts i inst below is)))))

-- whether an instruction so far passes a test
pub any-more : (test : RawInst → Bool) (insts : List RawInst) (i : ℕ) (inst : RawInst) → i < length insts → inst ≡ get_or insts i inst
    → (so_far b : Bool) → so_far ≡ list_any test (take i insts) → b ≡ test inst → (so_far || b) ≡ list_any test (take (i + 1) insts)
any-more test insts i inst below is so_far b e f =
    ap₂ (λ x y. x || y) e f ∙ (ap (λ x. list_any test (take i insts) || test x) is ∙ sym (list_any_more test insts i inst below))
