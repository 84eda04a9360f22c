-- The lists of used ids, one for each instruction.
use Rattle.std.proofs.Common.{◌≡◌, ℕ, zero, suc, ◌<◌, List, [], ◌∷◌, ◌++◌, length, get_or, take, refl, ap, sym, ◌∙◌, append_assoc, arith}
use Rattle.std.proofs.lemmas.List.{append-nil}
use Rattle.spv_codec.specs.declared.module.RawInst.{RawInst}
use Rattle.spv_names.specs.Uses.{uses_of, uses_behind, all_uses}

pub uses-more : (insts before xs : List RawInst) (x : RawInst)
    → uses_behind insts before (xs ++ x ∷ []) ≡ uses_behind insts before xs ++ uses_of insts (before ++ xs) x ∷ []
uses-more insts before [] x = ap (λ ys. uses_of insts ys x ∷ []) (sym (append-nil before))
uses-more insts before (y ∷ ys) x =
    ap (λ zs. uses_of insts before y ∷ zs)
    (uses-more insts (before ++ y ∷ []) ys x
    ∙ ap (λ zs. uses_behind insts (before ++ y ∷ []) ys ++ uses_of insts zs x ∷ []) (append_assoc before (y ∷ []) ys))

uses-length : (insts before xs : List RawInst) → length (uses_behind insts before xs) ≡ length xs
uses-length insts before [] = refl
uses-length insts before (y ∷ ys) = ap suc (uses-length insts (before ++ y ∷ []) ys)

pub all-length : (insts : List RawInst) → length (all_uses insts) ≡ length insts
all-length insts = uses-length insts [] insts

uses-at : (insts before xs : List RawInst) (i : ℕ) (x : RawInst) (d : List ℕ) → i < length xs
    → get_or (uses_behind insts before xs) i d ≡ uses_of insts (before ++ take i xs) (get_or xs i x)
uses-at insts before [] i x d below = absurd (omega arith)
uses-at insts before (y ∷ ys) zero x d below = ap (λ zs. uses_of insts zs y) (sym (append-nil before))
uses-at insts before (y ∷ ys) (suc i) x d below =
    uses-at insts (before ++ y ∷ []) ys i x d (omega arith)
    ∙ ap (λ zs. uses_of insts zs (get_or ys i x)) (append_assoc before (y ∷ []) (take i ys))

-- the ids at an index are those that the instruction there uses
pub used-at : (insts : List RawInst) (i : ℕ) (inst : RawInst) (uses : List (List ℕ)) (used : List ℕ) → i < length insts → inst ≡ get_or insts i inst
    → uses ≡ all_uses insts → used ≡ get_or uses i used → used ≡ uses_of insts (take i insts) inst
used-at insts i inst uses used below is all at =
    at ∙ (ap (λ us. get_or us i used) all ∙ (uses-at insts [] insts i inst used below ∙ ap (uses_of insts (take i insts)) (sym is)))
