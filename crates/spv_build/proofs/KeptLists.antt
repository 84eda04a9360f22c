-- The list of kept instructions goes on by one instruction.
use Rattle.std.proofs.Common.{◌≡◌, List, [], ◌∷◌, ◌++◌, ap, sym, ◌∙◌, append_assoc}
use Rattle.std.proofs.lemmas.List.{append-nil}
use Rattle.spv_codec.specs.declared.module.RawInst.{RawInst}
use Rattle.spv_build.specs.Kept.{is_left_out, kept_if, kept_behind}

pub kept-more : (insts before xs : List RawInst) (x : RawInst)
    → kept_behind insts before (xs ++ x ∷ []) ≡ kept_behind insts before xs ++ kept_if (is_left_out insts (before ++ xs) x) x
kept-more insts before [] x = append-nil (kept_if (is_left_out insts before x) x) ∙ ap (λ ys. kept_if (is_left_out insts ys x) x) (sym (append-nil before))
kept-more insts before (y ∷ ys) x =
    let first = kept_if (is_left_out insts before y) y in
    ap (λ zs. first ++ zs)
    (kept-more insts (before ++ y ∷ []) ys x
    ∙ ap (λ zs. kept_behind insts (before ++ y ∷ []) ys ++ kept_if (is_left_out insts zs x) x) (append_assoc before (y ∷ []) ys))
    ∙ sym (append_assoc first (kept_behind insts (before ++ y ∷ []) ys) (kept_if (is_left_out insts (before ++ (y ∷ ys)) x) x))
