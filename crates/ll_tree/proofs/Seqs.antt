-- Lists that a loop changes from the front on.
use Rattle.std.proofs.Common.{◌≡◌, ℕ, ◌+◌, ◌<◌, List, [], ◌∷◌, ◌++◌, map, take, length, get_or, ap, sym, ◌∙◌, add-one}
use Rattle.std.proofs.Math.ListN.{set}
use Rattle.std.proofs.Math.Seq.{take-suc, take-suc-set}
use Rattle.std.proofs.lemmas.List.{map-append}

-- one more item at the front is changed
pub front_changed : {A : Type 0} (h : A → A) (xs ys : List A) (i : ℕ) (d y : A) → take i ys ≡ map h (take i xs) → i < length xs → i < length ys → y ≡ h (get_or xs i d) → take (i + 1) (set ys i y) ≡ map h (take (i + 1) xs)
front_changed h xs ys i d y front lt lt' made =
    rw add-one (take-suc-set ys i y lt' ∙ (ap (λ z. z ++ y ∷ []) front ∙ (ap (λ z. map h (take i xs) ++ z ∷ []) made ∙ (sym (map-append h (take i xs) (get_or xs i d ∷ [])) ∙ ap (map h) (sym (take-suc xs i d lt))))))
