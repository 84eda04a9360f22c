-- A table with one number more.
use Rattle.std.proofs.Common.{◌≡◌, ℕ, ◌+◌, List, [], ◌∷◌, ◌++◌, map, sym, ◌∙◌, ap, arith, append_assoc}
use Rattle.std.proofs.lemmas.List.FromFn.{map-range_with_len_more}
use Rattle.std.specs.List.{range_with_len}
use Rattle.ll_tree.specs.declared.name.NameText.{NameText}
use Rattle.kernel_tree.specs.Canonical.{number_entry}

pub number-more : (start before after : List NameText) (n : ℕ) → before ≡ start ++ map number_entry (range_with_len 0 n)
    → after ≡ before ++ number_entry n ∷ [] → after ≡ start ++ map number_entry (range_with_len 0 (n + 1))
number-more start before after n had pushed =
    pushed ∙ (ap (λ x. x ++ number_entry n ∷ []) had
    ∙ (append_assoc start (map number_entry (range_with_len 0 n)) (number_entry n ∷ [])
    ∙ ap (λ x. start ++ x) (sym (map-range_with_len_more number_entry 0 n n (omega arith)))))
