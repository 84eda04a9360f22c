-- A text that grows part by part.
use Rattle.std.proofs.Common.{◌≡◌, ℕ, List, ◌++◌, ◌∙◌, ap, append_assoc}

pub joined : (a b c d e f t1 t2 t3 t4 t5 : List ℕ) → t1 ≡ a ++ b → t2 ≡ t1 ++ c → t3 ≡ t2 ++ d → t4 ≡ t3 ++ e → t5 ≡ t4 ++ f → t5 ≡ a ++ (b ++ (c ++ (d ++ (e ++ f))))
joined a b c d e f t1 t2 t3 t4 t5 p q r s t =
    t ∙ ap (λ x. x ++ f) (s ∙ ap (λ x. x ++ e) (r ∙ ap (λ x. x ++ d) (q ∙ ap (λ x. x ++ c) p)))
    ∙ append_assoc (((a ++ b) ++ c) ++ d) e f ∙ append_assoc ((a ++ b) ++ c) d (e ++ f) ∙ append_assoc (a ++ b) c (d ++ (e ++ f)) ∙ append_assoc a b (c ++ (d ++ (e ++ f)))
