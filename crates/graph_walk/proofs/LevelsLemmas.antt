-- What can be reached from a node has no lower level.
use Rattle.std.proofs.Common.{◌≡◌, ℕ, zero, suc, ◌<◌, ◌≤◌, true, false, eqb, leb, List, [], ◌∷◌, ◌++◌, length, get_or, ap, arith, ◌⊎◌, ⊎_elim}
use Rattle.std.specs.Prelude.{fold, All}
use Rattle.std.proofs.lemmas.Bool.{cond_both}
use Rattle.std.proofs.lemmas.List.Elements.{All-nil, All-same, All-head, All-tail, All-push}
use Rattle.std.proofs.lemmas.List.Folds.{list_any_none}
use Rattle.std.proofs.lemmas.Bool.Decides.{eqb_tells, leb_tells}
use Rattle.std.proofs.Math.ListN.{get_or-eq_default}
use Rattle.graph_walk.specs.Levels.{level_of, Rises}
use Rattle.graph_walk.specs.Preorder.{is_seen, targets_of, preorder_within, preorder, reaches}

fold-keeps-with : (f : List ℕ → ℕ → List ℕ) (P : List ℕ → Type 0) (Q : ℕ → Type 0) → ((s : List ℕ) (t : ℕ) → P s → Q t → P (f s t)) → (ts : List ℕ) (s : List ℕ) → All Q ts → P s → P (fold f s ts)
fold-keeps-with f P Q keeps [] s a p = p
fold-keeps-with f P Q keeps (t ∷ ts) s a p =
    fold-keeps-with f P Q keeps ts (f s t) (All-tail Q t ts a) (keeps s t p (All-head Q t ts a))

module _ (rows : List (List ℕ)) (levels : List ℕ) (rises : Rises rows levels) (low : ℕ) where
  targets-above : (node : ℕ) → low ≤ level_of levels node → ((leb (length rows) node ≡ true) × (length rows ≤ node)) ⊎ ((leb (length rows) node ≡ false) × (node < length rows)) → All (λ t. low ≤ level_of levels t) (targets_of rows node)
  targets-above node above = ⊎_elim
      (λ outside. All-same (λ t. low ≤ level_of levels t) (targets_of rows node) [] (get_or-eq_default rows [] outside.1) (All-nil (λ t. low ≤ level_of levels t)))
      (λ inside. λ k d below. omega (arith, rises node inside.1 k d below))

  stays-above : (fuel node : ℕ) (seen : List ℕ) → low ≤ level_of levels node → All (λ x. low ≤ level_of levels x) seen → All (λ x. low ≤ level_of levels x) (preorder_within rows fuel node seen)
  unfolding preorder_within
  stays-above zero node seen above all = all
  stays-above (suc fuel) node seen above all =
      cond_both (is_seen seen node) _ _ (λ r. All (λ x. low ≤ level_of levels x) r) (λ _. all)
      (λ _. fold-keeps-with (λ s t. preorder_within rows fuel t s) (λ s. All (λ x. low ≤ level_of levels x) s) (λ t. low ≤ level_of levels t)
      (λ s t p q. stays-above fuel t s q p) (targets_of rows node) (seen ++ node ∷ [])
      (targets-above node above (leb_tells (length rows) node))
      (All-push (λ x. low ≤ level_of levels x) seen node all above))

pub not-reached : (rows : List (List ℕ)) (levels : List ℕ) (start node : ℕ) → Rises rows levels → level_of levels node < level_of levels start → reaches rows start node ≡ false
unfolding preorder is_seen
not-reached rows levels start node rises lower =
    list_any_none (λ x. eqb x node) (preorder rows start [])
    (λ k d below.
    let high : level_of levels start ≤ level_of levels (get_or (preorder rows start []) k d) =
    stays-above rows levels rises (level_of levels start) (length rows) start [] (omega arith) (All-nil (λ x. level_of levels start ≤ level_of levels x)) k d below in
    ⊎_elim (λ e. absurd (omega (arith, ap (level_of levels) e.1))) (λ e. e.0) (eqb_tells (get_or (preorder rows start []) k d) node))
