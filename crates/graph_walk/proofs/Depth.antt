-- The depth that `preorder` stops at has no effect.
use Rattle.std.proofs.Common.{◌≡◌, ◌≢◌, ℕ, zero, suc, ◌+◌, ◌<◌, ◌≤◌, Bool, true, false, cond, eqb, List, [], ◌∷◌, ◌++◌, length, refl, sym, ◌∙◌, ap, subst, arith, ◌||◌, ◌⊎◌, ⊎_elim}
use Rattle.std.specs.Prelude.{fold, All}
use Rattle.std.proofs.Math.Bool.{or-false, or-true}
use Rattle.std.proofs.lemmas.Bool.{eq-eqb, cond_both, cond-true, cond-false}
use Rattle.std.proofs.lemmas.Bool.Decides.{eqb_tells}
use Rattle.std.proofs.lemmas.List.Elements.{All-head, All-tail, All-get_or}
use Rattle.std.proofs.lemmas.List.Folds.{list_any-append}
use Rattle.graph_walk.specs.Preorder.{is_seen, targets_of, preorder_within, preorder, IsGraph, preorder_step}

pub is_seen-append : (seen : List ℕ) (added node : ℕ) → is_seen (seen ++ added ∷ []) node ≡ (is_seen seen node || eqb added node)
unfolding is_seen
is_seen-append seen added node =
    list_any-append (λ x. eqb x node) seen (added ∷ []) ∙ ap (λ b. is_seen seen node || b) (or-false (eqb added node))

pub is_seen-added : (seen : List ℕ) (node : ℕ) → is_seen (seen ++ node ∷ []) node ≡ true
is_seen-added seen node =
    is_seen-append seen node node ∙ ap (λ b. is_seen seen node || b) (eq-eqb node node refl) ∙ or-true (is_seen seen node)

pub is_seen-other : (seen : List ℕ) (added node : ℕ) → added ≢ node → is_seen (seen ++ added ∷ []) node ≡ is_seen seen node
is_seen-other seen added node other =
    is_seen-append seen added node ∙ ap (λ b. is_seen seen node || b) (⊎_elim (λ e. absurd (other e.1)) (λ e. e.0) (eqb_tells added node)) ∙ or-false (is_seen seen node)

pub is_seen-kept : (seen : List ℕ) (added node : ℕ) → is_seen seen node ≡ true → is_seen (seen ++ added ∷ []) node ≡ true
is_seen-kept seen added node was = rw is_seen-append (ap (λ b. b || eqb added node) was)

-- what each step of a fold keeps, the fold keeps
pub fold-keeps : (f : List ℕ → ℕ → List ℕ) (P : List ℕ → Type 0) → ((s : List ℕ) (t : ℕ) → P s → P (f s t)) → (ts : List ℕ) (s : List ℕ) → P s → P (fold f s ts)
fold-keeps f P keeps [] s p = p
fold-keeps f P keeps (t ∷ ts) s p = fold-keeps f P keeps ts (f s t) (keeps s t p)

-- two folds agree where their steps do, on the states that come up
pub fold-agree : (f g : List ℕ → ℕ → List ℕ) (P : List ℕ → Type 0) (Q : ℕ → Type 0) → ((s : List ℕ) (t : ℕ) → P s → Q t → f s t ≡ g s t) → ((s : List ℕ) (t : ℕ) → P s → P (g s t)) → (ts : List ℕ) (s : List ℕ) → All Q ts → P s → fold f s ts ≡ fold g s ts
fold-agree f g P Q same keeps [] s a p = refl
fold-agree f g P Q same keeps (t ∷ ts) s a p =
    ap (λ u. fold f u ts) (same s t p (All-head Q t ts a))
    ∙ fold-agree f g P Q same keeps ts (g s t) (All-tail Q t ts a) (keeps s t p)

-- what the nodes below n that aren't seen weigh together
abbrev pub part : (ℕ → ℕ) → ℕ → List ℕ → ℕ
part w n seen = cond (is_seen seen n) 0 (w n)

unfoldable pub weight : (ℕ → ℕ) → ℕ → List ℕ → ℕ
weight w zero seen = 0
weight w (suc n) seen = part w n seen + weight w n seen

module _ (w : ℕ → ℕ) where
  pub weight-above : (n node : ℕ) (seen : List ℕ) → n ≤ node → weight w n (seen ++ node ∷ []) ≡ weight w n seen
  unfolding weight
  weight-above zero node seen above = refl
  weight-above (suc n) node seen above =
      let differs : node ≢ n = omega arith in
      ap (λ b. cond b 0 (w n) + weight w n (seen ++ node ∷ [])) (is_seen-other seen node n differs)
      ∙ ap (λ k. part w n seen + k) (weight-above n node seen (omega arith))

  weight-added-here : (n : ℕ) (seen : List ℕ) → is_seen seen n ≡ false → w n + weight w (suc n) (seen ++ n ∷ []) ≡ weight w (suc n) seen
  unfolding weight
  weight-added-here n seen fresh =
      let now : part w n (seen ++ n ∷ []) ≡ 0 = cond-true (is_seen (seen ++ n ∷ []) n) 0 (w n) (is_seen-added seen n) in
      let was : part w n seen ≡ w n = cond-false (is_seen seen n) 0 (w n) fresh in
      omega (arith, now, was, weight-above n n seen (omega arith))

  weight-added-by : (n node : ℕ) (seen : List ℕ) → node < suc n → is_seen seen node ≡ false → (node < n → w node + weight w n (seen ++ node ∷ []) ≡ weight w n seen) → ((eqb node n ≡ true) × (node ≡ n)) ⊎ ((eqb node n ≡ false) × (node ≢ n)) → w node + weight w (suc n) (seen ++ node ∷ []) ≡ weight w (suc n) seen
  unfolding weight
  weight-added-by n node seen below fresh rest = ⊎_elim
      (λ e. subst (λ m. w m + weight w (suc n) (seen ++ m ∷ []) ≡ weight w (suc n) seen) (sym e.1) (weight-added-here n seen (subst (λ m. is_seen seen m ≡ false) e.1 fresh)))
      (λ e. let same : part w n (seen ++ node ∷ []) ≡ part w n seen = ap (λ b. cond b 0 (w n)) (is_seen-other seen node n e.1) in
      let r : w node + weight w n (seen ++ node ∷ []) ≡ weight w n seen = rest (omega (arith, e.1)) in
      omega (arith, same, r))

  pub weight-added : (n node : ℕ) (seen : List ℕ) → node < n → is_seen seen node ≡ false → w node + weight w n (seen ++ node ∷ []) ≡ weight w n seen
  weight-added zero node seen below fresh = absurd (omega arith)
  weight-added (suc n) node seen below fresh = weight-added-by n node seen below fresh (λ lt. weight-added n node seen lt fresh) (eqb_tells node n)

  part-mono : (n : ℕ) (s t : List ℕ) (b : Bool) → is_seen s n ≡ b → ((x : ℕ) → is_seen s x ≡ true → is_seen t x ≡ true) → part w n t ≤ part w n s
  part-mono n s t true e grows = let now : part w n t ≡ 0 = cond-true (is_seen t n) 0 (w n) (grows n e) in omega (arith, now)
  part-mono n s t false e grows =
      let was : part w n s ≡ w n = cond-false (is_seen s n) 0 (w n) e in
      cond_both (is_seen t n) 0 (w n) (λ k. k ≤ part w n s) (λ _. omega arith) (λ _. omega (arith, was))

  pub weight-mono : (n : ℕ) (s t : List ℕ) → ((x : ℕ) → is_seen s x ≡ true → is_seen t x ≡ true) → weight w n t ≤ weight w n s
  unfolding weight
  weight-mono zero s t grows = omega arith
  weight-mono (suc n) s t grows = omega (arith, weight-mono n s t grows, part-mono n s t (is_seen s n) refl grows)

-- how many nodes below n aren't seen
abbrev pub ones : ℕ → ℕ
ones node = 1

pub weight-ones : (n : ℕ) (seen : List ℕ) → weight ones n seen ≤ n
unfolding weight
weight-ones zero seen = omega arith
weight-ones (suc n) seen =
    cond_both (is_seen seen n) 0 1 (λ k. k + weight ones n seen ≤ suc n) (λ _. omega (arith, weight-ones n seen)) (λ _. omega (arith, weight-ones n seen))

cond_agree : (b : Bool) (s x y : List ℕ) → (b ≡ false → x ≡ y) → cond b s x ≡ cond b s y
cond_agree true s x y h = refl
cond_agree false s x y h = h refl

module _ (rows : List (List ℕ)) where
  pub kept : (fuel x node : ℕ) (seen : List ℕ) → is_seen seen x ≡ true → is_seen (preorder_within rows fuel node seen) x ≡ true
  unfolding preorder_within
  kept zero x node seen was = was
  kept (suc fuel) x node seen was =
      cond_both (is_seen seen node) _ _ (λ r. is_seen r x ≡ true) (λ _. was)
      (λ _. fold-keeps (λ s t. preorder_within rows fuel t s) (λ s. is_seen s x ≡ true) (λ s t. kept fuel x t s) (targets_of rows node) (seen ++ node ∷ []) (is_seen-kept seen node x was))

  module _ (graph : IsGraph rows) where
    pub targets-inside : (node : ℕ) → node < length rows → All (λ t. t < length rows) (targets_of rows node)
    targets-inside node inside = All-get_or (λ row. All (λ t. t < length rows) row) rows node [] inside graph

    stable : (fuel node : ℕ) (seen : List ℕ) → node < length rows → weight ones (length rows) seen ≤ fuel → preorder_within rows (suc fuel) node seen ≡ preorder_within rows fuel node seen
    unfolding preorder_within
    stable zero node seen inside room =
        cond_both (is_seen seen node) _ _ (λ r. r ≡ seen) (λ _. refl)
        (λ fresh. absurd (omega (arith, weight-added ones (length rows) node seen inside fresh)))
    stable (suc fuel) node seen inside room =
        cond_agree (is_seen seen node) seen _ _ (λ fresh.
        fold-agree (λ s t. preorder_within rows (suc fuel) t s) (λ s t. preorder_within rows fuel t s)
        (λ s. weight ones (length rows) s ≤ fuel) (λ t. t < length rows)
        (λ s t p q. stable fuel t s q p)
        (λ s t p. let less = weight-mono ones (length rows) s (preorder_within rows fuel t s) (λ x. kept fuel x t s) in omega arith)
        (targets_of rows node) (seen ++ node ∷ []) (targets-inside node inside)
        (omega (arith, weight-added ones (length rows) node seen inside fresh)))

    pub preorder-step : (node : ℕ) (seen : List ℕ) → node < length rows → preorder rows node seen ≡ preorder_step rows node seen
    unfolding preorder preorder_within
    preorder-step node seen inside =
        sym (stable (length rows) node seen inside (weight-ones (length rows) seen))
