-- The nodes that a walk has still to visit, the next one last.
use Rattle.std.proofs.Common.{◌≡◌, ◌≢◌, ℕ, ◌+◌, ◌<◌, Bool, true, false, eqb, List, [], ◌∷◌, ◌++◌, length, get_or, set, replicate, reverse, Some, refl, sym, ◌∙◌, ap, subst, arith, ◌⊎◌, ⊎_elim, length-append}
use Rattle.std.specs.Prelude.{fold, All}
use Rattle.std.proofs.lemmas.Bool.{cond-true, cond-false}
use Rattle.std.proofs.lemmas.Bool.Decides.{eqb_tells}
use Rattle.std.proofs.lemmas.List.{reverse-append, reverse-reverse, length-reverse, length-replicate, get_or-replicate, get_or-set_same, get_or-set_other, get_or_default, length-set}
use Rattle.std.proofs.lemmas.List.Elements.{All-same, All-nil, All-cons, All-head, All-tail, All-push, All-pop, All-append}
use Rattle.std.proofs.lemmas.List.Sums.{fold-append}
use Rattle.graph_walk.specs.Preorder.{is_seen, targets_of, preorder, IsGraph, preorder_step}
use Rattle.graph_walk.proofs.Depth.{preorder-step, weight, weight-added, is_seen-added, is_seen-other, targets-inside}

-- what the walk will have seen in the end
unfoldable pub finished : List (List ℕ) → List ℕ → List ℕ → List ℕ
finished rows seen stack = fold (λ s t. preorder rows t s) seen (reverse stack)

pub finished-nil : (rows : List (List ℕ)) (seen : List ℕ) → finished rows seen [] ≡ seen
unfolding finished
finished-nil rows seen = refl

pub finished-one : (rows : List (List ℕ)) (seen : List ℕ) (node : ℕ) → finished rows seen (node ∷ []) ≡ preorder rows node seen
unfolding finished
finished-one rows seen node = refl

module _ (rows : List (List ℕ)) (graph : IsGraph rows) (seen stack rest : List ℕ) (node : ℕ) (popped : stack ≡ rest ++ node ∷ []) (inside : node < length rows) where
  next : finished rows seen stack ≡ fold (λ s t. preorder rows t s) (preorder_step rows node seen) (reverse rest)
  unfolding finished
  next =
      ap (λ s. fold (λ s t. preorder rows t s) seen (reverse s)) popped
      ∙ ap (fold (λ s t. preorder rows t s) seen) (reverse-append rest (node ∷ []))
      ∙ ap (λ s. fold (λ s t. preorder rows t s) s (reverse rest)) (preorder-step rows graph node seen inside)

  pub finished-seen : is_seen seen node ≡ true → finished rows seen stack ≡ finished rows seen rest
  unfolding finished
  finished-seen was =
      next ∙ ap (λ s. fold (λ s t. preorder rows t s) s (reverse rest)) (cond-true (is_seen seen node) _ _ was)

  pub finished-fresh : is_seen seen node ≡ false → finished rows seen stack ≡ finished rows (seen ++ node ∷ []) (rest ++ reverse (targets_of rows node))
  unfolding finished
  finished-fresh fresh =
      next ∙ ap (λ s. fold (λ s t. preorder rows t s) s (reverse rest)) (cond-false (is_seen seen node) _ _ fresh)
      ∙ sym (ap (fold (λ s t. preorder rows t s) (seen ++ node ∷ []))
      (reverse-append rest (reverse (targets_of rows node)) ∙ ap (λ s. s ++ reverse rest) (reverse-reverse (targets_of rows node)))
      ∙ fold-append (λ s t. preorder rows t s) (seen ++ node ∷ []) (targets_of rows node) (reverse rest))

-- how many targets the nodes not yet seen have
abbrev pub degree : List (List ℕ) → ℕ → ℕ
degree rows node = length (targets_of rows node)

-- what a walk keeps: the marks are those seen, and going on makes the whole order
pub record KeepsOrder (rows : List (List ℕ)) (first : ℕ) (marks : List Bool) (seen stack : List ℕ) : Type 0 where
  pub marked : length marks ≡ length rows
  pub marks_are : (k : ℕ) → k < length rows → get_or marks k false ≡ is_seen seen k
  pub seen_inside : All (λ node. node < length rows) seen
  pub stack_inside : All (λ node. node < length rows) stack
  pub whole : finished rows seen stack ≡ preorder rows first []

-- how much a walk has still to do
abbrev pub work_left : List (List ℕ) → List ℕ → List ℕ → ℕ
work_left rows seen stack = length stack + weight (degree rows) (length rows) seen

All-reverse : (P : ℕ → Type 0) (xs : List ℕ) → All P xs → All P (reverse xs)
All-reverse P [] all = all
All-reverse P (x ∷ xs) all =
    All-same P (reverse (x ∷ xs)) (reverse xs ++ x ∷ []) (reverse-append (x ∷ []) xs)
    (All-push P (reverse xs) x (All-reverse P xs (All-tail P x xs all)) (All-head P x xs all))

is_seen-nil : (k : ℕ) → is_seen [] k ≡ false
unfolding is_seen
is_seen-nil k = refl

pub keeps-start : (rows : List (List ℕ)) (first : ℕ) (marks : List Bool) (seen stack : List ℕ) → first < length rows → marks ≡ replicate (length rows) false → seen ≡ [] → stack ≡ first ∷ [] → KeepsOrder rows first marks seen stack
keeps-start rows first marks seen stack inside m s t = record {
  marked = ap length m ∙ length-replicate (length rows) false;
  marks_are = λ k below. ap (λ l. get_or l k false) m ∙ get_or-replicate (length rows) k false false below ∙ sym (ap (λ l. is_seen l k) s ∙ is_seen-nil k);
  seen_inside = All-same (λ node. node < length rows) seen [] s (All-nil (λ node. node < length rows));
  stack_inside = All-same (λ node. node < length rows) stack (first ∷ []) t (All-cons (λ node. node < length rows) first [] inside (All-nil (λ node. node < length rows)));
  whole = ap (λ l. finished rows l stack) s ∙ ap (finished rows []) t ∙ finished-one rows [] first;
}

module _ (rows : List (List ℕ)) (first : ℕ) (marks : List Bool) (seen stack rest : List ℕ) (node : ℕ) (graph : IsGraph rows) (keeps : KeepsOrder rows first marks seen stack) (popped : stack ≡ rest ++ node ∷ []) where
  pub split : All (λ n. n < length rows) rest × (node < length rows)
  split = All-pop (λ n. n < length rows) stack rest (Some node) popped keeps.stack_inside

  marked_as : (x b : Bool) → x ≡ get_or marks node x → x ≡ b → get_or marks node false ≡ b
  marked_as x b read mark = get_or_default marks node false x (omega (arith, keeps.marked, split.1)) ∙ sym read ∙ mark

  pub keeps-seen : (x : Bool) → x ≡ get_or marks node x → x ≡ true → KeepsOrder rows first marks seen rest
  keeps-seen x read mark = record {
    marked = keeps.marked;
    marks_are = keeps.marks_are;
    seen_inside = keeps.seen_inside;
    stack_inside = split.0;
    whole = sym (finished-seen rows graph seen stack rest node popped split.1 (sym (keeps.marks_are node split.1) ∙ marked_as x true read mark)) ∙ keeps.whole;
  }

  module _ (x : Bool) (read : x ≡ get_or marks node x) (mark : x ≡ false) (seen' stack' : List ℕ) (s : seen' ≡ seen ++ node ∷ []) (row : List ℕ) (at : row ≡ get_or rows node row) (pushed : stack' ≡ rest ++ reverse row) where
    t : stack' ≡ rest ++ reverse (targets_of rows node)
    t = pushed ∙ ap (λ ts. rest ++ reverse ts) (at ∙ get_or_default rows node row [] split.1)

    fresh : is_seen seen node ≡ false
    fresh = sym (keeps.marks_are node split.1) ∙ marked_as x false read mark

    marks-now : (k : ℕ) → k < length rows → ((eqb node k ≡ true) × (node ≡ k)) ⊎ ((eqb node k ≡ false) × (node ≢ k)) → get_or (set marks node true) k false ≡ is_seen (seen ++ node ∷ []) k
    marks-now k below = ⊎_elim
        (λ e. subst (λ j. get_or (set marks node true) j false ≡ is_seen (seen ++ node ∷ []) j) e.1
        (get_or-set_same marks node true false (omega (arith, keeps.marked, split.1)) ∙ sym (is_seen-added seen node)))
        (λ e. get_or-set_other marks node k true false (λ same. e.1 (sym same)) ∙ keeps.marks_are k below ∙ sym (is_seen-other seen node k e.1))

    pub keeps-fresh : KeepsOrder rows first (set marks node true) seen' stack'
    keeps-fresh = record {
      marked = length-set marks node true ∙ keeps.marked;
      marks_are = λ k below. marks-now k below (eqb_tells node k) ∙ sym (ap (λ l. is_seen l k) s);
      seen_inside = All-same (λ n. n < length rows) seen' (seen ++ node ∷ []) s (All-push (λ n. n < length rows) seen node keeps.seen_inside split.1);
      stack_inside = All-same (λ n. n < length rows) stack' (rest ++ reverse (targets_of rows node)) t
          (All-append (λ n. n < length rows) rest (reverse (targets_of rows node)) split.0
          (All-reverse (λ n. n < length rows) (targets_of rows node) (targets-inside rows graph node split.1)));
      whole = ap (λ l. finished rows l stack') s ∙ ap (finished rows (seen ++ node ∷ [])) t
          ∙ sym (finished-fresh rows graph seen stack rest node popped split.1 fresh) ∙ keeps.whole;
    }

    pub work-falls : work_left rows seen' stack' < work_left rows seen stack
    work-falls =
        let room = weight-added (degree rows) (length rows) node seen split.1 fresh in
        let before : length stack ≡ length rest + 1 = ap length popped ∙ length-append rest (node ∷ []) in
        let after : length stack' ≡ length rest + length (targets_of rows node) =
        ap length t ∙ length-append rest (reverse (targets_of rows node)) ∙ ap (λ n. length rest + n) (length-reverse (targets_of rows node)) in
        let weighs : weight (degree rows) (length rows) seen' ≡ weight (degree rows) (length rows) (seen ++ node ∷ []) = ap (weight (degree rows) (length rows)) s in
        omega arith

pub keeps-end : (rows : List (List ℕ)) (first : ℕ) (marks : List Bool) (seen stack : List ℕ) → KeepsOrder rows first marks seen stack → length stack ≡ 0 → seen ≡ preorder rows first []
keeps-end rows first marks seen [] keeps none = sym (finished-nil rows seen) ∙ keeps.whole
keeps-end rows first marks seen (node ∷ stack) keeps none = absurd (omega arith)
