-- The blocks above a block in an order, and the names that they define.
use Rattle.std.proofs.Common.{◌≡◌, ◌≢◌, ℕ, ◌+◌, ◌<◌, ◌≤◌, Bool, true, false, cond, eqb, List, [], ◌∷◌, ◌++◌, Option, None, Some, IfSome, length, get_or, set, take, drop, refl, sym, ◌∙◌, ap, subst, arith, append_assoc, length-append, ◌⊎◌, ⊎_elim, replicate, ◌||◌}
use Rattle.std.specs.Prelude.{flat_map, slice_get, unwrap_or}
use Rattle.std.specs.Option.{option_map_or, option_and_then}
use Rattle.std.proofs.Math.Seq.{take-append_seam}
use Rattle.std.proofs.lemmas.Bool.{eq-eqb, cond-true, cond-false}
use Rattle.std.proofs.lemmas.Bool.Decides.{eqb_tells}
use Rattle.std.proofs.lemmas.Grind.{flat_map-append}
use Rattle.std.proofs.lemmas.List.{get_or-set_same, get_or-set_other, get_or-replicate, take-append-drop}
use Rattle.std.proofs.lemmas.List.Elements.{filter_map-append}
use Rattle.graph_walk.specs.Preorder.{is_seen}
use Rattle.graph_walk.proofs.Depth.{is_seen-added, is_seen-other, is_seen-kept}
use Rattle.inst_walk.specs.Body.{BlockOutline, BodyOutline}
use Rattle.inst_walk.specs.First.{position_at}
use Rattle.inst_walk.specs.Outline.{Outline}
use Rattle.inst_walk.specs.Uses.{results_of, defined_at, defined_names, reached_names, reached_labels, blocks_above, breaks_rule, names_above, first_break_in, start_of, limited_test}
use Rattle.inst_walk.proofs.FirstLemmas.{at-alike}

kept-at : (b : Bool) (x place : ℕ) (order more : List ℕ) → (b || is_seen order place) ≡ true → (is_seen order place ≡ true → blocks_above (order ++ more) place ≡ blocks_above order place) → cond b [] (x ∷ blocks_above (order ++ more) place) ≡ cond b [] (x ∷ blocks_above order place)
kept-at true x place order more seen rest = refl
kept-at false x place order more seen rest = ap (λ l. x ∷ l) (rest seen)

-- what comes later changes nothing above a block that is there
above-kept : (order more : List ℕ) (place : ℕ) → is_seen order place ≡ true → blocks_above (order ++ more) place ≡ blocks_above order place
unfolding is_seen
above-kept [] more place seen = absurd cc
above-kept (x ∷ order) more place seen = kept-at (eqb x place) x place order more seen (above-kept order more place)

new-at : (b : Bool) (x place : ℕ) (order : List ℕ) → (b || is_seen order place) ≡ false → (is_seen order place ≡ false → blocks_above (order ++ place ∷ []) place ≡ order) → cond b [] (x ∷ blocks_above (order ++ place ∷ []) place) ≡ x ∷ order
new-at true x place order fresh rest = absurd cc
new-at false x place order fresh rest = ap (λ l. x ∷ l) (rest fresh)

-- all stand above a block that comes new at the end
above-new : (order : List ℕ) (place : ℕ) → is_seen order place ≡ false → blocks_above (order ++ place ∷ []) place ≡ order
unfolding is_seen
above-new [] place fresh = cond-true (eqb place place) [] (place ∷ []) (eq-eqb place place refl)
above-new (x ∷ order) place fresh = new-at (eqb x place) x place order fresh (above-new order place)

-- the order from a block that it has on
record Split (order : List ℕ) (place : ℕ) : Type 0 where
  pub below : List ℕ
  pub whole : order ≡ blocks_above order place ++ place ∷ below

split-at : (x place : ℕ) (order : List ℕ) → ((eqb x place ≡ true) × (x ≡ place)) ⊎ ((eqb x place ≡ false) × (x ≢ place)) → (eqb x place || is_seen order place) ≡ true → (is_seen order place ≡ true → Split order place) → Split (x ∷ order) place
split-at x place order tells seen rest = ⊎_elim
    (λ e. record { below = order; whole = ap (λ y. y ∷ order) e.1 ∙ sym (ap (λ l. l ++ place ∷ order) (cond-true (eqb x place) [] (x ∷ blocks_above order place) e.0)) })
    (λ e.
    let s : Split order place = rest (sym (ap (λ b. b || is_seen order place) e.0) ∙ seen) in
    record { below = s.below; whole = ap (λ l. x ∷ l) s.whole ∙ sym (ap (λ l. l ++ place ∷ s.below) (cond-false (eqb x place) [] (x ∷ blocks_above order place) e.0)) })
    tells

split : (order : List ℕ) (place : ℕ) → is_seen order place ≡ true → Split order place
unfolding is_seen
split [] place seen = absurd cc
split (x ∷ order) place seen = split-at x place order (eqb_tells x place) seen (split order place)

is_seen-nil : (place : ℕ) → is_seen [] place ≡ false
unfolding is_seen
is_seen-nil place = refl

module _ {N : Type 0} (body : BodyOutline N) where
  pub start-nil : (place : ℕ) → start_of body [] place ≡ None
  start-nil place = cond-false (is_seen [] place) _ _ (is_seen-nil place)

  pub starts-begin : (starts : List (Option ℕ)) (n place : ℕ) → starts ≡ replicate n None → place < n → get_or starts place None ≡ start_of body [] place
  starts-begin starts n place e below =
      ap (λ l. get_or l place None) e ∙ get_or-replicate n place None None below ∙ sym (start-nil place)

  module _ (order : List ℕ) where
    here-at : (place : ℕ) (b : Bool) → is_seen order place ≡ b → Some (unwrap_or (start_of body order place) (length (reached_names body order))) ≡ start_of body (order ++ place ∷ []) place
    here-at place true seen =
        ap (λ o. Some (unwrap_or o (length (reached_names body order)))) (cond-true (is_seen order place) _ _ seen)
        ∙ ap (λ l. Some (length (reached_names body l))) (sym (above-kept order (place ∷ []) place seen))
        ∙ sym (cond-true (is_seen (order ++ place ∷ []) place) _ _ (is_seen-added order place))
    here-at place false fresh =
        ap (λ o. Some (unwrap_or o (length (reached_names body order)))) (cond-false (is_seen order place) _ _ fresh)
        ∙ ap (λ l. Some (length (reached_names body l))) (sym (above-new order place fresh))
        ∙ sym (cond-true (is_seen (order ++ place ∷ []) place) _ _ (is_seen-added order place))

    other-at : (added place : ℕ) → added ≢ place → (b : Bool) → is_seen order place ≡ b → start_of body order place ≡ start_of body (order ++ added ∷ []) place
    other-at added place other true seen =
        cond-true (is_seen order place) _ _ seen
        ∙ ap (λ l. Some (length (reached_names body l))) (sym (above-kept order (added ∷ []) place seen))
        ∙ sym (cond-true (is_seen (order ++ added ∷ []) place) _ _ (is_seen-kept order added place seen))
    other-at added place other false fresh =
        cond-false (is_seen order place) _ _ fresh
        ∙ sym (cond-false (is_seen (order ++ added ∷ []) place) _ _ (is_seen-other order added place other ∙ fresh))

    -- one more block is noted
    pub starts-next : (starts now : List (Option ℕ)) (added place at : ℕ) → place < length starts → at ≡ length (reached_names body order) → now ≡ set starts added (Some (unwrap_or (get_or starts added None) at)) → get_or starts added None ≡ start_of body order added → get_or starts place None ≡ start_of body order place → get_or now place None ≡ start_of body (order ++ added ∷ []) place
    starts-next starts now added place at below count step there was = ⊎_elim
        (λ e.
        ap (λ l. get_or l place None) step
        ∙ ap (λ p. get_or (set starts p (Some (unwrap_or (get_or starts added None) at))) place None) e.1
        ∙ get_or-set_same starts place (Some (unwrap_or (get_or starts added None) at)) None below
        ∙ ap (λ o. Some (unwrap_or o at)) there ∙ ap (λ n. Some (unwrap_or (start_of body order added) n)) count
        ∙ here-at added (is_seen order added) refl ∙ ap (λ p. start_of body (order ++ added ∷ []) p) e.1)
        (λ e.
        ap (λ l. get_or l place None) step
        ∙ get_or-set_other starts added place (Some (unwrap_or (get_or starts added None) at)) None (λ same. e.1 (sym same))
        ∙ was ∙ other-at added place e.1 (is_seen order place) refl)
        (eqb_tells added place)

  module _ (order : List ℕ) (place : ℕ) (block : BlockOutline N) (at : slice_get body.blocks place ≡ Some block) where
    here : defined_at body place ≡ results_of block.insts
    here = ap (λ o. option_map_or (λ (b : BlockOutline N). results_of b.insts) o []) at

    -- the reached names are those above, the block's own and those below
    parts : (s : Split order place) → reached_names body order ≡ reached_names body (blocks_above order place) ++ (results_of block.insts ++ flat_map (defined_at body) s.below)
    parts s =
        ap (reached_names body) s.whole
        ∙ ap (λ l. body.params ++ l) (flat_map-append (defined_at body) (blocks_above order place) (place ∷ s.below))
        ∙ sym (append_assoc body.params (flat_map (defined_at body) (blocks_above order place)) (defined_at body place ++ flat_map (defined_at body) s.below))
        ∙ ap (λ l. reached_names body (blocks_above order place) ++ (l ++ flat_map (defined_at body) s.below)) here

    room-at : (b : Bool) → is_seen order place ≡ b → IfSome (start_of body order place) (λ s. s + length (results_of block.insts) ≤ length (reached_names body order))
    room-at true seen =
        let s = split order place seen in
        let sizes : length (reached_names body order) ≡ length (reached_names body (blocks_above order place)) + (length (results_of block.insts) + length (flat_map (defined_at body) s.below)) =
        ap length (parts s) ∙ length-append (reached_names body (blocks_above order place)) (results_of block.insts ++ flat_map (defined_at body) s.below)
        ∙ ap (λ n. length (reached_names body (blocks_above order place)) + n) (length-append (results_of block.insts) (flat_map (defined_at body) s.below)) in
        subst (λ o. IfSome o (λ s. s + length (results_of block.insts) ≤ length (reached_names body order))) (sym (cond-true (is_seen order place) _ _ seen)) (omega arith)
    room-at false fresh =
        subst (λ o. IfSome o (λ s. s + length (results_of block.insts) ≤ length (reached_names body order))) (sym (cond-false (is_seen order place) _ _ fresh)) tt

    -- the names above an instruction are the first of the reached ones
    above-taken : (s : Split order place) (i : ℕ) → names_above body order place block.insts i ≡ take (length (reached_names body (blocks_above order place)) + length (results_of (take i block.insts))) (reached_names body order)
    above-taken s i =
        let above = reached_names body (blocks_above order place) in
        let first = results_of (take i block.insts) in
        let own : results_of block.insts ≡ results_of (take i block.insts) ++ results_of (drop i block.insts) =
        ap results_of (sym (take-append-drop i block.insts)) ∙ filter_map-append (λ (o : Outline N). o.defines) (take i block.insts) (drop i block.insts) in
        sym (
        ap (λ l. take (length (reached_names body (blocks_above order place)) + length (results_of (take i block.insts))) l)
        (parts s ∙ ap (λ l. reached_names body (blocks_above order place) ++ (l ++ flat_map (defined_at body) s.below)) own
        ∙ ap (λ l. reached_names body (blocks_above order place) ++ l) (append_assoc (results_of (take i block.insts)) (results_of (drop i block.insts)) (flat_map (defined_at body) s.below))
        ∙ sym (append_assoc (reached_names body (blocks_above order place)) (results_of (take i block.insts)) (results_of (drop i block.insts) ++ flat_map (defined_at body) s.below)))
        ∙ ap (λ n. take n ((reached_names body (blocks_above order place) ++ results_of (take i block.insts)) ++ (results_of (drop i block.insts) ++ flat_map (defined_at body) s.below)))
        (sym (length-append (reached_names body (blocks_above order place)) (results_of (take i block.insts))))
        ∙ take-append_seam (reached_names body (blocks_above order place) ++ results_of (take i block.insts)) (results_of (drop i block.insts) ++ flat_map (defined_at body) s.below))

    module _ (eq : N → N → Bool) where
      same-at : (b : Bool) → is_seen order place ≡ b → first_break_in eq body order place block ≡ option_and_then (λ s. position_at (limited_test eq (reached_labels body order) (defined_names body) (reached_names body order) s block.insts) 0 block.insts) (start_of body order place)
      same-at true seen =
          let s = split order place seen in
          cond-true (is_seen order place) _ _ seen
          ∙ at-alike (λ i o. breaks_rule eq (reached_labels body order) (defined_names body) (reached_names body order) (names_above body order place block.insts i) o)
          (limited_test eq (reached_labels body order) (defined_names body) (reached_names body order) (length (reached_names body (blocks_above order place))) block.insts)
          (λ i o. ap (λ l. breaks_rule eq (reached_labels body order) (defined_names body) (reached_names body order) l o) (above-taken s i)) 0 block.insts
          ∙ ap (option_and_then (λ s. position_at (limited_test eq (reached_labels body order) (defined_names body) (reached_names body order) s block.insts) 0 block.insts)) (sym (cond-true (is_seen order place) _ _ seen))
      same-at false fresh =
          cond-false (is_seen order place) _ _ fresh
          ∙ ap (option_and_then (λ s. position_at (limited_test eq (reached_labels body order) (defined_names body) (reached_names body order) s block.insts) 0 block.insts)) (sym (cond-false (is_seen order place) _ _ fresh))

      -- what was found by the collected names is the block's first break
      pub broken : (labels defined reached : List N) (start found : Option ℕ) → labels ≡ reached_labels body order → defined ≡ defined_names body → reached ≡ reached_names body order → start ≡ start_of body order place → found ≡ option_and_then (λ s. position_at (limited_test eq labels defined reached s block.insts) 0 block.insts) start → first_break_in eq body order place block ≡ found
      broken labels defined reached start found l d r s f =
          same-at (is_seen order place) refl
          ∙ sym (f
          ∙ ap (λ x. option_and_then (λ s. position_at (limited_test eq x defined reached s block.insts) 0 block.insts) start) l
          ∙ ap (λ x. option_and_then (λ s. position_at (limited_test eq (reached_labels body order) x reached s block.insts) 0 block.insts) start) d
          ∙ ap (λ x. option_and_then (λ s. position_at (limited_test eq (reached_labels body order) (defined_names body) x s block.insts) 0 block.insts) start) r
          ∙ ap (option_and_then (λ s. position_at (limited_test eq (reached_labels body order) (defined_names body) (reached_names body order) s block.insts) 0 block.insts)) s)

    pub roomy : (reached : List N) (start : Option ℕ) → reached ≡ reached_names body order → start ≡ start_of body order place → IfSome start (λ s. s + length (results_of block.insts) ≤ length reached)
    roomy reached start r s =
        subst (λ l. IfSome start (λ s. s + length (results_of block.insts) ≤ length l)) (sym r)
        (subst (λ o. IfSome o (λ s. s + length (results_of block.insts) ≤ length (reached_names body order))) (sym s) (room-at (is_seen order place) refl))
