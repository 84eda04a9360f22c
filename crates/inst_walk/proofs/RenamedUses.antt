-- The first use that nothing above defines is where it was.
use Rattle.std.proofs.Common.{◌≡◌, ℕ, Bool, cond, List, [], ◌++◌, Option, None, Some, take, refl, sym, ◌∙◌, ap}
use Rattle.std.specs.Prelude.{map, flat_map, slice_get, Contains, is_some, not, ◌&&◌}
use Rattle.std.specs.List.{list_any}
use Rattle.std.specs.Option.{option_map, option_map_or}
use Rattle.std.proofs.lemmas.List.{map-append, take-map}
use Rattle.std.proofs.lemmas.List.Folds.{flat_map-map}
use Rattle.std.proofs.lemmas.Option.{slice_get-map}
use Rattle.graph_walk.specs.Preorder.{is_seen}
use Rattle.inst_walk.specs.Body.{BlockOutline, BodyOutline, block_names}
use Rattle.inst_walk.specs.Outline.{Outline, Uses, Plain, Phi, values_of, parents_of, uses_renamed}
use Rattle.inst_walk.specs.Places.{is_among}
use Rattle.inst_walk.specs.Uses.{takings_of, results_of, defined_at, defined_names, reached_names, reached_labels, blocks_above, names_above, is_missed, breaks_use, breaks_rule, first_break_in, first_use_break}
use Rattle.inst_walk.proofs.CallsLemmas.{filter_map-map}
use Rattle.inst_walk.proofs.ListLemmas.{contains-map, flat_map-alike, map-flat_map, map-filter_map, filter_map-alike, any-map, at-map, first-map}
use Rattle.inst_walk.proofs.Members.{reached-defined, above-defined, labels-named}
use Rattle.inst_walk.proofs.RenamedWalks.{KeepsEqual, Renames, place-kept, block_viewed, body_viewed}

module _ {N M : Type 0} (f : N → M) (view : Outline N → Outline M) (renames : Renames f view) where
  results-viewed : (insts : List (Outline N)) → results_of (map view insts) ≡ map f (results_of insts)
  results-viewed insts =
      filter_map-map (λ (o : Outline M). o.defines) view insts
      ∙ filter_map-alike (λ o. (view o).defines) (λ (o : Outline N). option_map f o.defines) insts (λ o h. renames.defines o)
      ∙ sym (map-filter_map f (λ (o : Outline N). o.defines) insts)

  module _ (body : BodyOutline N) where
    defined-viewed : defined_names (body_viewed f view body) ≡ map f (defined_names body)
    defined-viewed =
        ap (λ l. map f body.params ++ l)
        (flat_map-map (λ (b : BlockOutline M). results_of b.insts) (block_viewed f view) body.blocks
        ∙ flat_map-alike (λ b. results_of (map view b.insts)) (λ (b : BlockOutline N). map f (results_of b.insts)) body.blocks (λ b h. results-viewed b.insts)
        ∙ sym (map-flat_map f (λ (b : BlockOutline N). results_of b.insts) body.blocks))
        ∙ sym (map-append f body.params (flat_map (λ (b : BlockOutline N). results_of b.insts) body.blocks))

    found-viewed : (o : Option (BlockOutline N)) → option_map_or (λ (b : BlockOutline M). results_of b.insts) (option_map (block_viewed f view) o) [] ≡ map f (option_map_or (λ (b : BlockOutline N). results_of b.insts) o [])
    found-viewed None = refl
    found-viewed (Some b) = results-viewed b.insts

    at-viewed : (place : ℕ) → defined_at (body_viewed f view body) place ≡ map f (defined_at body place)
    at-viewed place =
        ap (λ o. option_map_or (λ (b : BlockOutline M). results_of b.insts) o []) (slice_get-map (block_viewed f view) body.blocks place)
        ∙ found-viewed (slice_get body.blocks place)

    reached-viewed : (order : List ℕ) → reached_names (body_viewed f view body) order ≡ map f (reached_names body order)
    reached-viewed order =
        ap (λ l. map f body.params ++ l)
        (flat_map-alike (defined_at (body_viewed f view body)) (λ place. map f (defined_at body place)) order (λ place h. at-viewed place)
        ∙ sym (map-flat_map f (defined_at body) order))
        ∙ sym (map-append f body.params (flat_map (defined_at body) order))

    label-viewed : (o : Option (BlockOutline N)) → option_map (λ (b : BlockOutline M). b.name) (option_map (block_viewed f view) o) ≡ option_map f (option_map (λ (b : BlockOutline N). b.name) o)
    label-viewed None = refl
    label-viewed (Some b) = refl

    labels-viewed : (order : List ℕ) → reached_labels (body_viewed f view body) order ≡ map f (reached_labels body order)
    labels-viewed order =
        filter_map-alike (λ place. option_map (λ (b : BlockOutline M). b.name) (slice_get (map (block_viewed f view) body.blocks) place)) (λ place. option_map f (option_map (λ (b : BlockOutline N). b.name) (slice_get body.blocks place))) order
        (λ place h.
        ap (option_map (λ (b : BlockOutline M). b.name)) (slice_get-map (block_viewed f view) body.blocks place)
        ∙ label-viewed (slice_get body.blocks place))
        ∙ sym (map-filter_map f (λ place. option_map (λ (b : BlockOutline N). b.name) (slice_get body.blocks place)) order)

    above-viewed : (order : List ℕ) (place : ℕ) (insts : List (Outline N)) (i : ℕ) → names_above (body_viewed f view body) order place (map view insts) i ≡ map f (names_above body order place insts i)
    above-viewed order place insts i =
        ap (λ l. l ++ results_of (take i (map view insts))) (reached-viewed (blocks_above order place))
        ∙ ap (λ l. map f (reached_names body (blocks_above order place)) ++ l)
        (ap results_of (take-map view i insts) ∙ results-viewed (take i insts))
        ∙ sym (map-append f (reached_names body (blocks_above order place)) (results_of (take i insts)))

module _ {N M : Type 0} (eq : N → N → Bool) (new_eq : M → M → Bool) (f : N → M) (labels defined reached above : List N) where
  missed-kept : (names : List N) (value : N) → ((a : N) → Contains defined a → new_eq (f a) (f value) ≡ eq a value) → ((a : N) → Contains names a → new_eq (f a) (f value) ≡ eq a value) → is_missed new_eq (map f defined) (map f names) (f value) ≡ is_missed eq defined names value
  missed-kept names value d n =
      ap (λ o. is_some o && not (is_among new_eq (map f names) (f value))) (place-kept eq new_eq f defined value d)
      ∙ ap (λ o. is_among eq defined value && not (is_some o)) (place-kept eq new_eq f names value n)

  module _ (reached_in : (a : N) → Contains reached a → Contains defined a) (above_in : (a : N) → Contains above a → Contains defined a) where
    rule-kept : (uses : Uses N) → KeepsEqual eq new_eq f defined (values_of uses) → KeepsEqual eq new_eq f labels (parents_of uses) → list_any (breaks_use new_eq (map f labels) (map f defined) (map f reached) (map f above)) (takings_of (uses_renamed f uses)) ≡ list_any (breaks_use eq labels defined reached above) (takings_of uses)
    rule-kept (Plain values) v p =
        any-map (λ (x : M). (x, None)) (breaks_use new_eq (map f labels) (map f defined) (map f reached) (map f above)) (λ x. is_missed new_eq (map f defined) (map f above) x) (map f values) (λ x h. refl)
        ∙ any-map f (λ x. is_missed new_eq (map f defined) (map f above) x) (λ x. is_missed eq defined above x) values
        (λ x h. missed-kept above x (λ a i. v a x i h) (λ a i. v a x (above_in a i) h))
        ∙ sym (any-map (λ (x : N). (x, None)) (breaks_use eq labels defined reached above) (λ x. is_missed eq defined above x) values (λ x h. refl))
    rule-kept (Phi entries) v p =
        any-map (λ (e : M × M). (e.0, Some e.1)) (breaks_use new_eq (map f labels) (map f defined) (map f reached) (map f above)) (λ e. is_among new_eq (map f labels) e.1 && is_missed new_eq (map f defined) (map f reached) e.0) (map (λ e. (f e.0, f e.1)) entries) (λ x h. refl)
        ∙ any-map (λ (e : N × N). (f e.0, f e.1)) (λ (e : M × M). is_among new_eq (map f labels) e.1 && is_missed new_eq (map f defined) (map f reached) e.0) (λ (e : N × N). is_among eq labels e.1 && is_missed eq defined reached e.0) entries
        (λ e h.
        ap (λ o. is_some o && is_missed new_eq (map f defined) (map f reached) (f e.0)) (place-kept eq new_eq f labels e.1 (λ a i. p a e.1 i (contains-map (λ (x : N × N). x.1) entries e h)))
        ∙ ap (λ b. is_among eq labels e.1 && b) (missed-kept reached e.0 (λ a i. v a e.0 i (contains-map (λ (x : N × N). x.0) entries e h)) (λ a i. v a e.0 (reached_in a i) (contains-map (λ (x : N × N). x.0) entries e h))))
        ∙ sym (any-map (λ (e : N × N). (e.0, Some e.1)) (breaks_use eq labels defined reached above) (λ (e : N × N). is_among eq labels e.1 && is_missed eq defined reached e.0) entries (λ x h. refl))

-- the renaming keeps apart what the body defines from the values that it takes, and its blocks from those of its phis
pub record KeepsUses {N M : Type 0} (eq : N → N → Bool) (new_eq : M → M → Bool) (f : N → M) (body : BodyOutline N) : Type 0 where
  pub values : (block : BlockOutline N) (o : Outline N) → Contains body.blocks block → Contains block.insts o → KeepsEqual eq new_eq f (defined_names body) (values_of o.uses)
  pub parents : (block : BlockOutline N) (o : Outline N) → Contains body.blocks block → Contains block.insts o → KeepsEqual eq new_eq f (block_names body) (parents_of o.uses)

module _ {N M : Type 0} (eq : N → N → Bool) (new_eq : M → M → Bool) (f : N → M) (view : Outline N → Outline M) (renames : Renames f view) (body : BodyOutline N) (order : List ℕ) (keeps : KeepsUses eq new_eq f body) where
  break-viewed : (place : ℕ) (block : BlockOutline N) (i : ℕ) (o : Outline N) → Contains body.blocks block → Contains block.insts o → breaks_rule new_eq (reached_labels (body_viewed f view body) order) (defined_names (body_viewed f view body)) (reached_names (body_viewed f view body) order) (names_above (body_viewed f view body) order place (map view block.insts) i) (view o) ≡ breaks_rule eq (reached_labels body order) (defined_names body) (reached_names body order) (names_above body order place block.insts i) o
  break-viewed place block i o b h =
      ap (λ l. breaks_rule new_eq l (defined_names (body_viewed f view body)) (reached_names (body_viewed f view body) order) (names_above (body_viewed f view body) order place (map view block.insts) i) (view o)) (labels-viewed f view renames body order)
      ∙ ap (λ l. breaks_rule new_eq (map f (reached_labels body order)) l (reached_names (body_viewed f view body) order) (names_above (body_viewed f view body) order place (map view block.insts) i) (view o)) (defined-viewed f view renames body)
      ∙ ap (λ l. breaks_rule new_eq (map f (reached_labels body order)) (map f (defined_names body)) l (names_above (body_viewed f view body) order place (map view block.insts) i) (view o)) (reached-viewed f view renames body order)
      ∙ ap (λ l. breaks_rule new_eq (map f (reached_labels body order)) (map f (defined_names body)) (map f (reached_names body order)) l (view o)) (above-viewed f view renames body order place block.insts i)
      ∙ ap (λ u. list_any (breaks_use new_eq (map f (reached_labels body order)) (map f (defined_names body)) (map f (reached_names body order)) (map f (names_above body order place block.insts i))) (takings_of u)) (renames.uses o)
      ∙ rule-kept eq new_eq f (reached_labels body order) (defined_names body) (reached_names body order) (names_above body order place block.insts i)
      (reached-defined body order) (λ a j. above-defined body order place block i a b j) o.uses
      (keeps.values block o b h) (λ x y j k. keeps.parents block o b h x y (labels-named body order x j) k)

  block-viewed : (place : ℕ) (block : BlockOutline N) → Contains body.blocks block → first_break_in new_eq (body_viewed f view body) order place (block_viewed f view block) ≡ first_break_in eq body order place block
  block-viewed place block b =
      ap (λ o. cond (is_seen order place) o None)
      (at-map view (λ i o. breaks_rule new_eq (reached_labels (body_viewed f view body) order) (defined_names (body_viewed f view body)) (reached_names (body_viewed f view body) order) (names_above (body_viewed f view body) order place (map view block.insts) i) o)
      (λ i o. breaks_rule eq (reached_labels body order) (defined_names body) (reached_names body order) (names_above body order place block.insts i) o) 0 block.insts (λ i o h. break-viewed place block i o b h))

  pub first_use-viewed : first_use_break new_eq (body_viewed f view body) order ≡ first_use_break eq body order
  unfolding first_use_break
  first_use-viewed =
      first-map (block_viewed f view) (first_break_in new_eq (body_viewed f view body) order) (first_break_in eq body order) 0 body.blocks (λ place block b. block-viewed place block b)
