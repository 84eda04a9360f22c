-- The names that the walks collect are among those of the body.
use Rattle.std.proofs.Common.{◌≡◌, ℕ, ◌-◌, List, [], ◌∷◌, ◌++◌, Option, None, Some, length, take, drop, refl, sym, ◌∙◌, ap, subst, ⊎_elim}
use Rattle.std.specs.Prelude.{flat_map, slice_get, Contains}
use Rattle.std.specs.List.{cons_option}
use Rattle.std.specs.Option.{option_map, option_map_or}
use Rattle.std.proofs.lemmas.List.{take-append-drop}
use Rattle.std.proofs.lemmas.List.Elements.{Contains-append_left, Contains-append_right, Contains-append_cases, filter_map-append}
use Rattle.inst_walk.specs.Body.{BlockOutline, BodyOutline, block_names, targets_of}
use Rattle.inst_walk.specs.Outline.{Outline}
use Rattle.inst_walk.specs.Uses.{results_of, defined_at, defined_names, reached_names, reached_labels, blocks_above, names_above}
use Rattle.inst_walk.proofs.ListLemmas.{contains-none, contains-cases, contains-read, contains-map, contains-flat_map}

module _ {N : Type 0} (body : BodyOutline N) where
  results-defined : (block : BlockOutline N) (a : N) → Contains body.blocks block → Contains (results_of block.insts) a → Contains (defined_names body) a
  results-defined block a h i =
      Contains-append_right body.params (flat_map (λ (b : BlockOutline N). results_of b.insts) body.blocks) a
      (contains-flat_map (λ (b : BlockOutline N). results_of b.insts) body.blocks block a h i)

  found-defined : (place : ℕ) (o : Option (BlockOutline N)) (a : N) → slice_get body.blocks place ≡ o → Contains (option_map_or (λ (b : BlockOutline N). results_of b.insts) o []) a → Contains (defined_names body) a
  found-defined place None a at h = contains-none a _ h
  found-defined place (Some block) a at h = results-defined block a (contains-read body.blocks place block at) h

  order-defined : (order : List ℕ) (a : N) → Contains (flat_map (defined_at body) order) a → Contains (defined_names body) a
  order-defined [] a h = contains-none a _ h
  order-defined (place ∷ order) a h = ⊎_elim
      (λ i. found-defined place (slice_get body.blocks place) a refl i)
      (λ i. order-defined order a i)
      (Contains-append_cases (defined_at body place) (flat_map (defined_at body) order) a h)

  pub reached-defined : (order : List ℕ) (a : N) → Contains (reached_names body order) a → Contains (defined_names body) a
  reached-defined order a h = ⊎_elim
      (λ i. Contains-append_left body.params (flat_map (λ (b : BlockOutline N). results_of b.insts) body.blocks) a i)
      (λ i. order-defined order a i)
      (Contains-append_cases body.params (flat_map (defined_at body) order) a h)

  pub above-defined : (order : List ℕ) (place : ℕ) (block : BlockOutline N) (i : ℕ) (a : N) → Contains body.blocks block → Contains (names_above body order place block.insts i) a → Contains (defined_names body) a
  above-defined order place block i a h at = ⊎_elim
      (λ j. reached-defined (blocks_above order place) a j)
      (λ j.
      let parts : results_of block.insts ≡ results_of (take i block.insts) ++ results_of (drop i block.insts) =
      ap results_of (sym (take-append-drop i block.insts)) ∙ filter_map-append (λ (o : Outline N). o.defines) (take i block.insts) (drop i block.insts) in
      results-defined block a h (subst (λ l. Contains l a) (sym parts) (Contains-append_left (results_of (take i block.insts)) (results_of (drop i block.insts)) a j)))
      (Contains-append_cases (reached_names body (blocks_above order place)) (results_of (take i block.insts)) a at)

  label-of : (o : Option (BlockOutline N)) (place : ℕ) (rest : List N) (a : N) → slice_get body.blocks place ≡ o → (Contains rest a → Contains (block_names body) a) → Contains (cons_option (option_map (λ (b : BlockOutline N). b.name) o) rest) a → Contains (block_names body) a
  label-of None place rest a at more h = more h
  label-of (Some block) place rest a at more h = ⊎_elim
      (λ e. subst (Contains (block_names body)) e (contains-map (λ (b : BlockOutline N). b.name) body.blocks block (contains-read body.blocks place block at)))
      (λ i. more i)
      (contains-cases block.name a rest h)

  pub labels-named : (order : List ℕ) (a : N) → Contains (reached_labels body order) a → Contains (block_names body) a
  labels-named [] a h = contains-none a _ h
  labels-named (place ∷ order) a h =
      label-of (slice_get body.blocks place) place (reached_labels body order) a refl (λ i. labels-named order a i) h

module _ {N : Type 0} where
  last-label : (insts : List (Outline N)) (k : ℕ) (o : Option (Outline N)) (a : N) → slice_get insts k ≡ o → Contains (option_map_or (λ (p : Outline N). p.leads_to) o []) a → (p : Outline N) × Contains insts p × Contains p.leads_to a
  last-label insts k None a at h = contains-none a _ h
  last-label insts k (Some p) a at h = (p, contains-read insts k p at, h)

  -- what a block's terminator leads to, one of its instructions leads to
  pub target-named : (block : BlockOutline N) (a : N) → Contains (targets_of block) a → (p : Outline N) × Contains block.insts p × Contains p.leads_to a
  target-named block a h = last-label block.insts (length block.insts - 1) (slice_get block.insts (length block.insts - 1)) a refl h
