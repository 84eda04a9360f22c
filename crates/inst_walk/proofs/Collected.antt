-- The names that a walk over blocks collects.
use Rattle.std.proofs.Common.{◌≡◌, ℕ, ◌+◌, ◌<◌, ◌≤◌, List, [], ◌∷◌, ◌++◌, Some, length, get_or, take, sym, ◌∙◌, ap, append_assoc}
use Rattle.std.specs.Prelude.{map, flat_map, slice_get}
use Rattle.std.specs.List.{filter_map}
use Rattle.std.specs.Option.{option_map, option_map_or, option_to_list}
use Rattle.std.proofs.lemmas.Grind.{flat_map-append}
use Rattle.std.proofs.lemmas.List.{take_all, take_more, append-nil}
use Rattle.std.proofs.lemmas.List.Folds.{flat_map-map}
use Rattle.std.proofs.lemmas.Option.{slice_get-map, slice_get-get_or}
use Rattle.inst_walk.specs.Body.{BlockOutline, block_outline, body_outline}
use Rattle.inst_walk.specs.Outline.{Outline}
use Rattle.inst_walk.specs.Uses.{results_of, defined_at, defined_names, reached_names, reached_labels}
use Rattle.inst_walk.specs.declared.body.Block.{Block}
use Rattle.inst_walk.specs.declared.body.Body.{Body}
use Rattle.inst_walk.proofs.CallsLemmas.{filter_map-map, filter_map-one-more}

module _ {I N : Type 0} (outline : I → Outline N) where
  pub results-added : (insts : List I) (n : ℕ) (before made : List N) → length insts ≤ n → made ≡ before ++ filter_map (λ inst. (outline inst).defines) (take n insts) → made ≡ before ++ results_of (map outline insts)
  results-added insts n before made all was =
      was ∙ ap (λ l. before ++ filter_map (λ inst. (outline inst).defines) l) (take_all n insts all)
      ∙ ap (λ l. before ++ l) (sym (filter_map-map (λ (o : Outline N). o.defines) outline insts))

  pub all-added : (body : Body I N) (blocks : List (Block I N)) (n : ℕ) (made : List N) → length blocks ≤ n → blocks ≡ body.blocks → made ≡ body.params ++ flat_map (λ b. results_of (map outline b.insts)) (take n blocks) → made ≡ defined_names (body_outline outline body)
  all-added body blocks n made all same was =
      was ∙ ap (λ l. body.params ++ flat_map (λ b. results_of (map outline b.insts)) l) (take_all n blocks all ∙ same)
      ∙ ap (λ l. body.params ++ l) (sym (flat_map-map (λ (b : BlockOutline N). results_of b.insts) (block_outline outline) body.blocks))

  module _ (body : Body I N) (blocks : List (Block I N)) (same : blocks ≡ body.blocks) (place : ℕ) (block : Block I N) (below : place < length blocks) (read : block ≡ get_or blocks place block) where
    pub outline-at : slice_get (body_outline outline body).blocks place ≡ Some (block_outline outline block)
    outline-at =
        ap (λ bs. slice_get (map (block_outline outline) bs) place) (sym same)
        ∙ slice_get-map (block_outline outline) blocks place
        ∙ ap (option_map (block_outline outline)) (slice_get-get_or blocks place block below ∙ ap Some (sym read))

    module _ (order : List ℕ) (i : ℕ) (inside : i < length order) (listed : place ≡ get_or order i place) (made now : List N) where
      pub label-more : made ≡ reached_labels (body_outline outline body) (take i order) → now ≡ made ++ block.name ∷ [] → now ≡ reached_labels (body_outline outline body) (take (i + 1) order)
      label-more was step =
          filter_map-one-more (λ place. option_map (λ (b : BlockOutline N). b.name) (slice_get (body_outline outline body).blocks place)) order i place [] made now inside listed was
          (step ∙ ap (λ o. made ++ option_to_list (option_map (λ (b : BlockOutline N). b.name) o)) (sym outline-at))

      pub names-more : (insts : List I) → insts ≡ block.insts → made ≡ reached_names (body_outline outline body) (take i order) → now ≡ made ++ results_of (map outline insts) → now ≡ reached_names (body_outline outline body) (take (i + 1) order)
      names-more insts e was step =
          step ∙ ap (λ l. made ++ results_of (map outline l)) e
          ∙ ap (λ o. made ++ option_map_or (λ (b : BlockOutline N). results_of b.insts) o []) (sym outline-at)
          ∙ ap (λ m. m ++ defined_at (body_outline outline body) place) was
          ∙ append_assoc body.params (flat_map (defined_at (body_outline outline body)) (take i order)) (defined_at (body_outline outline body) place)
          ∙ ap (λ l. body.params ++ l) (sym (
          ap (flat_map (defined_at (body_outline outline body))) (take_more order i place inside ∙ ap (λ p. take i order ++ p ∷ []) (sym listed))
          ∙ flat_map-append (defined_at (body_outline outline body)) (take i order) (place ∷ [])
          ∙ ap (λ l. flat_map (defined_at (body_outline outline body)) (take i order) ++ l) (append-nil (defined_at (body_outline outline body) place))))
