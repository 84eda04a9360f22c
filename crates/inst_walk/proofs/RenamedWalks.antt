-- A body whose names are replaced is walked as it was.
use Rattle.std.proofs.Common.{◌≡◌, suc, ◌-◌, Bool, cond, List, [], ◌∷◌, Option, None, Some, length, refl, sym, ◌∙◌, ap}
use Rattle.std.specs.Prelude.{map, slice_get, Contains}
use Rattle.std.specs.Option.{option_map, option_map_or}
use Rattle.std.proofs.lemmas.Option.{slice_get-map}
use Rattle.graph_walk.specs.Preorder.{preorder}
use Rattle.inst_walk.specs.Body.{BlockOutline, BodyOutline, targets_of, block_names, edges_of, block_preorder}
use Rattle.inst_walk.specs.Outline.{Outline, uses_renamed}
use Rattle.inst_walk.specs.Places.{place_of, places_of}
use Rattle.inst_walk.proofs.BlockGraph.{map-map, length-map}
use Rattle.inst_walk.proofs.CallsLemmas.{filter_map-map}
use Rattle.inst_walk.proofs.ListLemmas.{contains-head, contains-tail, map-alike, filter_map-alike}

-- each name of the one list and each of the other are equal exactly where their new names are
abbrev pub KeepsEqual : {N M : Type 0} → (N → N → Bool) → (M → M → Bool) → (N → M) → List N → List N → Type 0
KeepsEqual {N} eq new_eq f names wanted = (a b : N) → Contains names a → Contains wanted b → new_eq (f a) (f b) ≡ eq a b

module _ {N M : Type 0} (eq : N → N → Bool) (new_eq : M → M → Bool) (f : N → M) where
  pub place-kept : (names : List N) (b : N) → ((a : N) → Contains names a → new_eq (f a) (f b) ≡ eq a b) → place_of new_eq (map f names) (f b) ≡ place_of eq names b
  place-kept [] b same = refl
  place-kept (n ∷ names) b same =
      ap (λ t. cond t (Some 0) (option_map suc (place_of new_eq (map f names) (f b)))) (same n (contains-head n names))
      ∙ ap (λ o. cond (eq n b) (Some 0) (option_map suc o)) (place-kept names b (λ a h. same a (contains-tail n a names h)))

  pub places-kept : (names wanted : List N) → KeepsEqual eq new_eq f names wanted → places_of new_eq (map f names) (map f wanted) ≡ places_of eq names wanted
  places-kept names wanted same =
      filter_map-map (place_of new_eq (map f names)) f wanted
      ∙ filter_map-alike (λ b. place_of new_eq (map f names) (f b)) (place_of eq names) wanted
      (λ b h. place-kept names b (λ a i. same a b i h))

-- what becomes of an outline whose names are replaced in the roles that the walks look at
pub record Renames {N M : Type 0} (f : N → M) (view : Outline N → Outline M) : Type 0 where
  pub defines : (o : Outline N) → (view o).defines ≡ option_map f o.defines
  pub uses : (o : Outline N) → (view o).uses ≡ uses_renamed f o.uses
  pub calls : (o : Outline N) → (view o).calls ≡ option_map f o.calls
  pub leads_to : (o : Outline N) → (view o).leads_to ≡ map f o.leads_to

module _ {N M : Type 0} (f : N → M) (view : Outline N → Outline M) where
  abbrev pub block_viewed : BlockOutline N → BlockOutline M
  block_viewed block = record { name = f block.name; insts = map view block.insts }

  abbrev pub body_viewed : BodyOutline N → BodyOutline M
  body_viewed body = record { params = map f body.params; blocks = map block_viewed body.blocks }

  pub names-viewed : (body : BodyOutline N) → block_names (body_viewed body) ≡ map f (block_names body)
  names-viewed body =
      map-map (λ (b : BlockOutline M). b.name) block_viewed body.blocks ∙ sym (map-map f (λ (b : BlockOutline N). b.name) body.blocks)

  module _ (renames : Renames f view) where
    target-viewed : (o : Option (Outline N)) → option_map_or (λ (p : Outline M). p.leads_to) (option_map view o) [] ≡ map f (option_map_or (λ (p : Outline N). p.leads_to) o [])
    target-viewed None = refl
    target-viewed (Some o) = renames.leads_to o

    pub targets-viewed : (block : BlockOutline N) → targets_of (block_viewed block) ≡ map f (targets_of block)
    targets-viewed block =
        ap (λ n. option_map_or (λ (p : Outline M). p.leads_to) (slice_get (map view block.insts) (n - 1)) []) (length-map view block.insts)
        ∙ ap (λ o. option_map_or (λ (p : Outline M). p.leads_to) o []) (slice_get-map view block.insts (length block.insts - 1))
        ∙ target-viewed (slice_get block.insts (length block.insts - 1))

    module _ (eq : N → N → Bool) (new_eq : M → M → Bool) (body : BodyOutline N) where
      edges-viewed : ((block : BlockOutline N) → Contains body.blocks block → KeepsEqual eq new_eq f (block_names body) (targets_of block)) → edges_of new_eq (body_viewed body) ≡ edges_of eq body
      edges-viewed same =
          map-map (λ b. places_of new_eq (block_names (body_viewed body)) (targets_of b)) block_viewed body.blocks
          ∙ map-alike (λ b. places_of new_eq (block_names (body_viewed body)) (targets_of (block_viewed b))) (λ b. places_of eq (block_names body) (targets_of b)) body.blocks
          (λ b h.
          ap (λ ns. places_of new_eq ns (targets_of (block_viewed b))) (names-viewed body)
          ∙ ap (places_of new_eq (map f (block_names body))) (targets-viewed b)
          ∙ places-kept eq new_eq f (block_names body) (targets_of b) (same b h))

      pub order-viewed : ((block : BlockOutline N) → Contains body.blocks block → KeepsEqual eq new_eq f (block_names body) (targets_of block)) → block_preorder new_eq (body_viewed body) ≡ block_preorder eq body
      unfolding block_preorder
      order-viewed same = ap (λ rows. preorder rows 0 []) (edges-viewed same)
