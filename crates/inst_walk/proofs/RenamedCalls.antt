-- The first call on a cycle is where it was.
use Rattle.std.proofs.Common.{◌≡◌, ℕ, Bool, false, List, Option, None, Some, refl, sym, ◌∙◌, ap}
use Rattle.std.specs.Prelude.{map, Contains}
use Rattle.std.specs.Option.{option_map, option_map_or}
use Rattle.std.proofs.lemmas.List.Folds.{flat_map-map}
use Rattle.graph_walk.specs.Preorder.{reaches}
use Rattle.inst_walk.specs.Body.{BlockOutline, BodyOutline}
use Rattle.inst_walk.specs.Calls.{block_callees, callees_of, calls_of, is_cycle_call, has_cycle_call, first_in_block, first_in_body, first_cycle_call}
use Rattle.inst_walk.specs.First.{first_from}
use Rattle.inst_walk.specs.Outline.{Outline}
use Rattle.inst_walk.specs.Places.{place_of, places_of}
use Rattle.inst_walk.proofs.BlockGraph.{map-map}
use Rattle.inst_walk.proofs.CallsLemmas.{filter_map-map}
use Rattle.inst_walk.proofs.ListLemmas.{contains-flat_map, contains-filter_map, map-alike, flat_map-alike, map-flat_map, map-filter_map, filter_map-alike, position-map, first-map}
use Rattle.inst_walk.proofs.RenamedWalks.{Renames, block_viewed, body_viewed}

module _ {N M : Type 0} (f : N → M) (view : Outline N → Outline M) (renames : Renames f view) where
  callees-in-block : (block : BlockOutline N) → block_callees (block_viewed f view block) ≡ map f (block_callees block)
  callees-in-block block =
      filter_map-map (λ (o : Outline M). o.calls) view block.insts
      ∙ filter_map-alike (λ o. (view o).calls) (λ (o : Outline N). option_map f o.calls) block.insts (λ o h. renames.calls o)
      ∙ sym (map-filter_map f (λ (o : Outline N). o.calls) block.insts)

  callees-viewed : (body : BodyOutline N) → callees_of (body_viewed f view body) ≡ map f (callees_of body)
  callees-viewed body =
      flat_map-map block_callees (block_viewed f view) body.blocks
      ∙ flat_map-alike (λ b. block_callees (block_viewed f view b)) (λ b. map f (block_callees b)) body.blocks (λ b h. callees-in-block b)
      ∙ sym (map-flat_map f block_callees body.blocks)

  module _ (calls : List (List ℕ)) (names : List N) (new_names : List M) (eq : N → N → Bool) (new_eq : M → M → Bool) (caller : ℕ) where
    call-kept : (callee : Option N) → ((name : N) → callee ≡ Some name → place_of new_eq new_names (f name) ≡ place_of eq names name) → option_map_or (is_cycle_call new_eq calls new_names caller) (option_map f callee) false ≡ option_map_or (is_cycle_call eq calls names caller) callee false
    call-kept None same = refl
    call-kept (Some name) same = ap (λ o. option_map_or (λ place. reaches calls place caller) o false) (same name refl)

    body-viewed : (body : BodyOutline N) → ((name : N) → Contains (callees_of body) name → place_of new_eq new_names (f name) ≡ place_of eq names name) → first_in_body new_eq calls new_names caller (body_viewed f view body) ≡ first_in_body eq calls names caller body
    body-viewed body same =
        first-map (block_viewed f view) (λ _ block. first_in_block new_eq calls new_names caller block) (λ _ block. first_in_block eq calls names caller block) 0 body.blocks
        (λ place block b.
        position-map view (has_cycle_call new_eq calls new_names caller) (has_cycle_call eq calls names caller) 0 block.insts
        (λ o h.
        ap (λ c. option_map_or (is_cycle_call new_eq calls new_names caller) c false) (renames.calls o)
        ∙ call-kept o.calls (λ name e. same name (contains-flat_map block_callees body.blocks block name b (contains-filter_map (λ (p : Outline N). p.calls) block.insts o name h e)))))

module _ {N M : Type 0} (eq : N → N → Bool) (new_eq : M → M → Bool) (names : List N) (new_names : List M) where
  places-alike : (f : N → M) (wanted : List N) → ((name : N) → Contains wanted name → place_of new_eq new_names (f name) ≡ place_of eq names name) → places_of new_eq new_names (map f wanted) ≡ places_of eq names wanted
  places-alike f wanted same =
      filter_map-map (place_of new_eq new_names) f wanted
      ∙ filter_map-alike (λ b. place_of new_eq new_names (f b)) (place_of eq names) wanted same

  -- each body may have a renaming of its own, as long as its callees keep their places
  module _ {B : Type 0} (shown : B → BodyOutline N) (f : B → N → M) (view : B → Outline N → Outline M) (renames : (b : B) → Renames (f b) (view b)) (bodies : List B) (same : (b : B) (name : N) → Contains bodies b → Contains (callees_of (shown b)) name → place_of new_eq new_names (f b name) ≡ place_of eq names name) where
    calls-viewed : calls_of new_eq new_names (map (λ b. body_viewed (f b) (view b) (shown b)) bodies) ≡ calls_of eq names (map shown bodies)
    calls-viewed =
        map-map (λ body. places_of new_eq new_names (callees_of body)) (λ b. body_viewed (f b) (view b) (shown b)) bodies
        ∙ map-alike (λ b. places_of new_eq new_names (callees_of (body_viewed (f b) (view b) (shown b)))) (λ b. places_of eq names (callees_of (shown b))) bodies
        (λ b h.
        ap (places_of new_eq new_names) (callees-viewed (f b) (view b) (renames b) (shown b))
        ∙ places-alike (f b) (callees_of (shown b)) (λ name i. same b name h i))
        ∙ sym (map-map (λ body. places_of eq names (callees_of body)) shown bodies)

    found-viewed : (calls : List (List ℕ)) → first_from (first_in_body new_eq calls new_names) 0 (map (λ b. body_viewed (f b) (view b) (shown b)) bodies) ≡ first_from (first_in_body eq calls names) 0 (map shown bodies)
    found-viewed calls =
        first-map (λ b. body_viewed (f b) (view b) (shown b)) (first_in_body new_eq calls new_names) (λ caller b. first_in_body eq calls names caller (shown b)) 0 bodies
        (λ caller b h. body-viewed (f b) (view b) (renames b) calls names new_names eq new_eq caller (shown b) (λ name i. same b name h i))
        ∙ sym (first-map shown (first_in_body eq calls names) (λ caller b. first_in_body eq calls names caller (shown b)) 0 bodies (λ caller b h. refl))

    pub first_call-viewed : first_cycle_call new_eq new_names (map (λ b. body_viewed (f b) (view b) (shown b)) bodies) ≡ first_cycle_call eq names (map shown bodies)
    unfolding first_cycle_call
    first_call-viewed =
        ap (option_map (λ (p : ℕ × (ℕ × ℕ)). (p.0, p.1.0, p.1.1)))
        (ap (λ calls. first_from (first_in_body new_eq calls new_names) 0 (map (λ b. body_viewed (f b) (view b) (shown b)) bodies)) calls-viewed
        ∙ found-viewed (calls_of eq names (map shown bodies)))
