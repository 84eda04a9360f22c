-- Which functions call which, and the calls that lie on cycles.
use Rattle.std.specs.Prelude.{ℕ, Bool, false, List, Option, map, flat_map, filter_map}
use Rattle.std.specs.List.{position_from}
use Rattle.std.specs.Option.{option_map, option_map_or}
use Rattle.graph_walk.specs.Preorder.{reaches}
use Rattle.inst_walk.specs.Body.{BlockOutline, BodyOutline}
use Rattle.inst_walk.specs.First.{first_from}
use Rattle.inst_walk.specs.Outline.{Outline}
use Rattle.inst_walk.specs.Places.{place_of, places_of}

module _ {N : Type 0} where
  -- the functions that the block's instructions call, in order
  abbrev pub block_callees : BlockOutline N → List N
  block_callees block = filter_map (λ (o : Outline N). o.calls) block.insts

  abbrev pub callees_of : BodyOutline N → List N
  callees_of body = flat_map block_callees body.blocks

module _ {N : Type 0} (eq : N → N → Bool) where
  -- for each body, in order, the places of the functions that it calls, where they are among the names
  abbrev pub calls_of : List N → List (BodyOutline N) → List (List ℕ)
  calls_of names bodies = map (λ body. places_of eq names (callees_of body)) bodies

  -- whether the callee is the caller or leads to it
  abbrev pub is_cycle_call : List (List ℕ) → List N → ℕ → N → Bool
  is_cycle_call calls names caller callee =
      option_map_or (λ place. reaches calls place caller) (place_of eq names callee) false

  abbrev pub has_cycle_call : List (List ℕ) → List N → ℕ → Outline N → Bool
  has_cycle_call calls names caller o = option_map_or (is_cycle_call calls names caller) o.calls false

  abbrev pub first_in_block : List (List ℕ) → List N → ℕ → BlockOutline N → Option ℕ
  first_in_block calls names caller block = position_from (has_cycle_call calls names caller) 0 block.insts

  abbrev pub first_in_body : List (List ℕ) → List N → ℕ → BodyOutline N → Option (ℕ × ℕ)
  first_in_body calls names caller body = first_from (λ _ block. first_in_block calls names caller block) 0 body.blocks

  -- function, block and instruction of the first call that lies on a cycle of calls
  unfoldable pub first_cycle_call : List N → List (BodyOutline N) → Option (ℕ × ℕ × ℕ)
  first_cycle_call names bodies =
      option_map (λ (p : ℕ × (ℕ × ℕ)). (p.0, p.1.0, p.1.1)) (first_from (first_in_body (calls_of names bodies) names) 0 bodies)
