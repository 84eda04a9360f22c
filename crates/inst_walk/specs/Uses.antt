-- The uses of names that nothing above defines.
use Rattle.std.specs.Prelude.{ℕ, ◌+◌, Bool, not, ◌&&◌, ◌==◌, if◌then◌else◌, List, [], ◌∷◌, ◌++◌, Option, None, Some, map, flat_map, filter_map, length, take, slice_get}
use Rattle.std.specs.List.{list_any}
use Rattle.std.specs.Option.{option_map, option_map_or}
use Rattle.graph_walk.specs.Preorder.{is_seen}
use Rattle.inst_walk.specs.Body.{BlockOutline, BodyOutline}
use Rattle.inst_walk.specs.First.{first_from, position_at}
use Rattle.inst_walk.specs.Outline.{Outline, Uses, Plain, Phi}
use Rattle.inst_walk.specs.Places.{is_among}

module _ {N : Type 0} where
  -- each named value that is taken, and the predecessor for which a phi takes it
  abbrev pub takings_of : Uses N → List (N × Option N)
  takings_of (Plain values) = map (λ value. (value, None)) values
  takings_of (Phi entries) = map (λ e. (e.0, Some e.1)) entries

  -- the names that the instructions give their values, in order
  abbrev pub results_of : List (Outline N) → List N
  results_of insts = filter_map (λ (o : Outline N). o.defines) insts

  -- what the block at a place defines
  abbrev pub defined_at : BodyOutline N → ℕ → List N
  defined_at body place = option_map_or (λ (b : BlockOutline N). results_of b.insts) (slice_get body.blocks place) []

  -- every name that the body defines
  abbrev pub defined_names : BodyOutline N → List N
  defined_names body = body.params ++ flat_map (λ (b : BlockOutline N). results_of b.insts) body.blocks

  -- the names that the body defines in the blocks of the order, and its parameters
  abbrev pub reached_names : BodyOutline N → List ℕ → List N
  reached_names body order = body.params ++ flat_map (defined_at body) order

  -- the names of the blocks of the order
  abbrev pub reached_labels : BodyOutline N → List ℕ → List N
  reached_labels body order = filter_map (λ place. option_map (λ (b : BlockOutline N). b.name) (slice_get body.blocks place)) order

-- the blocks that stand before the first `place` in the order
abbrev pub blocks_above : List ℕ → ℕ → List ℕ
blocks_above [] place = []
blocks_above (p ∷ order) place = if p == place then [] else p ∷ blocks_above order place

module _ {N : Type 0} where
  -- what stands above instruction i of the block at the place, in the order of the blocks
  abbrev pub names_above : BodyOutline N → List ℕ → ℕ → List (Outline N) → ℕ → List N
  names_above body order place insts i = reached_names body (blocks_above order place) ++ results_of (take i insts)

module _ {N : Type 0} (eq : N → N → Bool) where
  -- defined by the body, but not among these names
  abbrev pub is_missed : List N → List N → N → Bool
  is_missed defined names name = is_among eq defined name && not (is_among eq names name)

  -- A plain use breaks the rule where nothing above defines the name. A phi's breaks it where it comes
  -- from a reachable block and only blocks that aren't reachable define the name.
  abbrev pub breaks_use : List N → List N → List N → List N → N × Option N → Bool
  breaks_use labels defined reached above (value, None) = is_missed defined above value
  breaks_use labels defined reached above (value, Some parent) =
      is_among eq labels parent && is_missed defined reached value

  abbrev pub breaks_rule : List N → List N → List N → List N → Outline N → Bool
  breaks_rule labels defined reached above o = list_any (breaks_use labels defined reached above) (takings_of o.uses)

  module _ (body : BodyOutline N) (order : List ℕ) where
    abbrev pub first_break_in : ℕ → BlockOutline N → Option ℕ
    first_break_in place block =
        if is_seen order place
        then position_at (λ i o. breaks_rule (reached_labels body order) (defined_names body) (reached_names body order) (names_above body order place block.insts i) o) 0 block.insts
        else None

    -- the first block and instruction, as they stand in the body, that take a name which nothing above defines
    unfoldable pub first_use_break : Option (ℕ × ℕ)
    first_use_break = first_from first_break_in 0 body.blocks

module _ {N : Type 0} where
  -- how many of the reached names stand above the block, where the order has it
  abbrev pub start_of : BodyOutline N → List ℕ → ℕ → Option ℕ
  start_of body order place =
      if is_seen order place then Some (length (reached_names body (blocks_above order place))) else None

  -- the test of a block's instructions, where `start` of the reached names stand above the block
  abbrev pub limited_test : (N → N → Bool) → List N → List N → List N → ℕ → List (Outline N) → ℕ → Outline N → Bool
  limited_test eq labels defined reached start insts i o =
      breaks_rule eq labels defined reached (take (start + length (results_of (take i insts))) reached) o
