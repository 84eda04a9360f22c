-- What the walks see of a body, and the graph of its blocks.
use Rattle.std.specs.Prelude.{ℕ, ◌-◌, Bool, List, [], ◌∷◌, ◌++◌, length, map, flat_map, slice_get}
use Rattle.std.specs.Option.{option_map_or}
use Rattle.graph_walk.specs.Preorder.{preorder}
use Rattle.inst_walk.specs.Outline.{Outline, names_of}
use Rattle.inst_walk.specs.Places.{places_of}
use Rattle.inst_walk.specs.declared.body.Body.{Body}
use Rattle.inst_walk.specs.declared.body.Block.{Block}

pub record BlockOutline (N : Type 0) : Type 0 where
  pub name : N
  pub insts : List (Outline N)

pub record BodyOutline (N : Type 0) : Type 0 where
  pub params : List N
  pub blocks : List (BlockOutline N)

module _ {I N : Type 0} (outline : I → Outline N) where
  abbrev pub block_outline : Block I N → BlockOutline N
  block_outline block = record { name = block.name; insts = map outline block.insts }

  abbrev pub body_outline : Body I N → BodyOutline N
  body_outline body = record { params = body.params; blocks = map block_outline body.blocks }

module _ {N : Type 0} where
  -- the blocks that the terminator may lead to, none where the block has no instruction
  abbrev pub targets_of : BlockOutline N → List N
  targets_of block = option_map_or (λ (o : Outline N). o.leads_to) (slice_get block.insts (length block.insts - 1)) []

  abbrev pub block_names : BodyOutline N → List N
  block_names body = map (λ (b : BlockOutline N). b.name) body.blocks

  -- for each block, in order, the places of the blocks that its terminator may lead to
  abbrev pub edges_of : (N → N → Bool) → BodyOutline N → List (List ℕ)
  edges_of eq body = map (λ b. places_of eq (block_names body) (targets_of b)) body.blocks

  -- the places of the blocks that can be reached from the first, in depth-first preorder
  unfoldable pub block_preorder : (N → N → Bool) → BodyOutline N → List ℕ
  block_preorder eq body = preorder (edges_of eq body) 0 []

module _ {I N : Type 0} (renamed : (N → N) → I → I) (f : N → N) where
  abbrev pub block_renamed : Block I N → Block I N
  block_renamed block = record { name = f block.name; insts = map (renamed f) block.insts }

  -- every name of the body replaced
  abbrev pub body_renamed : Body I N → Body I N
  body_renamed body = record { params = map f body.params; blocks = map block_renamed body.blocks }

module _ {N : Type 0} where
  abbrev pub block_all_names : BlockOutline N → List N
  block_all_names block = block.name ∷ flat_map names_of block.insts

  -- every name that the body holds
  abbrev pub body_names : BodyOutline N → List N
  body_names body = body.params ++ flat_map block_all_names body.blocks
