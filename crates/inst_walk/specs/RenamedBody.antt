-- What the walks see of a body whose names were replaced, and when that changes nothing that they find.
use Rattle.std.specs.Prelude.{◌≡◌, List, [], ◌++◌, map, flat_map, Contains}
use Rattle.inst_walk.specs.Body.{BlockOutline, BodyOutline, block_names}
use Rattle.inst_walk.specs.Outline.{Outline, values_of, parents_of, outline_renamed}
use Rattle.inst_walk.specs.Uses.{defined_names}

module _ {N M : Type 0} (f : N → M) where
  abbrev pub block_outline_renamed : BlockOutline N → BlockOutline M
  block_outline_renamed block = record { name = f block.name; insts = map (outline_renamed f) block.insts }

  -- every name of the body replaced
  abbrev pub body_outline_renamed : BodyOutline N → BodyOutline M
  body_outline_renamed body = record { params = map f body.params; blocks = map block_outline_renamed body.blocks }

  -- no two of the names become one
  abbrev pub IsInjectiveOn : List N → Type 0
  IsInjectiveOn names = (a b : N) → Contains names a → Contains names b → f a ≡ f b → a ≡ b

module _ {N : Type 0} where
  -- the blocks that the instruction names
  abbrev pub labels_of : Outline N → List N
  labels_of o = parents_of o.uses ++ o.leads_to

  -- the blocks of the body, and those that its instructions name
  abbrev pub label_names : BodyOutline N → List N
  label_names body = block_names body ++ flat_map (λ (b : BlockOutline N). flat_map labels_of b.insts) body.blocks

  -- what the body defines, and the values that its instructions take
  abbrev pub value_names : BodyOutline N → List N
  value_names body =
      defined_names body ++ flat_map (λ (b : BlockOutline N). flat_map (λ (o : Outline N). values_of o.uses) b.insts) body.blocks

  -- the outline without the names that no walk looks at
  abbrev pub without_others : Outline N → Outline N
  without_others o = record { defines = o.defines; uses = o.uses; calls = o.calls; leads_to = o.leads_to; others = [] }

  abbrev pub block_without_others : BlockOutline N → BlockOutline N
  block_without_others block = record { name = block.name; insts = map without_others block.insts }

  abbrev pub body_without_others : BodyOutline N → BodyOutline N
  body_without_others body = record { params = body.params; blocks = map block_without_others body.blocks }
