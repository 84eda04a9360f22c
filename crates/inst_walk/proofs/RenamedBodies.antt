-- Bodies whose names are replaced.
use Rattle.std.proofs.Common.{◌≡◌, List, ◌∷◌, ◌++◌, Option, None, Some, get_or, refl, sym, ◌∙◌, ap}
use Rattle.std.specs.Prelude.{map, flat_map, All, Contains}
use Rattle.std.specs.Option.{option_map, option_to_list}
use Rattle.std.proofs.lemmas.List.{map-append}
use Rattle.std.proofs.lemmas.List.Elements.{All-contains, Contains-get_or, Contains-append_left, Contains-append_right}
use Rattle.std.proofs.lemmas.List.Folds.{flat_map-map}
use Rattle.inst_walk.specs.Body.{BlockOutline, BodyOutline, block_outline, body_outline, block_renamed, body_renamed, block_all_names, body_names}
use Rattle.inst_walk.specs.Outline.{Outline, Uses, Plain, Phi, values_of, parents_of, names_of, uses_renamed, outline_renamed}
use Rattle.inst_walk.specs.RenamedBody.{block_outline_renamed, body_outline_renamed}
use Rattle.inst_walk.specs.declared.body.Body.{Body}
use Rattle.inst_walk.specs.declared.body.Block.{Block}
use Rattle.inst_walk.proofs.BlockGraph.{map-map}
use Rattle.inst_walk.proofs.ListLemmas.{contains-head, contains-tail, contains-map, contains-flat_map, map-alike, flat_map-alike, map-flat_map, map-same}

module _ {I N : Type 0} (renamed : (N → N) → I → I) where
  module _ (twice : (f g : N → N) (inst : I) → renamed g (renamed f inst) ≡ renamed (λ name. g (f name)) inst) (f g : N → N) where
    block-twice : (block : Block I N) → block_renamed renamed g (block_renamed renamed f block) ≡ block_renamed renamed (λ name. g (f name)) block
    block-twice block =
        ap (λ (insts : List I). let b : Block I N = record { name = g (f block.name); insts = insts } in b)
        (map-map (renamed g) (renamed f) block.insts
        ∙ map-alike (λ inst. renamed g (renamed f inst)) (renamed (λ name. g (f name))) block.insts (λ inst h. twice f g inst))

    pub body-twice : (body : Body I N) → body_renamed renamed g (body_renamed renamed f body) ≡ body_renamed renamed (λ name. g (f name)) body
    body-twice body =
        ap (λ (params : List N). let b : Body I N = record { params = params; blocks = map (block_renamed renamed g) (map (block_renamed renamed f) body.blocks) } in b) (map-map g f body.params)
        ∙ ap (λ (blocks : List (Block I N)). let b : Body I N = record { params = map (λ name. g (f name)) body.params; blocks = blocks } in b)
        (map-map (block_renamed renamed g) (block_renamed renamed f) body.blocks
        ∙ map-alike (λ b. block_renamed renamed g (block_renamed renamed f b)) (block_renamed renamed (λ name. g (f name))) body.blocks (λ b h. block-twice b))

  -- nothing changes where no name does
  module _ (same : (inst : I) → renamed (λ name. name) inst ≡ inst) where
    block-same : (block : Block I N) → block_renamed renamed (λ name. name) block ≡ block
    block-same block =
        ap (λ (insts : List I). let b : Block I N = record { name = block.name; insts = insts } in b) (map-same (renamed (λ name. name)) block.insts (λ inst h. same inst))

    body-same : (body : Body I N) → body_renamed renamed (λ name. name) body ≡ body
    body-same body =
        ap (λ (params : List N). let b : Body I N = record { params = params; blocks = map (block_renamed renamed (λ name. name)) body.blocks } in b) (map-same (λ name. name) body.params (λ name h. refl))
        ∙ ap (λ (blocks : List (Block I N)). let b : Body I N = record { params = body.params; blocks = blocks } in b)
        (map-same (block_renamed renamed (λ name. name)) body.blocks (λ b h. block-same b))

  module _ (outline : I → Outline N) where
    -- what holds of every name of a body holds of each name in it
    module _ (P : N → Type 0) (body : Body I N) (all : All P (body_names (body_outline outline body))) where
      of-param : (name : N) → Contains body.params name → P name
      of-param name h =
          All-contains P (body_names (body_outline outline body)) name all
          (Contains-append_left body.params (flat_map block_all_names (map (block_outline outline) body.blocks)) name h)

      of-block : (block : Block I N) (name : N) → Contains body.blocks block → Contains (block_all_names (block_outline outline block)) name → P name
      of-block block name b h =
          All-contains P (body_names (body_outline outline body)) name all
          (Contains-append_right body.params (flat_map block_all_names (map (block_outline outline) body.blocks)) name
          (contains-flat_map block_all_names (map (block_outline outline) body.blocks) (block_outline outline block) name
          (contains-map (block_outline outline) body.blocks block b) h))

      of-name : (block : Block I N) → Contains body.blocks block → P block.name
      of-name block b = of-block block block.name b (contains-head block.name (flat_map names_of (map outline block.insts)))

      of-inst : (block : Block I N) (inst : I) → Contains body.blocks block → Contains block.insts inst → All P (names_of (outline inst))
      of-inst block inst b i k d below =
          of-block block (get_or (names_of (outline inst)) k d) b
          (contains-tail block.name (get_or (names_of (outline inst)) k d) (flat_map names_of (map outline block.insts))
          (contains-flat_map names_of (map outline block.insts) (outline inst) (get_or (names_of (outline inst)) k d)
          (contains-map outline block.insts inst i) (Contains-get_or (names_of (outline inst)) k d below)))

    module _ (alike : (f g : N → N) (inst : I) → All (λ name. f name ≡ g name) (names_of (outline inst)) → renamed f inst ≡ renamed g inst) where
      module _ (f g : N → N) (body : Body I N) (all : All (λ name. f name ≡ g name) (body_names (body_outline outline body))) where
        block-alike : (block : Block I N) → Contains body.blocks block → block_renamed renamed f block ≡ block_renamed renamed g block
        block-alike block b =
            ap (λ (name : N). let r : Block I N = record { name = name; insts = map (renamed f) block.insts } in r) (of-name (λ name. f name ≡ g name) body all block b)
            ∙ ap (λ (insts : List I). let r : Block I N = record { name = g block.name; insts = insts } in r)
            (map-alike (renamed f) (renamed g) block.insts (λ inst i. alike f g inst (of-inst (λ name. f name ≡ g name) body all block inst b i)))

        pub body-alike : body_renamed renamed f body ≡ body_renamed renamed g body
        body-alike =
            ap (λ (params : List N). let b : Body I N = record { params = params; blocks = map (block_renamed renamed f) body.blocks } in b)
            (map-alike f g body.params (λ name h. of-param (λ name. f name ≡ g name) body all name h))
            ∙ ap (λ (blocks : List (Block I N)). let b : Body I N = record { params = map g body.params; blocks = blocks } in b)
            (map-alike (block_renamed renamed f) (block_renamed renamed g) body.blocks (λ b h. block-alike b h))

      pub body-kept : ((inst : I) → renamed (λ name. name) inst ≡ inst) → (f : N → N) (body : Body I N) → All (λ name. f name ≡ name) (body_names (body_outline outline body)) → body_renamed renamed f body ≡ body
      body-kept same f body all = body-alike f (λ name. name) body all ∙ body-same same body

    -- what the walks see of a renamed body
    module _ (seen : (f : N → N) (inst : I) → outline (renamed f inst) ≡ outline_renamed f (outline inst)) (f : N → N) where
      block-seen : (block : Block I N) → block_outline outline (block_renamed renamed f block) ≡ block_outline_renamed f (block_outline outline block)
      block-seen block =
          ap (λ (insts : List (Outline N)). let b : BlockOutline N = record { name = f block.name; insts = insts } in b)
          (map-map outline (renamed f) block.insts
          ∙ map-alike (λ inst. outline (renamed f inst)) (λ inst. outline_renamed f (outline inst)) block.insts (λ inst h. seen f inst)
          ∙ sym (map-map (outline_renamed f) outline block.insts))

      pub body-seen : (body : Body I N) → body_outline outline (body_renamed renamed f body) ≡ body_outline_renamed f (body_outline outline body)
      body-seen body =
          ap (λ (blocks : List (BlockOutline N)). let b : BodyOutline N = record { params = map f body.params; blocks = blocks } in b)
          (map-map (block_outline outline) (block_renamed renamed f) body.blocks
          ∙ map-alike (λ b. block_outline outline (block_renamed renamed f b)) (λ b. block_outline_renamed f (block_outline outline b)) body.blocks (λ b h. block-seen b)
          ∙ sym (map-map (block_outline_renamed f) (block_outline outline) body.blocks))

-- the names of what is renamed are the renamed names
module _ {N M : Type 0} (f : N → M) where
  option-names : (o : Option N) → map f (option_to_list o) ≡ option_to_list (option_map f o)
  option-names None = refl
  option-names (Some name) = refl

  values-names : (uses : Uses N) → map f (values_of uses) ≡ values_of (uses_renamed f uses)
  values-names (Plain values) = refl
  values-names (Phi entries) = map-map f (λ (e : N × N). e.0) entries ∙ sym (map-map (λ (e : M × M). e.0) (λ (e : N × N). (f e.0, f e.1)) entries)

  parents-names : (uses : Uses N) → map f (parents_of uses) ≡ parents_of (uses_renamed f uses)
  parents-names (Plain values) = refl
  parents-names (Phi entries) = map-map f (λ (e : N × N). e.1) entries ∙ sym (map-map (λ (e : M × M). e.1) (λ (e : N × N). (f e.0, f e.1)) entries)

  joined : (xs ys : List N) (us vs : List M) → map f xs ≡ us → map f ys ≡ vs → map f (xs ++ ys) ≡ us ++ vs
  joined xs ys us vs x y = map-append f xs ys ∙ ap (λ l. l ++ map f ys) x ∙ ap (λ l. us ++ l) y

  outline-names : (o : Outline N) → map f (names_of o) ≡ names_of (outline_renamed f o)
  outline-names o =
      joined _ _ _ _ (option-names o.defines)
      (joined _ _ _ _ (values-names o.uses)
      (joined _ _ _ _ (parents-names o.uses)
      (joined _ _ _ _ (option-names o.calls)
      (joined o.leads_to o.others _ _ refl refl))))

  block-names : (block : BlockOutline N) → map f (block_all_names block) ≡ block_all_names (block_outline_renamed f block)
  block-names block =
      ap (λ l. f block.name ∷ l)
      (map-flat_map f names_of block.insts
      ∙ flat_map-alike (λ o. map f (names_of o)) (λ o. names_of (outline_renamed f o)) block.insts (λ o h. outline-names o)
      ∙ sym (flat_map-map names_of (outline_renamed f) block.insts))

  pub body-names : (body : BodyOutline N) → body_names (body_outline_renamed f body) ≡ map f (body_names body)
  body-names body = sym (
      joined body.params (flat_map block_all_names body.blocks) (map f body.params) _ refl
      (map-flat_map f block_all_names body.blocks
      ∙ flat_map-alike (λ b. map f (block_all_names b)) (λ b. block_all_names (block_outline_renamed f b)) body.blocks (λ b h. block-names b)
      ∙ sym (flat_map-map block_all_names (block_outline_renamed f) body.blocks)))
