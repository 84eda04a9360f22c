-- Programs of bodies whose instructions are changed one for one.
use Rattle.std.proofs.Common.{◌≡◌, ℕ, zero, suc, ◌+◌, ◌-◌, Bool, List, [], ◌∷◌, Some, None, map, length, slice_get, option_map, ◌∙◌, ap, ap₂, refl}
use Rattle.std.specs.Prelude.{Option}
use Rattle.std.specs.Option.{option_map_or}
use Rattle.std.proofs.lemmas.List.{length-map}
use Rattle.inst_walk.specs.declared.body.Block.{Block}
use Rattle.inst_walk.specs.declared.body.Body.{Body}
use Rattle.kern_types.specs.Layouts.{◌>>=◌}
use Rattle.kern_acts.specs.Acts.{Act}
use Rattle.kern_acts.specs.States.{Frame, State}
use Rattle.kern_acts.specs.Bodies.{insts_at, inst_at, left_in, blocks_size, bodies_size, program_of}

pub slice_get-map : {A B : Type 0} (f : A → B) (xs : List A) (i : ℕ) → slice_get (map f xs) i ≡ option_map f (slice_get xs i)
slice_get-map f [] i = refl
slice_get-map f (x ∷ xs) zero = refl
slice_get-map f (x ∷ xs) (suc i) = slice_get-map f xs i

module _ {I : Type 0} (change : I → I) (block_change : Block I ℕ → Block I ℕ) (body_change : Body I ℕ → Body I ℕ)
    (blocks_are : (body : Body I ℕ) → (body_change body).blocks ≡ map block_change body.blocks)
    (insts_are : (block : Block I ℕ) → (block_change block).insts ≡ map change block.insts) where
  insts-changed : (bodies : List (Body I ℕ)) (frame : Frame) → insts_at (map body_change bodies) frame ≡ option_map (map change) (insts_at bodies frame)
  insts-changed bodies frame =
      ap (λ x. x >>= λ (body : Body I ℕ). slice_get body.blocks frame.block >>= λ (block : Block I ℕ). Some block.insts) (slice_get-map body_change bodies frame.function)
      ∙ by_body (slice_get bodies frame.function)
    where
      by_block : (x : Option (Block I ℕ)) → (option_map block_change x >>= λ (block : Block I ℕ). Some block.insts) ≡ option_map (map change) (x >>= λ (block : Block I ℕ). Some block.insts)
      by_block None = refl
      by_block (Some block) = ap Some (insts_are block)

      by_body : (x : Option (Body I ℕ))
          → (option_map body_change x >>= λ (body : Body I ℕ). slice_get body.blocks frame.block >>= λ (block : Block I ℕ). Some block.insts)
          ≡ option_map (map change) (x >>= λ (body : Body I ℕ). slice_get body.blocks frame.block >>= λ (block : Block I ℕ). Some block.insts)
      by_body None = refl
      by_body (Some body) =
          ap (λ blocks. slice_get blocks frame.block >>= λ (block : Block I ℕ). Some block.insts) (blocks_are body)
          ∙ (ap (λ x. x >>= λ (block : Block I ℕ). Some block.insts) (slice_get-map block_change body.blocks frame.block) ∙ by_block (slice_get body.blocks frame.block))

  act-changed : (bodies : List (Body I ℕ)) (frame : Frame) (act other : I → Option Act) → ((i : I) → act (change i) ≡ other i)
      → (inst_at (map body_change bodies) frame >>= act) ≡ (inst_at bodies frame >>= other)
  act-changed bodies frame act other same =
      ap (λ x. (x >>= λ insts. slice_get insts frame.position) >>= act) (insts-changed bodies frame) ∙ by_insts (insts_at bodies frame)
    where
      by_inst : (x : Option I) → (option_map change x >>= act) ≡ (x >>= other)
      by_inst None = refl
      by_inst (Some i) = same i

      by_insts : (x : Option (List I)) → ((option_map (map change) x >>= λ insts. slice_get insts frame.position) >>= act) ≡ ((x >>= λ insts. slice_get insts frame.position) >>= other)
      by_insts None = refl
      by_insts (Some insts) = ap (λ x. x >>= act) (slice_get-map change insts frame.position) ∙ by_inst (slice_get insts frame.position)

  left-changed : (bodies : List (Body I ℕ)) (frame : Frame) → left_in (map body_change bodies) frame ≡ left_in bodies frame
  left-changed bodies frame =
      ap (λ x. option_map_or (λ (insts : List I). length insts - frame.position) x 0) (insts-changed bodies frame) ∙ by_insts (insts_at bodies frame)
    where
      by_insts : (x : Option (List I)) → option_map_or (λ (insts : List I). length insts - frame.position) (option_map (map change) x) 0 ≡ option_map_or (λ (insts : List I). length insts - frame.position) x 0
      by_insts None = refl
      by_insts (Some insts) = ap (λ n. n - frame.position) (length-map insts change)

  blocks-changed : (blocks : List (Block I ℕ)) → blocks_size (map block_change blocks) ≡ blocks_size blocks
  blocks-changed [] = refl
  blocks-changed (block ∷ blocks) = ap₂ (λ a b. a + b) (ap length (insts_are block) ∙ length-map block.insts change) (blocks-changed blocks)

  pub size-changed : (bodies : List (Body I ℕ)) → bodies_size (map body_change bodies) ≡ bodies_size bodies
  size-changed [] = refl
  size-changed (body ∷ bodies) = ap₂ (λ a b. a + b) (ap blocks_size (blocks_are body) ∙ blocks-changed body.blocks) (size-changed bodies)

  -- the same program, where the changed instructions do the same
  pub program-changed : (bodies : List (Body I ℕ)) (is_placing other_placing : State → Bool) (act other : State → Frame → I → Option Act)
      → ((s : State) → is_placing s ≡ other_placing s) → ((s : State) (frame : Frame) (i : I) → act s frame (change i) ≡ other s frame i)
      → program_of (map body_change bodies) is_placing act ≡ program_of bodies other_placing other
  program-changed bodies is_placing other_placing act other placing same =
      let acts : (λ (s : State) (frame : Frame). inst_at (map body_change bodies) frame >>= act s frame) ≡ (λ (s : State) (frame : Frame). inst_at bodies frame >>= other s frame) =
      λ j s frame. act-changed bodies frame (act s frame) (other s frame) (same s frame) j in
      let lefts : left_in (map body_change bodies) ≡ left_in bodies = λ j frame. left-changed bodies frame j in
      λ j. record { is_placing = λ s. placing s j; act = acts j; left = lefts j; size = size-changed bodies j }
