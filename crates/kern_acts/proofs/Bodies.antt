-- Programs of bodies are programs.
use Rattle.std.proofs.Common.{◌≡◌, ℕ, zero, suc, ◌-◌, ◌<◌, ◌≤◌, Bool, List, [], ◌∷◌, Some, None, length, refl, arith, inl, inr}
use Rattle.std.specs.Prelude.{Option, slice_get, ◌⊎◌}
use Rattle.std.specs.Option.{option_map_or}
use Rattle.std.proofs.lemmas.Bool.{cases_lt}
use Rattle.std.proofs.lemmas.Option.{slice_get_past}
use Rattle.inst_walk.specs.declared.body.Block.{Block}
use Rattle.inst_walk.specs.declared.body.Body.{Body}
use Rattle.kern_types.specs.Layouts.{◌>>=◌}
use Rattle.kern_acts.specs.Acts.{Act}
use Rattle.kern_acts.specs.States.{Frame, State}
use Rattle.kern_acts.specs.Steps.{IsProgram}
use Rattle.kern_acts.specs.Bodies.{insts_at, blocks_size, bodies_size, program_of}

module _ {I : Type 0} where
  -- what stands at a place of a list has a place below its length
  pub slice_get-lt : (xs : List I) (i : ℕ) (x : I) → slice_get xs i ≡ Some x → i < length xs
  slice_get-lt xs i x stands = by_less (cases_lt i (length xs))
    where
      by_less : (i < length xs) ⊎ (length xs ≤ i) → i < length xs
      by_less (inl lt) = lt
      by_less (inr le) = let past = slice_get_past xs i le in absurd cc

  left-falls : (act_of : I → Option Act) (position : ℕ) (act : Act) (found : Option (List I))
      → ((found >>= λ insts. slice_get insts position) >>= act_of) ≡ Some act
      → option_map_or (λ (insts : List I). length insts - suc position) found 0 < option_map_or (λ (insts : List I). length insts - position) found 0
  left-falls act_of position act None stands = absurd cc
  left-falls act_of position act (Some insts) stands = by_inst (slice_get insts position) refl stands
    where
      by_inst : (x : Option I) → slice_get insts position ≡ x → (x >>= act_of) ≡ Some act → length insts - suc position < length insts - position
      by_inst None at e = absurd cc
      by_inst (Some inst) at e = let lt = slice_get-lt insts position inst at in omega arith

  left-blocks : (blocks : List (Block I ℕ)) (place position : ℕ)
      → option_map_or (λ (insts : List I). length insts - position) (slice_get blocks place >>= λ (block : Block I ℕ). Some block.insts) 0 ≤ blocks_size blocks
  left-blocks [] place position = omega arith
  left-blocks (block ∷ blocks) zero position = omega arith
  left-blocks (block ∷ blocks) (suc place) position = let rest = left-blocks blocks place position in omega arith

  left-bodies : (bodies : List (Body I ℕ)) (function place position : ℕ)
      → option_map_or (λ (insts : List I). length insts - position)
      (slice_get bodies function >>= λ (body : Body I ℕ). slice_get body.blocks place >>= λ (block : Block I ℕ). Some block.insts) 0 ≤ bodies_size bodies
  left-bodies [] function place position = omega arith
  left-bodies (body ∷ bodies) zero place position = let rest = left-blocks body.blocks place position in omega arith
  left-bodies (body ∷ bodies) (suc function) place position = let rest = left-bodies bodies function place position in omega arith

  pub is-program : (bodies : List (Body I ℕ)) (is_placing : State → Bool) (act_of : State → Frame → I → Option Act) → IsProgram (program_of bodies is_placing act_of)
  is-program bodies is_placing act_of = record {
    falls = λ state frame act setting stands. left-falls (act_of state frame) frame.position act (insts_at bodies frame) stands;
    small = λ frame. left-bodies bodies frame.function frame.block frame.position;
  }
