-- Programs whose instructions stand in the bodies of functions, whatever the instructions are.
use Rattle.std.specs.Prelude.{ℕ, ◌+◌, ◌-◌, Bool, List, [], ◌∷◌, length, slice_get, Option, Some}
use Rattle.std.specs.Option.{option_map_or}
use Rattle.inst_walk.specs.declared.body.Block.{Block}
use Rattle.inst_walk.specs.declared.body.Body.{Body}
use Rattle.kern_types.specs.Layouts.{◌>>=◌}
use Rattle.kern_acts.specs.Acts.{Act}
use Rattle.kern_acts.specs.States.{Frame, State}
use Rattle.kern_acts.specs.Steps.{Program}

module _ {I : Type 0} where
  -- the instructions of the block in which the frame stands
  abbrev pub insts_at : List (Body I ℕ) → Frame → Option (List I)
  insts_at bodies frame =
      slice_get bodies frame.function >>= λ (body : Body I ℕ). slice_get body.blocks frame.block >>= λ (block : Block I ℕ). Some block.insts

  -- the instruction at which the frame stands
  abbrev pub inst_at : List (Body I ℕ) → Frame → Option I
  inst_at bodies frame = insts_at bodies frame >>= λ insts. slice_get insts frame.position

  -- how many instructions of the block aren't done
  abbrev pub left_in : List (Body I ℕ) → Frame → ℕ
  left_in bodies frame = option_map_or (λ (insts : List I). length insts - frame.position) (insts_at bodies frame) 0

  abbrev pub blocks_size : List (Block I ℕ) → ℕ
  blocks_size [] = 0
  blocks_size (block ∷ blocks) = length block.insts + blocks_size blocks

  -- how many instructions the bodies have
  abbrev pub bodies_size : List (Body I ℕ) → ℕ
  bodies_size [] = 0
  bodies_size (body ∷ bodies) = blocks_size body.blocks + bodies_size bodies

  -- the program of these bodies, by what tells whether a variable waits for its place, and by what an instruction does
  abbrev pub program_of : List (Body I ℕ) → (State → Bool) → (State → Frame → I → Option Act) → Program
  program_of bodies is_placing act_of = record {
    is_placing = is_placing;
    act = λ state frame. inst_at bodies frame >>= act_of state frame;
    left = left_in bodies;
    size = bodies_size bodies;
  }
