-- The numbers that constants are (SPIR-V 1.2, 3.32.7 "OpConstant").
use Rattle.std.specs.Prelude.{ℕ, ◌+◌, ◌*◌, ◌==◌, if◌then◌else◌, List, [], ◌∷◌, Option, Some, None}
use Rattle.std.specs.Option.{option_or}
use Rattle.spv_codec.specs.declared.module.RawInst.{RawInst}
use Rattle.spv_layout.specs.declared.opcode.Opcode.TheVariants as op
use Rattle.spv_layout.specs.Forms.{number_of}

-- the id of a constant and its number, where its words are one or two, the lower one first
abbrev pub numbered_by : List ℕ → Option (ℕ × ℕ)
numbered_by (type ∷ id ∷ low ∷ []) = Some (id, low)
numbered_by (type ∷ id ∷ low ∷ high ∷ []) = Some (id, low + 4294967296 * high)
numbered_by operands = None

abbrev pub numbered : RawInst → Option (ℕ × ℕ)
numbered inst = if inst.op == number_of op.Constant then numbered_by inst.operands else None

-- the number of an id, where it is the one that is numbered
abbrev pub at_id : ℕ → Option (ℕ × ℕ) → Option ℕ
at_id id None = None
at_id id (Some e) = if e.0 == id then Some e.1 else None

-- the number that the first constant of an id is
abbrev pub constant_number : List RawInst → ℕ → Option ℕ
constant_number [] id = None
constant_number (inst ∷ insts) id = option_or (at_id id (numbered inst)) (constant_number insts id)
