-- Which struct types are packed (SPIR-V 1.2, 3.20 "CPacked" and 3.32.3 "OpGroupDecorate").
use Rattle.std.specs.Prelude.{ℕ, ◌==◌, Bool, ◌||◌, if◌then◌else◌, List, [], ◌∷◌, slice_get, Option, None}
use Rattle.std.specs.List.{list_any}
use Rattle.spv_codec.specs.declared.module.RawInst.{RawInst}
use Rattle.spv_codec.specs.Ids.{is_id}
use Rattle.spv_layout.specs.declared.opcode.Opcode.TheVariants as op
use Rattle.spv_layout.specs.Forms.{number_of}

-- the id that an instruction gives the decoration CPacked, whose number is 10
abbrev pub packed_id : RawInst → Option ℕ
packed_id inst =
    if inst.op == number_of op.Decorate then (if is_id 10 (slice_get inst.operands 1) then slice_get inst.operands 0 else None) else None

-- whether some instruction gives it to an id
abbrev pub is_decorated : List RawInst → ℕ → Bool
is_decorated insts id = list_any (λ inst. is_id id (packed_id inst)) insts

-- the targets of a group that is told by a test
abbrev pub targets_by : (ℕ → Bool) → List ℕ → List ℕ
targets_by is_group [] = []
targets_by is_group (group ∷ targets) = if is_group group then targets else []

-- the ids to which an instruction passes the decorations of such a group on
abbrev pub passed_ids : (ℕ → Bool) → RawInst → List ℕ
passed_ids is_group inst = if inst.op == number_of op.GroupDecorate then targets_by is_group inst.operands else []

abbrev pub is_among : ℕ → List ℕ → Bool
is_among id ids = list_any (λ other. other == id) ids

-- whether some instruction passes it on to an id
abbrev pub is_passed_on : (ℕ → Bool) → List RawInst → ℕ → Bool
is_passed_on is_group insts id = list_any (λ inst. is_among id (passed_ids is_group inst)) insts

-- whether an id has the decoration, by itself or through a group
abbrev pub is_packed : List RawInst → ℕ → Bool
is_packed insts id = is_decorated insts id || is_passed_on (is_decorated insts) insts id
