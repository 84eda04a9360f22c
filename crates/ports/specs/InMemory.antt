-- What contracts see of the sources and sinks in memory.
use Rattle.std.specs.Prelude.{ℕ, ◌+◌, ◌++◌, List, length, nat_le, Option, Some, None, if◌then◌else◌}

-- a source in memory: the bytes still to come, the calls that fail, and how many calls were made and failed
pub record MemSourceState : Type 0 where
  pub left : List ℕ
  pub fails : List ℕ
  pub calls : ℕ
  pub faults : ℕ

-- a sink in memory: the bytes taken, how many bytes it has room for in all, the calls that fail, and how many calls were
-- made and failed
pub record MemSinkState : Type 0 where
  pub held : List ℕ
  pub room : ℕ
  pub fails : List ℕ
  pub calls : ℕ
  pub faults : ℕ

-- a sink over a fixed room that takes all it is given: its room, and the bytes taken while they fit
pub record SureSinkState : Type 0 where
  pub room : ℕ
  pub held : Option (List ℕ)

-- what such a sink tells after a write
abbrev pub held_after : ℕ → Option (List ℕ) → List ℕ → Option (List ℕ)
held_after room None bytes = None
held_after room (Some held) bytes =
    if nat_le (length held + length bytes) room then Some (held ++ bytes) else None
