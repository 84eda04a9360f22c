-- Where bytes stop being UTF-8.
use Rattle.std.specs.Prelude.{◌≡◌, List, ℕ, IsUtf8}
use Rattle.std.specs.Str.{IsValidUpTo}
use Rattle.ports.specs.declared.faults.LlFault.{LlFault}

-- rule 1 is broken: the bytes are no UTF-8, and those before the place are the longest front that is
pub record IsEncodingFault (bytes : List ℕ) (fault : LlFault) : Type 0 where
  pub rule : fault.rule ≡ 1
  pub no_text : ¬ (IsUtf8 bytes)
  pub place : IsValidUpTo bytes fault.byte
