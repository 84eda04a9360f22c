-- What contracts see of a decoder.
use Rattle.std.specs.Prelude.{ℕ, Bool, List}

-- the bytes that it has been fed, and whether it wanted memory, after which it answers that alone
pub record DecoderState : Type 0 where
  pub fed : List ℕ
  pub failed : Bool
