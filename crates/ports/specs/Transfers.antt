-- Why reading a source to its end may stop short.
use Rattle.std.specs.Prelude.{◌≡◌, ◌≢◌, ◌≤◌, ℕ, Result, Err}
use Rattle.ports.specs.Causes.{Rose}
use Rattle.ports.specs.declared.transfer.ReadAllError.{ReadAllError}
use Rattle.ports.specs.declared.transfer.ReadAllError.TheVariants.{Failed}

-- the count of faults never falls, it has risen where the answer is that the source failed, and stays at every other answer
pub record ReadHasCause {T : Type 0} (before now : ℕ) (result : Result T ReadAllError) : Type 0 where
  pub later : before ≤ now
  pub kept : result ≢ Err Failed → now ≡ before
  pub failed : result ≡ Err Failed → Rose before now
