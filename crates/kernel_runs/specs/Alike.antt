-- When the runs of two kernels show the same.
use Rattle.std.specs.Prelude.{◌≡◌, ℕ, Option, Some, None}
use Rattle.kern_runs.specs.Runs.{Run, Alike}

-- of two kernels that are looked for in their modules there is neither, or each shows what the other shows, where this is the size of
-- the modules together
pub data AlikeWhere (size : ℕ) (a b : ℕ → Option Run) : Type 0 where
  neither : ((k : ℕ) → a k ≡ None) → ((k : ℕ) → b k ≡ None) → AlikeWhere size a b
  both : (x y : ℕ → Run) → ((k : ℕ) → a k ≡ Some (x k)) → ((k : ℕ) → b k ≡ Some (y k)) → Alike x y size → AlikeWhere size a b

-- they are alike, and also show the same after each step
pub record SameRuns (size : ℕ) (a b : ℕ → Option Run) : Type 0 where
  pub step_by_step : (k : ℕ) → a k ≡ b k
  pub alike : AlikeWhere size a b
