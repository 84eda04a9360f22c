-- Deterministic machines: what a step does, and when the steps of one are lists of steps of another.
use Rattle.std.specs.Prelude.{◌≡◌, ◌≢◌, ℕ, suc, zero, ◌+◌, ◌<◌, ◌≤◌, Bool, true, false, List, [], ◌++◌, Option, Some, None, unwrap_or}
use Rattle.std.specs.Option.{option_to_list}
use Rattle.kern_events.specs.declared.event.Event.{Event}
use Rattle.kern_events.specs.declared.outcome.Outcome.{Outcome}
use Rattle.kern_events.specs.declared.outcome.Outcome.TheVariants.{Running}
use Rattle.kern_runs.specs.Runs.{Run}

-- a machine over states of one type: the outcome that a state has come to, if any, and of the step that comes its event, if any, the
-- next state, whether it is a jump (a terminator, or a call of a function that the module defines), and how many steps come before the next
-- jump at most
pub record Machine (S : Type 0) : Type 0 where
  pub outcome : S → Option Outcome
  pub emits : S → Option Event
  pub next : S → S
  pub jumps : S → Bool
  pub before_jump : S → ℕ
  pub size : ℕ

-- a state with an outcome stays, silent; a step that is no jump comes nearer to the next jump; and no more steps come before one than the
-- machine's size
pub record IsMachine {S : Type 0} (m : Machine S) : Type 0 where
  pub stays : (s : S) (o : Outcome) → m.outcome s ≡ Some o → m.next s ≡ s
  pub silent : (s : S) (o : Outcome) → m.outcome s ≡ Some o → m.emits s ≡ None
  pub comes : (s : S) (o : Outcome) → m.outcome s ≡ Some o → o ≢ Running
  pub falls : (s : S) → m.outcome s ≡ None → m.jumps s ≡ false → m.before_jump (m.next s) < m.before_jump s
  pub small : (s : S) → m.before_jump s ≤ m.size

-- the state after so many steps
abbrev pub after : {S : Type 0} → Machine S → ℕ → S → S
after m zero s = s
after m (suc k) s = after m k (m.next s)

-- the events of so many steps
abbrev pub events : {S : Type 0} → Machine S → ℕ → S → List Event
events m zero s = []
events m (suc k) s = option_to_list (m.emits s) ++ events m k (m.next s)

-- what so many steps show
abbrev pub run : {S : Type 0} → Machine S → S → ℕ → Run
run m s k = record { events = events m k s; outcome = unwrap_or (m.outcome (after m k s)) Running }

abbrev pub count_of : Bool → ℕ
count_of true = 1
count_of false = 0

-- how many of so many steps are jumps
abbrev pub jumps_in : {S : Type 0} → Machine S → ℕ → S → ℕ
jumps_in m zero s = 0
jumps_in m (suc k) s = count_of (m.jumps s) + jumps_in m k (m.next s)

-- no state before the end of so many steps has come to an outcome
abbrev pub IsGoing : {S : Type 0} → Machine S → ℕ → S → Type 0
IsGoing m zero s = Unit {0}
IsGoing m (suc k) s = (m.outcome s ≡ None) × IsGoing m k (m.next s)

-- a list of steps of b, empty or not, that does what the step of a does: the same event or none, a jump exactly for a jump, and to a state that
-- is related again
pub record Matches {S T : Type 0} (a : Machine S) (b : Machine T) (Related : S → T → Type 0) (s : S) (t : T) : Type 0 where
  pub count : ℕ
  pub going : IsGoing b count t
  pub same_events : events b count t ≡ option_to_list (a.emits s)
  pub same_jumps : jumps_in b count t ≡ count_of (a.jumps s)
  pub related : Related (a.next s) (after b count t)

-- related states have come to the same outcome, and each step of a is a list of steps of b
pub record Corresponds {S T : Type 0} (a : Machine S) (b : Machine T) (Related : S → T → Type 0) : Type 0 where
  pub outcomes : (s : S) (t : T) → Related s t → a.outcome s ≡ b.outcome t
  pub steps : (s : S) (t : T) → Related s t → a.outcome s ≡ None → Matches a b Related s t
