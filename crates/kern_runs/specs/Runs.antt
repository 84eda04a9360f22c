-- What a run shows, and when two modules are alike.
use Rattle.std.specs.Prelude.{◌≡◌, ℕ, ◌+◌, ◌*◌, List, ◌++◌}
use Rattle.kern_events.specs.declared.event.Event.{Event}
use Rattle.kern_events.specs.declared.outcome.Outcome.{Outcome}
use Rattle.kern_events.specs.declared.outcome.Outcome.TheVariants.{Ended, Fault, Asks, Running}

-- what is seen of some first steps: the events, and the outcome that one of these steps gave, else that it is running
pub record Run : Type 0 where
  pub events : List Event
  pub outcome : Outcome

-- a list begins another one
pub record Begins (xs ys : List Event) : Type 0 where
  pub rest : List Event
  pub whole : ys ≡ xs ++ rest

-- the same outcome, by the same events
pub record Same (x y : Run) : Type 0 where
  pub outcome : y.outcome ≡ x.outcome
  pub events : y.events ≡ x.events

-- what one run shows, another one shows too: an outcome with the same events, and while it is running its events and maybe more
abbrev pub FollowsFrom : Outcome → Run → Run → Type 0
FollowsFrom Running x y = Begins x.events y.events
FollowsFrom Ended x y = Same x y
FollowsFrom (Fault kind) x y = Same x y
FollowsFrom Asks x y = Same x y

abbrev pub Follows : Run → Run → Type 0
Follows x y = FollowsFrom x.outcome x y

-- how many steps of one module may be wanted for k steps of the other, where this is their size together
abbrev pub stretch : ℕ → ℕ → ℕ
stretch size k = (k + 1) * (size + 1)

-- what either shows after some steps, the other shows after no more than the stretch
pub record Alike (a b : ℕ → Run) (size : ℕ) : Type 0 where
  pub forward : (k : ℕ) → Follows (a k) (b (stretch size k))
  pub backward : (k : ℕ) → Follows (b k) (a (stretch size k))
