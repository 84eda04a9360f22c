-- Machines that go in step.
use Rattle.std.proofs.Common.{◌≡◌, ℕ, zero, suc, ◌+◌, List, ◌++◌, sym, ◌∙◌, ap, ap₂, refl, arith, append-nil}
use Rattle.std.specs.Prelude.{Option, unwrap_or}
use Rattle.std.specs.Option.{option_to_list}
use Rattle.kern_events.specs.declared.event.Event.{Event}
use Rattle.kern_events.specs.declared.outcome.Outcome.{Outcome}
use Rattle.kern_events.specs.declared.outcome.Outcome.TheVariants.{Running}
use Rattle.kern_runs.specs.Runs.{Run}
use Rattle.kern_runs.specs.Machines.{Machine, Corresponds, after, events, run, count_of}

-- related states have come to the same outcome, and their steps show the same and lead to related states
pub record Lockstep {S T : Type 0} (a : Machine S) (b : Machine T) (R : S → T → Type 0) : Type 0 where
  pub outcomes : (s : S) (t : T) → R s t → a.outcome s ≡ b.outcome t
  pub emits : (s : S) (t : T) → R s t → a.emits s ≡ b.emits t
  pub jumps : (s : S) (t : T) → R s t → a.jumps s ≡ b.jumps t
  pub nexts : (s : S) (t : T) → R s t → R (a.next s) (b.next t)

count-end : (n : ℕ) → n + 0 ≡ n
count-end n = omega arith

module _ {S T : Type 0} (a : Machine S) (b : Machine T) (R : S → T → Type 0) (lock : Lockstep a b R) where
  -- each step is one step
  pub corresponds : Corresponds a b R
  corresponds = record {
    outcomes = lock.outcomes;
    steps = λ s t r none. record {
      count = 1;
      going = (sym (lock.outcomes s t r) ∙ none, tt);
      same_events = append-nil (option_to_list (b.emits t)) ∙ ap option_to_list (sym (lock.emits s t r));
      same_jumps = count-end (count_of (b.jumps t)) ∙ ap count_of (sym (lock.jumps s t r));
      related = lock.nexts s t r;
    };
  }

  same-events : (k : ℕ) (s : S) (t : T) → R s t → events a k s ≡ events b k t
  same-events zero s t r = refl
  same-events (suc k) s t r =
      ap₂ (λ e es. option_to_list e ++ es) (lock.emits s t r) (same-events k (a.next s) (b.next t) (lock.nexts s t r))

  same-outcomes : (k : ℕ) (s : S) (t : T) → R s t → a.outcome (after a k s) ≡ b.outcome (after b k t)
  same-outcomes zero s t r = lock.outcomes s t r
  same-outcomes (suc k) s t r = same-outcomes k (a.next s) (b.next t) (lock.nexts s t r)

  -- so many steps show the same
  pub same-run : (k : ℕ) (s : S) (t : T) → R s t → run a s k ≡ run b t k
  same-run k s t r =
      let run_of : List Event → Option Outcome → Run = λ es o. record { events = es; outcome = unwrap_or o Running } in
      ap₂ run_of (same-events k s t r) (same-outcomes k s t r)
