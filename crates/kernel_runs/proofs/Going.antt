-- Two programs that do what a kernel's instructions do go in step.
use Rattle.std.proofs.Common.{◌≡◌, ℕ, suc, true, false, [], Some, None, map, slice_get, sym, ◌∙◌, ap, refl, subst₂, inl, inr, Contains, IfSome, option_map}
use Rattle.std.specs.Prelude.{Option, ◌⊎◌, option_and_then, if◌then◌else◌, flat_map}
use Rattle.std.specs.Option.{option_map_or}
use Rattle.std.proofs.lemmas.List.Elements.{Contains-append_right}
use Rattle.kern_events.specs.declared.event.Event.{Event}
use Rattle.kern_acts.specs.Acts.{Operand, Act, is_jump, act_renamed}
use Rattle.kern_acts.specs.Effects.{Effect, Done, Leaves, Stops, Ends, effect}
use Rattle.kern_acts.specs.States.{Stage, Over, State, outcome_of}
use Rattle.kern_acts.specs.Steps.{Program, Step, stepped, step, step_at, act_at, is_jump_at, machine}
use Rattle.kernel_tree.specs.declared.kernel.Kernel.{Kernel}
use Rattle.kernel_runs.specs.Names.{value_numbers, inst_numbers, param_number}
use Rattle.kernel_runs.proofs.Lockstep.{Lockstep}
use Rattle.kernel_runs.proofs.Plays.{Plays, frame_at, core_acts, effect_renamed, effect-renamed, jump-where, renamed-at, core-all-same, core-at-in, effect-in, EffectIn, SetsIn, agree-set, Going, Finished, Related}

module _ (p : Program) (s : State) (waits : p.is_placing s ≡ false) where
  step-is : (stage : Stage) → s.stage ≡ stage → step p s ≡ step_at p s stage
  step-is stage e = ap (λ b. if b then None else step_at p s s.stage) waits ∙ ap (step_at p s) e

  jump-is : (stage : Stage) → s.stage ≡ stage → is_jump_at p s ≡ option_map_or is_jump (act_at p s stage) true
  jump-is stage e =
      ap (λ b. if b then true else option_map_or is_jump (act_at p s s.stage) true) waits ∙ ap (λ x. option_map_or is_jump (act_at p s x) true) e

abbrev event_of : Option Step → Option Event
event_of x = option_and_then (λ (t : Step). t.event) x

abbrev next_of : State → Option Step → State
next_of s x = option_map_or (λ (t : Step). t.next) x s

module _ (kernel : Kernel) (f g : ℕ → ℕ) (p q : Program) (is_p : Plays kernel f p) (is_q : Plays kernel g q) where
  -- what a step of either shows and leads to
  record Moves (s t : State) : Type 0 where
    outcomes : outcome_of s.stage ≡ outcome_of t.stage
    emits : event_of (step p s) ≡ event_of (step q t)
    jumps : is_jump_at p s ≡ is_jump_at q t
    nexts : Related kernel f g (next_of s (step p s)) (next_of t (step q t))

  -- the moves by what the steps are
  moves-by : (s t : State) (x y : Option Step) → step p s ≡ x → step q t ≡ y → outcome_of s.stage ≡ outcome_of t.stage → is_jump_at p s ≡ is_jump_at q t
      → event_of x ≡ event_of y → Related kernel f g (next_of s x) (next_of t y) → Moves s t
  moves-by s t x y at_s at_t outcomes jumps emits nexts = record {
    outcomes = outcomes;
    emits = ap event_of at_s ∙ (emits ∙ sym (ap event_of at_t));
    jumps = jumps;
    nexts = subst₂ (Related kernel f g) (sym (ap (next_of s) at_s)) (sym (ap (next_of t) at_t)) nexts;
  }

  finished-moves : (s t : State) → s.answers ≡ t.answers → Finished kernel f g s t → Moves s t
  finished-moves s t answers r =
      moves-by s t None None
      (step-is p s (is_p.waits s) (Over r.ending) r.s_over)
      (step-is q t (is_q.waits t) (Over r.ending) r.t_over)
      (ap outcome_of r.s_over ∙ sym (ap outcome_of r.t_over))
      (jump-is p s (is_p.waits s) (Over r.ending) r.s_over ∙ sym (jump-is q t (is_q.waits t) (Over r.ending) r.t_over))
      refl (record { answers = answers; stages = inr r })

  module _ (s t : State) (answers : s.answers ≡ t.answers) (r : Going kernel f g s t) where
    reads : ℕ → Operand
    reads n = r.v (f n)

    others : ℕ → Operand
    others n = r.w (g n)

    core : Option Act
    core = slice_get (core_acts reads kernel.insts) r.position

    named : (n : ℕ) → Contains (flat_map inst_numbers kernel.insts) n → Contains (value_numbers kernel) n
    named n at = Contains-append_right (map param_number kernel.params) (flat_map inst_numbers kernel.insts) n at

    act-s : p.act s (frame_at r.position r.v) ≡ option_map (act_renamed f) core
    unfolding reads core
    act-s = is_p.acts s r.position r.v ∙ renamed-at f reads kernel.insts r.position

    act-t : q.act t (frame_at r.position r.w) ≡ option_map (act_renamed g) core
    unfolding reads others core
    act-t =
        is_q.acts t r.position r.w ∙ (renamed-at g others kernel.insts r.position
        ∙ ap (λ acts. option_map (act_renamed g) (slice_get acts r.position)) (sym (core-all-same reads others kernel.insts (λ n at. r.agree n (named n at)))))

    step-s : step p s ≡ option_map (λ a. stepped s (frame_at r.position r.v) [] (effect s.answers a)) (option_map (act_renamed f) core)
    step-s = step-is p s (is_p.waits s) _ r.s_within ∙ ap (option_map (λ a. stepped s (frame_at r.position r.v) [] (effect s.answers a))) act-s

    step-t : step q t ≡ option_map (λ a. stepped t (frame_at r.position r.w) [] (effect t.answers a)) (option_map (act_renamed g) core)
    step-t = step-is q t (is_q.waits t) _ r.t_within ∙ ap (option_map (λ a. stepped t (frame_at r.position r.w) [] (effect t.answers a))) act-t

    going-outcomes : outcome_of s.stage ≡ outcome_of t.stage
    going-outcomes = ap outcome_of r.s_within ∙ sym (ap outcome_of r.t_within)

    going-jumps : is_jump_at p s ≡ is_jump_at q t
    going-jumps =
        jump-is p s (is_p.waits s) _ r.s_within ∙ (ap (λ x. option_map_or is_jump x true) act-s ∙ (jump-where f core
        ∙ sym (jump-is q t (is_q.waits t) _ r.t_within ∙ (ap (λ x. option_map_or is_jump x true) act-t ∙ jump-where g core))))

    -- states behind an effect are related
    effect-moves : (e : Effect) → EffectIn (value_numbers kernel) e
        → step p s ≡ Some (stepped s (frame_at r.position r.v) [] (effect_renamed f e))
        → step q t ≡ Some (stepped t (frame_at r.position r.w) [] (effect_renamed g e)) → Moves s t
    effect-moves (Done event left None) at at_s at_t =
        moves-by s t _ _ at_s at_t going-outcomes going-jumps refl
        (record { answers = refl; stages = inl (record { position = suc r.position; v = r.v; w = r.w; s_within = refl; t_within = refl; agree = r.agree }) })
    effect-moves (Done event left (Some setting)) at at_s at_t =
        moves-by s t _ _ at_s at_t going-outcomes going-jumps refl
        (record {
          answers = refl;
          stages = inl (record {
            position = suc r.position;
            v = _;
            w = _;
            s_within = refl;
            t_within = refl;
            agree = agree-set kernel f g is_p.injective is_q.injective r.v r.w setting.name setting.lanes at r.agree;
          });
        })
    effect-moves Leaves at at_s at_t =
        moves-by s t _ _ at_s at_t going-outcomes going-jumps refl (record { answers = answers; stages = inr (record { ending = Ends; s_over = refl; t_over = refl }) })
    effect-moves (Stops ending) at at_s at_t =
        moves-by s t _ _ at_s at_t going-outcomes going-jumps refl (record { answers = answers; stages = inr (record { ending = ending; s_over = refl; t_over = refl }) })

    core-moves : (x : Option Act) → core ≡ x → IfSome x (SetsIn (value_numbers kernel)) → Moves s t
    core-moves None e at =
        moves-by s t None None
        (step-s ∙ ap (λ x. option_map (λ a. stepped s (frame_at r.position r.v) [] (effect s.answers a)) (option_map (act_renamed f) x)) e)
        (step-t ∙ ap (λ x. option_map (λ a. stepped t (frame_at r.position r.w) [] (effect t.answers a)) (option_map (act_renamed g) x)) e)
        going-outcomes going-jumps refl (record { answers = answers; stages = inl r })
    core-moves (Some a) e at =
        effect-moves (effect s.answers a) (effect-in (value_numbers kernel) s.answers a at)
        (step-s ∙ (ap (λ x. option_map (λ a. stepped s (frame_at r.position r.v) [] (effect s.answers a)) (option_map (act_renamed f) x)) e
        ∙ ap (λ x. Some (stepped s (frame_at r.position r.v) [] x)) (effect-renamed f s.answers a)))
        (step-t ∙ (ap (λ x. option_map (λ a. stepped t (frame_at r.position r.w) [] (effect t.answers a)) (option_map (act_renamed g) x)) e
        ∙ (ap (λ x. Some (stepped t (frame_at r.position r.w) [] x)) (effect-renamed g t.answers a)
        ∙ ap (λ x. Some (stepped t (frame_at r.position r.w) [] (effect_renamed g (effect x a)))) (sym answers))))

    going-moves : Moves s t
    unfolding core
    going-moves = core-moves core refl (core-at-in (value_numbers kernel) reads kernel.insts r.position named)

  moves : (s t : State) → Related kernel f g s t → Moves s t
  moves s t r = by_stages r.stages
    where
      by_stages : Going kernel f g s t ⊎ Finished kernel f g s t → Moves s t
      by_stages (inl going) = going-moves s t r.answers going
      by_stages (inr over) = finished-moves s t r.answers over

  pub lockstep : Lockstep (machine p) (machine q) (Related kernel f g)
  lockstep = record {
    outcomes = λ s t r. (moves s t r).outcomes;
    emits = λ s t r. (moves s t r).emits;
    jumps = λ s t r. (moves s t r).jumps;
    nexts = λ s t r. (moves s t r).nexts;
  }
