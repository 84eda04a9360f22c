-- What acts come to, and where control goes when a frame ends, on lanes and answers that are known.
use Rattle.std.specs.Prelude.{◌≡◌, ℕ, true, false, List, [], ◌∷◌, Option, Some, None}
use Rattle.kern_lanes.specs.declared.binary.BinOp.TheVariants.{Add, SDiv, Shl}
use Rattle.kern_lanes.specs.declared.width.Width.TheVariants.{W8, W16}
use Rattle.kern_types.specs.declared.class.Class.TheVariants.{Global, Local}
use Rattle.kern_events.specs.declared.event.Event.TheVariants as event
use Rattle.kern_events.specs.declared.outcome.FaultKind.TheVariants.{DivZero, DivOverflow, ShiftRange, Unset}
use Rattle.kern_acts.specs.Shapes.{Access}
use Rattle.kern_acts.specs.Acts.{Binary, Load, Store, Return}
use Rattle.kern_acts.specs.Effects.{Done, Leaves, Stops, Ends, Faults, Lacks, Setting, effect}
use Rattle.kern_acts.specs.States.{Frame, Within, Over, none_set}
use Rattle.kern_acts.specs.Steps.{left_for}

-- two lanes of 8 bits
abbrev pair : Access
pair = record { class = Local; shape = record { width = W8; count = 2 }; align = 2; volatile = true }

-- one lane of 16 bits
abbrev half : Access
half = record { class = Global; shape = record { width = W16; count = 1 }; align = 8; volatile = false }

abbrev set : ℕ → List ℕ → Option Setting
set name lanes = Some (record { name = name; lanes = lanes })

abbrev frame : ℕ → Frame
frame position = record { function = 1; block = 2; before = Some 3; position = position; values = none_set }

pub record EffectsAreKnown : Type 0 where
  pub lanes_wrap : effect (7 ∷ []) (Binary Add W8 5 (Some (250 ∷ 1 ∷ [])) (Some (10 ∷ 2 ∷ []))) ≡ Done None (7 ∷ []) (set 5 (4 ∷ 3 ∷ []))
  -- the least lane that traps tells how
  pub first_trap : effect [] (Binary SDiv W8 5 (Some (128 ∷ 1 ∷ [])) (Some (255 ∷ 0 ∷ []))) ≡ Stops (Faults DivOverflow)
  pub other_first_trap : effect [] (Binary SDiv W8 5 (Some (1 ∷ 128 ∷ [])) (Some (0 ∷ 255 ∷ []))) ≡ Stops (Faults DivZero)
  pub later_trap : effect [] (Binary Shl W8 5 (Some (1 ∷ 1 ∷ [])) (Some (7 ∷ 8 ∷ []))) ≡ Stops (Faults ShiftRange)
  -- operands are read before anything else
  pub unset_left : effect [] (Binary SDiv W8 5 None (Some (0 ∷ []))) ≡ Stops (Faults Unset)
  pub unset_right : effect [] (Binary SDiv W8 5 (Some (1 ∷ [])) None) ≡ Stops (Faults Unset)
  pub unset_pointer : effect [] (Load pair 5 None) ≡ Stops (Faults Unset)
  pub unset_value : effect [] (Store half None (Some (64 ∷ []))) ≡ Stops (Faults Unset)
  pub unset_target : effect [] (Store half (Some (64 ∷ [])) None) ≡ Stops (Faults Unset)
  -- a load takes an answer for each lane
  pub takes_two : effect (300 ∷ 7 ∷ 9 ∷ []) (Load pair 5 (Some (64 ∷ []))) ≡ Done (Some (event.Load Local 64 W8 2 true (44 ∷ 7 ∷ []))) (9 ∷ []) (set 5 (44 ∷ 7 ∷ []))
  pub lacks_one : effect (300 ∷ []) (Load pair 5 (Some (64 ∷ []))) ≡ Stops Lacks
  pub takes_last : effect (65537 ∷ []) (Load half 5 (Some (64 ∷ []))) ≡ Done (Some (event.Load Global 64 W16 8 false (1 ∷ []))) [] (set 5 (1 ∷ []))
  -- a store takes none
  pub stores : effect (3 ∷ []) (Store pair (Some (1 ∷ 2 ∷ [])) (Some (64 ∷ []))) ≡ Done (Some (event.Store Local 64 W8 2 true (1 ∷ 2 ∷ []))) (3 ∷ []) None
  pub leaves : effect (3 ∷ []) Return ≡ Leaves
  -- the last frame ends the run, and another one leads back behind the call
  pub ends : left_for [] ≡ Over Ends
  pub leads_back : left_for (frame 4 ∷ frame 9 ∷ []) ≡ Within (frame 5 ∷ frame 9 ∷ [])
