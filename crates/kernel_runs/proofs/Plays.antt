-- Programs that do what a kernel's instructions do, each under names of its own, go in step.
use Rattle.std.proofs.Common.{◌≡◌, ℕ, zero, suc, Bool, true, false, List, [], ◌∷◌, ◌++◌, Some, None, map, slice_get, sym, ◌∙◌, ap, ap₂, refl, eqb, Contains, IfSome, option_map, arith}
use Rattle.std.specs.Prelude.{Option, Result, Ok, Err, ◌⊎◌, if◌then◌else◌, flat_map}
use Rattle.std.specs.Option.{option_map_or}
use Rattle.std.proofs.lemmas.List.Elements.{Contains-append_left, Contains-append_right}
use borrow.Author.Tests.{eqb-true, eq-eqb, ne_eqb}
use Rattle.inst_walk.specs.RenamedBody.{IsInjectiveOn}
use Rattle.kern_lanes.specs.declared.binary.BinOp.TheVariants.{Add as sum_of}
use Rattle.kern_lanes.specs.declared.trap.Trap.{Trap}
use Rattle.kern_lanes.specs.declared.width.Width.TheVariants.{W32}
use Rattle.kern_types.specs.declared.class.Class.TheVariants.{Global}
use Rattle.kern_acts.specs.Shapes.{Access, scalar}
use Rattle.kern_acts.specs.Acts.{Operand, Act, Binary, Load, Store, Return, is_jump, act_renamed}
use Rattle.kern_acts.specs.Effects.{Effect, Done, Leaves, Stops, Ending, Setting, with_lanes, computed, loaded, effect, lanewise, taken, address_of, store_event}
use Rattle.kern_acts.specs.States.{Frame, Within, Over, State, Values, set_to}
use Rattle.kern_acts.specs.Steps.{Program}
use Rattle.kernel_tree.specs.declared.kernel.Kernel.{Kernel}
use Rattle.kernel_tree.specs.declared.kernel.KernelInst.{KernelInst}
use Rattle.kernel_tree.specs.declared.kernel.KernelInst.TheVariants as inst
use Rattle.kernel_runs.specs.Names.{value_numbers, inst_numbers}

-- the access of every load and store of a kernel
abbrev pub word_access : Access
word_access = record { class = Global; shape = scalar W32; align = 4; volatile = false }

-- what an instruction does, under its own names, with these lanes of its operands
abbrev pub core_act : (ℕ → Operand) → KernelInst → Act
core_act reads (inst.Add sum left right) = Binary sum_of W32 sum.number (reads left.number) (reads right.number)
core_act reads (inst.Load loaded pointer is_aligned) = Load word_access loaded.number (reads pointer.number)
core_act reads (inst.Store value pointer is_aligned) = Store word_access (reads value.number) (reads pointer.number)

-- the same under the names that a function gives
abbrev pub kernel_act : (ℕ → ℕ) → Values → KernelInst → Act
kernel_act f values i = act_renamed f (core_act (λ number. values (f number)) i)

abbrev pub frame_at : ℕ → Values → Frame
frame_at position values = record { function = 0; block = 0; before = None; position = position; values = values }

-- in every frame of the kernel the program does what the kernel's instruction does
pub record Plays (kernel : Kernel) (f : ℕ → ℕ) (p : Program) : Type 0 where
  pub injective : IsInjectiveOn f (value_numbers kernel)
  pub waits : (s : State) → p.is_placing s ≡ false
  pub acts : (s : State) (position : ℕ) (values : Values)
      → p.act s (frame_at position values) ≡ slice_get (map (kernel_act f values) kernel.insts ++ Return ∷ []) position

-- an effect under other names
abbrev pub setting_renamed : (ℕ → ℕ) → Setting → Setting
setting_renamed f setting = record { name = f setting.name; lanes = setting.lanes }

abbrev pub effect_renamed : (ℕ → ℕ) → Effect → Effect
effect_renamed f (Done event answers setting) = Done event answers (option_map (setting_renamed f) setting)
effect_renamed f Leaves = Leaves
effect_renamed f (Stops ending) = Stops ending

module _ (f : ℕ → ℕ) where
  with-renamed : (operand : Operand) (g h : List ℕ → Effect) → ((lanes : List ℕ) → g lanes ≡ effect_renamed f (h lanes))
      → with_lanes operand g ≡ effect_renamed f (with_lanes operand h)
  with-renamed None g h same = refl
  with-renamed (Some lanes) g h same = same lanes

  computed-renamed : (answers : List ℕ) (name : ℕ) (r : Result (List ℕ) Trap) → computed answers (f name) r ≡ effect_renamed f (computed answers name r)
  computed-renamed answers name (Ok lanes) = refl
  computed-renamed answers name (Err trap) = refl

  loaded-renamed : (access : Access) (name address : ℕ) (given : Option (List ℕ × List ℕ)) → loaded access (f name) address given ≡ effect_renamed f (loaded access name address given)
  loaded-renamed access name address None = refl
  loaded-renamed access name address (Some given) = refl

  -- a renamed act comes to the renamed effect
  pub effect-renamed : (answers : List ℕ) (a : Act) → effect answers (act_renamed f a) ≡ effect_renamed f (effect answers a)
  effect-renamed answers (Binary op width name left right) =
      with-renamed left (λ a. with_lanes right (λ b. computed answers (f name) (lanewise op width a b))) (λ a. with_lanes right (λ b. computed answers name (lanewise op width a b)))
      (λ a. with-renamed right (λ b. computed answers (f name) (lanewise op width a b)) (λ b. computed answers name (lanewise op width a b))
      (λ b. computed-renamed answers name (lanewise op width a b)))
  effect-renamed answers (Load access name pointer) =
      with-renamed pointer (λ a. loaded access (f name) (address_of a) (taken access.shape.count answers)) (λ a. loaded access name (address_of a) (taken access.shape.count answers))
      (λ a. loaded-renamed access name (address_of a) (taken access.shape.count answers))
  effect-renamed answers (Store access value pointer) =
      let at : List ℕ → List ℕ → Effect = λ v a. Done (Some (store_event access (address_of a) v)) answers None in
      with-renamed value (λ v. with_lanes pointer (at v)) (λ v. with_lanes pointer (at v)) (λ v. with-renamed pointer (at v) (at v) (λ a. refl))
  effect-renamed answers Return = refl

  jump-renamed : (a : Act) → is_jump (act_renamed f a) ≡ is_jump a
  jump-renamed (Binary op width name left right) = refl
  jump-renamed (Load access name pointer) = refl
  jump-renamed (Store access value pointer) = refl
  jump-renamed Return = refl

  pub jump-where : (x : Option Act) → option_map_or is_jump (option_map (act_renamed f) x) true ≡ option_map_or is_jump x true
  jump-where None = refl
  jump-where (Some a) = jump-renamed a

abbrev pub core_acts : (ℕ → Operand) → List KernelInst → List Act
core_acts reads is = map (core_act reads) is ++ Return ∷ []

pub renamed-at : (f : ℕ → ℕ) (reads : ℕ → Operand) (is : List KernelInst) (position : ℕ)
    → slice_get (map (λ i. act_renamed f (core_act reads i)) is ++ Return ∷ []) position ≡ option_map (act_renamed f) (slice_get (core_acts reads is) position)
renamed-at f reads [] zero = refl
renamed-at f reads [] (suc position) = refl
renamed-at f reads (i ∷ is) zero = refl
renamed-at f reads (i ∷ is) (suc position) = renamed-at f reads is position

pub first-of : (a : ℕ) (rest : List ℕ) → Contains (a ∷ rest) a
first-of a rest = (0, omega arith, refl)

second-of : (a b : ℕ) (rest : List ℕ) → Contains (a ∷ b ∷ rest) b
second-of a b rest = (1, omega arith, refl)

third-of : (a b c : ℕ) (rest : List ℕ) → Contains (a ∷ b ∷ c ∷ rest) c
third-of a b c rest = (2, omega arith, refl)

module _ (reads others : ℕ → Operand) where
  -- only the lanes of the names that an instruction takes matter
  core-same : (i : KernelInst) → ((n : ℕ) → Contains (inst_numbers i) n → reads n ≡ others n) → core_act reads i ≡ core_act others i
  core-same (inst.Add sum left right) same =
      ap₂ (λ a b. Binary sum_of W32 sum.number a b) (same left.number (second-of sum.number left.number (right.number ∷ []))) (same right.number (third-of sum.number left.number right.number []))
  core-same (inst.Load loaded pointer is_aligned) same =
      ap (λ a. Load word_access loaded.number a) (same pointer.number (second-of loaded.number pointer.number []))
  core-same (inst.Store value pointer is_aligned) same =
      ap₂ (λ a b. Store word_access a b) (same value.number (first-of value.number (pointer.number ∷ []))) (same pointer.number (second-of value.number pointer.number []))

  pub core-all-same : (is : List KernelInst) → ((n : ℕ) → Contains (flat_map inst_numbers is) n → reads n ≡ others n) → core_acts reads is ≡ core_acts others is
  core-all-same [] same = refl
  core-all-same (i ∷ is) same =
      ap₂ (λ a more. a ∷ more) (core-same i (λ n at. same n (Contains-append_left (inst_numbers i) (flat_map inst_numbers is) n at)))
      (core-all-same is (λ n at. same n (Contains-append_right (inst_numbers i) (flat_map inst_numbers is) n at)))

-- the name that an act sets is one of these
abbrev pub SetsIn : List ℕ → Act → Type 0
SetsIn names (Binary op width name left right) = Contains names name
SetsIn names (Load access name pointer) = Contains names name
SetsIn names (Store access value pointer) = Unit {0}
SetsIn names Return = Unit {0}

abbrev pub SettingIn : List ℕ → Option Setting → Type 0
SettingIn names None = Unit {0}
SettingIn names (Some setting) = Contains names setting.name

abbrev pub EffectIn : List ℕ → Effect → Type 0
EffectIn names (Done event answers setting) = SettingIn names setting
EffectIn names Leaves = Unit {0}
EffectIn names (Stops ending) = Unit {0}

module _ (names : List ℕ) where
  with-in : (operand : Operand) (g : List ℕ → Effect) → ((lanes : List ℕ) → EffectIn names (g lanes)) → EffectIn names (with_lanes operand g)
  with-in None g h = tt
  with-in (Some lanes) g h = h lanes

  computed-in : (answers : List ℕ) (name : ℕ) (r : Result (List ℕ) Trap) → Contains names name → EffectIn names (computed answers name r)
  computed-in answers name (Ok lanes) at = at
  computed-in answers name (Err trap) at = tt

  loaded-in : (access : Access) (name address : ℕ) (given : Option (List ℕ × List ℕ)) → Contains names name → EffectIn names (loaded access name address given)
  loaded-in access name address None at = tt
  loaded-in access name address (Some given) at = at

  pub effect-in : (answers : List ℕ) (a : Act) → SetsIn names a → EffectIn names (effect answers a)
  effect-in answers (Binary op width name left right) at =
      with-in left (λ a. with_lanes right (λ b. computed answers name (lanewise op width a b)))
      (λ a. with-in right (λ b. computed answers name (lanewise op width a b)) (λ b. computed-in answers name (lanewise op width a b) at))
  effect-in answers (Load access name pointer) at =
      with-in pointer (λ a. loaded access name (address_of a) (taken access.shape.count answers))
      (λ a. loaded-in access name (address_of a) (taken access.shape.count answers) at)
  effect-in answers (Store access value pointer) at =
      let put : List ℕ → List ℕ → Effect = λ v a. Done (Some (store_event access (address_of a) v)) answers None in
      with-in value (λ v. with_lanes pointer (put v)) (λ v. with-in pointer (put v) (λ a. tt))
  effect-in answers Return at = tt

  core-in : (reads : ℕ → Operand) (i : KernelInst) → ((n : ℕ) → Contains (inst_numbers i) n → Contains names n) → SetsIn names (core_act reads i)
  core-in reads (inst.Add sum left right) h = h sum.number (first-of sum.number (left.number ∷ right.number ∷ []))
  core-in reads (inst.Load loaded pointer is_aligned) h = h loaded.number (first-of loaded.number (pointer.number ∷ []))
  core-in reads (inst.Store value pointer is_aligned) h = tt

  pub core-at-in : (reads : ℕ → Operand) (is : List KernelInst) (position : ℕ) → ((n : ℕ) → Contains (flat_map inst_numbers is) n → Contains names n)
      → IfSome (slice_get (core_acts reads is) position) (SetsIn names)
  core-at-in reads [] zero h = tt
  core-at-in reads [] (suc position) h = tt
  core-at-in reads (i ∷ is) zero h = core-in reads i (λ n at. h n (Contains-append_left (inst_numbers i) (flat_map inst_numbers is) n at))
  core-at-in reads (i ∷ is) (suc position) h =
      core-at-in reads is position (λ n at. h n (Contains-append_right (inst_numbers i) (flat_map inst_numbers is) n at))

-- an injective function keeps names apart
pub same-eqb : (f : ℕ → ℕ) (names : List ℕ) → IsInjectiveOn f names → (a b : ℕ) → Contains names a → Contains names b → eqb (f a) (f b) ≡ eqb a b
same-eqb f names injective a b at_a at_b = by_test (eqb a b) refl
  where
    by_test : (t : Bool) → eqb a b ≡ t → eqb (f a) (f b) ≡ t
    by_test true e = eq-eqb (f a) (f b) (ap f (eqb-true a b e))
    by_test false e = ne_eqb (f a) (f b) (λ h. let no : true ≡ false = sym (eq-eqb a b (injective a b at_a at_b h)) ∙ e in absurd cc)

module _ (kernel : Kernel) (f g : ℕ → ℕ) where
  -- names have the same lanes
  abbrev pub Agree : Values → Values → Type 0
  Agree v w = (n : ℕ) → Contains (value_numbers kernel) n → v (f n) ≡ w (g n)

  pub agree-set : IsInjectiveOn f (value_numbers kernel) → IsInjectiveOn g (value_numbers kernel) → (v w : Values) (name : ℕ) (lanes : List ℕ)
      → Contains (value_numbers kernel) name → Agree v w
      → Agree (set_to (record { name = f name; lanes = lanes }) v) (set_to (record { name = g name; lanes = lanes }) w)
  agree-set f_injective g_injective v w name lanes at agree n at_n =
      let names = value_numbers kernel in
      let pick : Bool → Option (List ℕ) → Option (List ℕ) = λ b x. if b then Some lanes else x in
      ap₂ pick (same-eqb f names f_injective n name at_n at) (agree n at_n) ∙ ap (λ b. pick b (w (g n))) (sym (same-eqb g names g_injective n name at_n at))

  pub record Going (s t : State) : Type 0 where
    pub position : ℕ
    pub v : Values
    pub w : Values
    pub s_within : s.stage ≡ Within (frame_at position v ∷ [])
    pub t_within : t.stage ≡ Within (frame_at position w ∷ [])
    pub agree : Agree v w

  pub record Finished (s t : State) : Type 0 where
    pub ending : Ending
    pub s_over : s.stage ≡ Over ending
    pub t_over : t.stage ≡ Over ending

  -- states at the same place, with the same answers left and the same lanes under the names of either
  pub record Related (s t : State) : Type 0 where
    pub answers : s.answers ≡ t.answers
    pub stages : Going s t ⊎ Finished s t
