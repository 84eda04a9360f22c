-- Kernels that start on the same numbers, each under names of its own.
use Rattle.std.proofs.Common.{◌≡◌, ℕ, ◌+◌, Bool, true, false, cond, List, [], ◌∷◌, Some, None, map, drop, sym, ◌∙◌, ap, ap₂, refl, inl, Contains, option_map, arith}
use Rattle.std.specs.Prelude.{Option, flat_map}
use Rattle.std.proofs.lemmas.List.Elements.{Contains-append_left, Contains-append_right}
use Rattle.inst_walk.specs.RenamedBody.{IsInjectiveOn}
use Rattle.kern_lanes.specs.declared.width.Width.TheVariants.{W32, W64}
use Rattle.kern_events.specs.declared.item.Inputs.{Inputs}
use Rattle.kern_runs.specs.Machines.{run}
use Rattle.kern_runs.proofs.Correspondence.{alike}
use Rattle.kern_acts.specs.Shapes.{Shape, scalar}
use Rattle.kern_acts.specs.States.{State, Values, Parameter, lanes_given, set_to, set_from, none_set, started}
use Rattle.kern_acts.specs.Steps.{Program, IsProgram, machine}
use Rattle.kern_acts.proofs.Machines.{is-machine}
use Rattle.kernel_tree.specs.declared.kernel.Kernel.{Kernel}
use Rattle.kernel_tree.specs.declared.kernel.KernelParam.{KernelParam}
use Rattle.kernel_tree.specs.declared.kernel.ValueType.{ValueType}
use Rattle.kernel_tree.specs.declared.kernel.ValueType.TheVariants.{Int, Pointer}
use Rattle.kernel_runs.specs.Alike.{neither, both, SameRuns}
use Rattle.kernel_runs.specs.Names.{value_numbers, inst_numbers, param_number}
use Rattle.kernel_runs.proofs.Lockstep.{corresponds, same-run}
use Rattle.kernel_runs.proofs.Plays.{Plays, Agree, agree-set, Related}
use Rattle.kernel_runs.proofs.Going.{lockstep}

abbrev pub value_shape : ValueType → Shape
value_shape Int = scalar W32
value_shape Pointer = scalar W64

-- a parameter under the name that a function gives
abbrev pub kernel_parameter : (ℕ → ℕ) → KernelParam → Parameter
kernel_parameter f param = record { name = f param.name.number; shape = value_shape param.value_type }

-- the kernel at its start, where it is the only function
abbrev pub kernel_start : Kernel → (ℕ → ℕ) → Inputs → State
kernel_start kernel f inputs = started 0 (map (kernel_parameter f) kernel.params) inputs

pub map-map : {A B C : Type 0} (h : B → C) (k : A → B) (xs : List A) → map h (map k xs) ≡ map (λ x. h (k x)) xs
map-map h k [] = refl
map-map h k (x ∷ xs) = ap (λ more. h (k x) ∷ more) (map-map h k xs)

pub map-same : {A B : Type 0} (h k : A → B) → ((x : A) → h x ≡ k x) → (xs : List A) → map h xs ≡ map k xs
map-same h k same [] = refl
map-same h k same (x ∷ xs) = ap₂ (λ first more. first ∷ more) (same x) (map-same h k same xs)

module _ (kernel : Kernel) (f g : ℕ → ℕ) (f_injective : IsInjectiveOn f (value_numbers kernel)) (g_injective : IsInjectiveOn g (value_numbers kernel)) where
  agree-params : (params : List KernelParam) → ((n : ℕ) → Contains (map param_number params) n → Contains (value_numbers kernel) n)
      → (given : List ℕ) (v w : Values) → Agree kernel f g v w
      → Agree kernel f g (set_from (map (kernel_parameter f) params) given v) (set_from (map (kernel_parameter g) params) given w)
  agree-params [] named given v w agree = agree
  agree-params (param ∷ params) named given v w agree =
      let shape = value_shape param.value_type in
      let name = param.name.number in
      let lanes = lanes_given shape.width shape.count given in
      agree-params params (λ n at. named n (Contains-later n at)) (drop shape.count given)
      (set_to (record { name = f name; lanes = lanes }) v) (set_to (record { name = g name; lanes = lanes }) w)
      (agree-set kernel f g f_injective g_injective v w name lanes (named name (Contains-append_left (name ∷ []) (map param_number params) name (0, omega arith, refl))) agree)
    where
      Contains-later : (n : ℕ) → Contains (map param_number params) n → Contains (param.name.number ∷ map param_number params) n
      Contains-later n at = Contains-append_right (param.name.number ∷ []) (map param_number params) n at

  pub starts-related : (inputs : Inputs) → Related kernel f g (kernel_start kernel f inputs) (kernel_start kernel g inputs)
  starts-related inputs = record {
    answers = refl;
    stages = inl (record {
      position = 0;
      v = set_from (map (kernel_parameter f) kernel.params) inputs.args none_set;
      w = set_from (map (kernel_parameter g) kernel.params) inputs.args none_set;
      s_within = refl;
      t_within = refl;
      agree = agree-params kernel.params (λ n at. Contains-append_left (map param_number kernel.params) (flat_map inst_numbers kernel.insts) n at) inputs.args none_set none_set (λ n at. refl);
    });
  }

-- runs of two programs that do what a kernel does, where each module has the kernel by its name or neither has
pub same-runs : (kernel : Kernel) (f g : ℕ → ℕ) (p q : Program) → Plays kernel f p → Plays kernel g q → IsProgram p → IsProgram q
    → (inputs : Inputs) (found : Bool) (x y : Option State)
    → x ≡ cond found (Some (kernel_start kernel f inputs)) None → y ≡ cond found (Some (kernel_start kernel g inputs)) None
    → SameRuns (p.size + q.size) (λ k. option_map (λ s. run (machine p) s k) x) (λ k. option_map (λ s. run (machine q) s k) y)
same-runs kernel f g p q p_plays q_plays is_p is_q inputs true x y at_x at_y =
    let s = kernel_start kernel f inputs in
    let t = kernel_start kernel g inputs in
    let related = starts-related kernel f g p_plays.injective q_plays.injective inputs in
    let lock = lockstep kernel f g p q p_plays q_plays in
    let shown_x : (k : ℕ) → option_map (λ u. run (machine p) u k) x ≡ Some (run (machine p) s k) = λ k. ap (option_map (λ u. run (machine p) u k)) at_x in
    let shown_y : (k : ℕ) → option_map (λ u. run (machine q) u k) y ≡ Some (run (machine q) t k) = λ k. ap (option_map (λ u. run (machine q) u k)) at_y in
    record {
      step_by_step = λ k. shown_x k ∙ (ap Some (same-run (machine p) (machine q) (Related kernel f g) lock k s t related) ∙ sym (shown_y k));
      alike = both (run (machine p) s) (run (machine q) t) shown_x shown_y
          (alike (machine p) (machine q) (Related kernel f g) (is-machine p is_p) (is-machine q is_q) (corresponds (machine p) (machine q) (Related kernel f g) lock) s t related);
    }
same-runs kernel f g p q p_plays q_plays is_p is_q inputs false x y at_x at_y =
    let none_x : (k : ℕ) → option_map (λ u. run (machine p) u k) x ≡ None = λ k. ap (option_map (λ u. run (machine p) u k)) at_x in
    let none_y : (k : ℕ) → option_map (λ u. run (machine q) u k) y ≡ None = λ k. ap (option_map (λ u. run (machine q) u k)) at_y in
    record { step_by_step = λ k. none_x k ∙ sym (none_y k); alike = neither none_x none_y }
