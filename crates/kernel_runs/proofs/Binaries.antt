-- A module of a binary with a kernel's instructions does what these do.
use Rattle.std.proofs.Common.{◌≡◌, ℕ, zero, suc, ◌==◌, Bool, true, false, cond, List, [], ◌∷◌, ◌++◌, Some, None, map, filter, length, slice_get, is_some, sym, ◌∙◌, ap, ap₂, refl, All, Contains, arith}
use Rattle.std.specs.Prelude.{Option, flat_map, find, unwrap_or}
use Rattle.std.specs.Str.{bytes_eq}
use Rattle.std.proofs.lemmas.List.Elements.{All-head, All-tail, All-nil, All-cons, Contains-append_left, Contains-append_right}
use borrow.Author.Tests.{eq-eqb}
use Rattle.inst_walk.specs.declared.body.Block.{Block}
use Rattle.kern_lanes.specs.declared.binary.BinOp.TheVariants.{Add as sum_of}
use Rattle.kern_lanes.specs.declared.width.Width.TheVariants.{W32}
use Rattle.kern_types.specs.declared.class.Class.TheVariants.{Global}
use Rattle.kern_types.specs.declared.ty.Ty.{Ty}
use Rattle.kern_types.specs.declared.ty.Ty.TheVariants as ty
use Rattle.kern_types.specs.Layouts.{◌>>=◌}
use Rattle.kern_events.specs.declared.item.Inputs.{Inputs}
use Rattle.kern_acts.specs.Shapes.{Shape, scalar, access_of}
use Rattle.kern_acts.specs.Acts.{Operand, Act, Binary, Load, Store, Return}
use Rattle.kern_acts.specs.Bodies.{inst_at}
use Rattle.kern_acts.specs.States.{Frame, Values, Parameter, started}
use Rattle.spv_module.specs.declared.inst.SpvInst.{SpvInst}
use Rattle.spv_module.specs.declared.module.Entry.{Entry}
use Rattle.spv_module.specs.declared.module.SpvModule.{SpvModule}
use Rattle.spv_module.specs.declared.module.Variable.{Variable}
use Rattle.spv_play.specs.Types.{type_of_value, shape_by, class_by}
use Rattle.spv_play.specs.Acts.{act_of, read, read_by, align_in, is_volatile}
use Rattle.spv_play.specs.Meaning as meaning
use Rattle.kernel_tree.specs.declared.kernel.Kernel.{Kernel}
use Rattle.kernel_tree.specs.declared.kernel.KernelInst.{KernelInst}
use Rattle.kernel_tree.specs.declared.kernel.KernelInst.TheVariants as inst
use Rattle.kernel_tree.specs.declared.kernel.KernelParam.{KernelParam}
use Rattle.kernel_tree.specs.declared.kernel.ValueType.{ValueType}
use Rattle.kernel_tree.specs.declared.kernel.ValueType.TheVariants.{Int, Pointer}
use Rattle.kernel_tree.specs.declared.names.Use.{Use}
use Rattle.kernel_tree.specs.Names.{used_by}
use Rattle.kernel_tree.specs.Numbered.{name_bytes}
use Rattle.kernel_runs.specs.Images.{IsImage, HasNumbers, access_words, inst_image, end_image, param_image, param_seen, unplaced, type_image}
use Rattle.kernel_runs.specs.Names.{IsTyped, IsTypedUse, value_numbers, inst_numbers, param_number, result_typed}
use Rattle.kernel_runs.proofs.Plays.{Plays, kernel_act, frame_at, word_access}
use Rattle.kernel_runs.proofs.Starts.{value_shape, kernel_parameter, kernel_start, map-map}
use Rattle.kernel_runs.proofs.Typings.{value-type}

pub All-front : {X : Type 0} (P : X → Type 0) (xs ys : List X) → All P (xs ++ ys) → All P xs
All-front P [] ys h = All-nil P
All-front P (x ∷ xs) ys h = All-cons P x xs (All-head P x (xs ++ ys) h) (All-front P xs ys (All-tail P x (xs ++ ys) h))

pub All-back : {X : Type 0} (P : X → Type 0) (xs ys : List X) → All P (xs ++ ys) → All P ys
All-back P [] ys h = h
All-back P (x ∷ xs) ys h = All-back P xs ys (All-tail P x (xs ++ ys) h)

-- reading from a list of instructions without their places
unplaced-at : (act : SpvInst → Option Act) → ((i : SpvInst) → act i ≡ act (unplaced i)) → (insts : List SpvInst) (position : ℕ)
    → (slice_get insts position >>= act) ≡ (slice_get (map unplaced insts) position >>= act)
unplaced-at act same [] position = refl
unplaced-at act same (i ∷ insts) zero = same i
unplaced-at act same (i ∷ insts) (suc position) = unplaced-at act same insts position

-- the access of a number, whether or not its alignment is written
access-word : (is_aligned : Bool) → access_of Global (scalar W32) (align_in (access_words is_aligned)) (is_volatile (access_words is_aligned)) ≡ Some word_access
access-word true = refl
access-word false = refl

module _ (kernel : Kernel) (f : ℕ → ℕ) (m : SpvModule) (typed : IsTyped kernel) (is : IsImage kernel f m) where
  -- no value is a constant or a variable of the module
  read-is : (frame : Frame) (n : ℕ) → Contains (value_numbers kernel) n → read m frame (f n) ≡ Some (frame.values (f n))
  read-is frame n at =
      ap₂ (λ constant variables. read_by constant (find (λ (v : Variable). v.id == f n) variables) (frame.values (f n))) (is.no_constant n at) is.no_variables

  module _ (position : ℕ) (values : Values) where
    -- the type of a value that is used
    used-type : (used : Use) → Contains (value_numbers kernel) used.name.number → IsTypedUse kernel used
        → type_of_value m 0 (f used.name.number) ≡ Some (type_image is.int used.value_type)
    used-type used at found = value-type kernel f m is used.name.number at used.value_type found

    inst-act : (i : KernelInst) → All (IsTypedUse kernel) (used_by i) → All (HasNumbers m is.int_id) (result_typed i)
        → ((n : ℕ) → Contains (inst_numbers i) n → Contains (value_numbers kernel) n)
        → act_of m (frame_at position values) (inst_image f is.int_id is.states_alignment i) ≡ Some (kernel_act f values i)
    inst-act (inst.Add sum left right) used results named =
        let at = frame_at position values in
        let known = All-head (HasNumbers m is.int_id) (sum.number, Int) [] results in
        let chain : Option Ty → Option Operand → Option Operand → Option Act = λ t x y.
        t >>= λ type. shape_by type >>= λ shape. x >>= λ a. y >>= λ b. Some (Binary sum_of shape.width (f sum.number) a b) in
        ap (λ t. chain t (read m at (f left.number)) (read m at (f right.number))) known
        ∙ ap₂ (chain (Some (ty.Int W32))) (read-is at left.number (named left.number (1, omega arith, refl))) (read-is at right.number (named right.number (2, omega arith, refl)))
    inst-act (inst.Load loaded pointer is_aligned) used results named =
        let states = is.states_alignment (inst.Load loaded pointer is_aligned) in
        let at = frame_at position values in
        let known = All-head (HasNumbers m is.int_id) (loaded.number, Int) [] results in
        let use_of : Use = record { name = pointer; value_type = Pointer } in
        let held = named pointer.number (1, omega arith, refl) in
        let pointed = used-type use_of held (All-head (IsTypedUse kernel) use_of [] used) in
        let chain : Option Ty → Option Ty → Option Operand → Option Act = λ t u x.
        t >>= λ to. class_by to >>= λ class. u >>= λ type. shape_by type >>= λ shape.
        access_of class shape (align_in (access_words states)) (is_volatile (access_words states)) >>= λ access. x >>= λ p. Some (Load access (f loaded.number) p) in
        ap₂ (λ t u. chain t u (read m at (f pointer.number))) pointed known
        ∙ (ap (chain (Some (type_image is.int Pointer)) (Some (ty.Int W32))) (read-is at pointer.number held)
        ∙ ap (λ given. given >>= λ access. Some (Load access (f loaded.number) (values (f pointer.number)))) (access-word states))
    inst-act (inst.Store value pointer is_aligned) used results named =
        let states = is.states_alignment (inst.Store value pointer is_aligned) in
        let at = frame_at position values in
        let use_of : Use = record { name = pointer; value_type = Pointer } in
        let value_use : Use = record { name = value; value_type = Int } in
        let held = named pointer.number (1, omega arith, refl) in
        let held_value = named value.number (0, omega arith, refl) in
        let pointed = used-type use_of held (All-head (IsTypedUse kernel) use_of [] (All-tail (IsTypedUse kernel) value_use (use_of ∷ []) used)) in
        let stored = used-type value_use held_value (All-head (IsTypedUse kernel) value_use (use_of ∷ []) used) in
        let chain : Option Ty → Option Ty → Option Operand → Option Operand → Option Act = λ t u x y.
        t >>= λ to. class_by to >>= λ class. u >>= λ type. shape_by type >>= λ shape.
        access_of class shape (align_in (access_words states)) (is_volatile (access_words states)) >>= λ access. x >>= λ v. y >>= λ p. Some (Store access v p) in
        ap₂ (λ t u. chain t u (read m at (f value.number)) (read m at (f pointer.number))) pointed stored
        ∙ (ap₂ (chain (Some (type_image is.int Pointer)) (Some (ty.Int W32))) (read-is at value.number held_value) (read-is at pointer.number held)
        ∙ ap (λ given. given >>= λ access. Some (Store access (values (f value.number)) (values (f pointer.number)))) (access-word states))

    acts-at : (insts : List KernelInst) (place : ℕ) → All (IsTypedUse kernel) (flat_map used_by insts) → All (HasNumbers m is.int_id) (flat_map result_typed insts)
        → ((n : ℕ) → Contains (flat_map inst_numbers insts) n → Contains (value_numbers kernel) n)
        → (slice_get (map (inst_image f is.int_id is.states_alignment) insts ++ end_image ∷ []) place >>= act_of m (frame_at position values))
        ≡ slice_get (map (kernel_act f values) insts ++ Return ∷ []) place
    acts-at [] zero used results named = refl
    acts-at [] (suc place) used results named = refl
    acts-at (i ∷ insts) zero used results named =
        inst-act i (All-front (IsTypedUse kernel) (used_by i) (flat_map used_by insts) used)
        (All-front (HasNumbers m is.int_id) (result_typed i) (flat_map result_typed insts) results)
        (λ n at. named n (Contains-append_left (inst_numbers i) (flat_map inst_numbers insts) n at))
    acts-at (i ∷ insts) (suc place) used results named =
        acts-at insts place (All-back (IsTypedUse kernel) (used_by i) (flat_map used_by insts) used)
        (All-back (HasNumbers m is.int_id) (result_typed i) (flat_map result_typed insts) results)
        (λ n at. named n (Contains-append_right (inst_numbers i) (flat_map inst_numbers insts) n at))

    -- the instruction at a place of the kernel's only block
    inst-at : inst_at m.bodies (frame_at position values) ≡ slice_get is.block.insts position
    inst-at =
        ap (λ bodies. inst_at bodies (frame_at position values)) is.bodies
        ∙ ap (λ blocks. (slice_get blocks 0 >>= λ (block : Block SpvInst ℕ). Some block.insts) >>= λ insts. slice_get insts position) is.blocks

    act-at : (inst_at m.bodies (frame_at position values) >>= act_of m (frame_at position values)) ≡ slice_get (map (kernel_act f values) kernel.insts ++ Return ∷ []) position
    act-at =
        ap (λ x. x >>= act_of m (frame_at position values)) inst-at
        ∙ (unplaced-at (act_of m (frame_at position values)) (λ i. refl) is.block.insts position
        ∙ (ap (λ insts. slice_get insts position >>= act_of m (frame_at position values)) is.insts
        ∙ acts-at kernel.insts position typed
        is.numbers
        (λ n at. Contains-append_right (map param_number kernel.params) (flat_map inst_numbers kernel.insts) n at)))

  pub image-plays : Plays kernel f (meaning.spirv_program m)
  image-plays = record {
    injective = is.injective;
    waits = λ s. ap (λ variables. is_some (slice_get (filter (λ (v : Variable). meaning.is_placed_class v.class) variables) (length s.placed))) is.no_variables;
    acts = λ s position values. act-at position values;
  }

  parameter-by : ℕ × Option Ty → Parameter
  parameter-by seen = record { name = seen.0; shape = unwrap_or (seen.1 >>= shape_by) meaning.no_lanes }

  -- the parameters as the types of their ids give them
  params-known : (params : List KernelParam) → map parameter-by (map (param_image f is.int) params) ≡ map (kernel_parameter f) params
  unfolding parameter-by
  params-known [] = refl
  params-known (param ∷ params) =
      let made : Shape → Parameter = λ shape. record { name = f param.name.number; shape = shape } in
      ap₂ (λ first more. first ∷ more) (ap made (shape-image param.value_type)) (params-known params)
    where
      shape-image : (t : ValueType) → unwrap_or (shape_by (type_image is.int t)) meaning.no_lanes ≡ value_shape t
      shape-image Int = refl
      shape-image Pointer = refl

  parameters-are : meaning.parameters_of m is.function ≡ map (kernel_parameter f) kernel.params
  unfolding parameter-by
  parameters-are =
      sym (map-map parameter-by (param_seen m) is.function.params) ∙ (ap (map parameter-by) is.params ∙ params-known kernel.params)

  function-found : (id : ℕ) (inputs : Inputs) → id ≡ is.function.id → meaning.start_among m id inputs 0 m.functions ≡ Some (kernel_start kernel f inputs)
  function-found id inputs same =
      ap (meaning.start_among m id inputs 0) is.functions
      ∙ (ap (λ b. cond b (Some (started 0 (meaning.parameters_of m is.function) inputs)) None) (eq-eqb is.function.id id (sym same))
      ∙ ap (λ ps. Some (started 0 ps inputs)) parameters-are)

  -- where the kernel starts
  pub image-start : (name : List ℕ) (inputs : Inputs)
      → meaning.spirv_start m name inputs ≡ cond (bytes_eq (name_bytes kernel) name) (Some (kernel_start kernel f inputs)) None
  unfolding meaning.spirv_start
  image-start name inputs =
      ap (λ entries. find (λ (entry : Entry). bytes_eq entry.name name) entries >>= λ entry. meaning.start_among m entry.function inputs 0 m.functions) is.entries
      ∙ (by_name (bytes_eq is.entry.name name) ∙ ap (λ bytes. cond (bytes_eq bytes name) (Some (kernel_start kernel f inputs)) None) is.entry_name)
    where
      by_name : (b : Bool) → (cond b (Some is.entry) None >>= λ (entry : Entry). meaning.start_among m entry.function inputs 0 m.functions)
          ≡ cond b (Some (kernel_start kernel f inputs)) None
      by_name true = function-found is.entry.function inputs is.entry_function
      by_name false = refl
