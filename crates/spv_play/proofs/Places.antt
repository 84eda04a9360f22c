-- Places and the byte order don't matter to the meaning of a module.
use Rattle.std.proofs.Common.{◌≡◌, ℕ, zero, suc, ◌==◌, nat_eq, Bool, true, false, cond, List, [], ◌∷◌, ◌++◌, Some, None, map, filter, length, slice_get, is_some, option_map, sym, ◌∙◌, ap, ap₂, refl}
use Rattle.std.specs.Prelude.{Option, find, unwrap_or}
use Rattle.std.specs.Map.{lookup}
use Rattle.std.specs.Str.{bytes_eq}
use Rattle.inst_walk.specs.declared.body.Block.{Block}
use Rattle.inst_walk.specs.declared.body.Body.{Body}
use Rattle.kern_types.specs.declared.ty.Ty.{Ty}
use Rattle.kern_types.specs.Layouts.{◌>>=◌}
use Rattle.kern_events.specs.declared.item.Inputs.{Inputs}
use Rattle.kern_runs.specs.Machines.{run}
use Rattle.kern_acts.specs.Shapes.{access_of}
use Rattle.kern_acts.specs.Acts.{Operand, Act, Binary, Load, Store, Return}
use Rattle.kern_acts.specs.States.{Frame, Parameter, started}
use Rattle.kern_acts.specs.Steps.{machine}
use Rattle.kern_acts.proofs.Changed.{slice_get-map, program-changed}
use Rattle.spv_module.specs.declared.inst.SpvInst.{SpvInst}
use Rattle.spv_module.specs.declared.module.Constant.{Constant}
use Rattle.spv_module.specs.declared.module.Entry.{Entry}
use Rattle.spv_module.specs.declared.module.Function.{Function}
use Rattle.spv_module.specs.declared.module.Param.{Param}
use Rattle.spv_module.specs.declared.module.SpvModule.{SpvModule}
use Rattle.spv_module.specs.declared.module.Variable.{Variable}
use Rattle.spv_module.specs.declared.types.TypeName.{TypeName}
use Rattle.spv_module.specs.Modules.{inst_moved, block_moved, body_moved, param_moved, function_moved, entry_moved, constant_moved, variable_moved, type_name_moved, without_places}
use Rattle.spv_play.specs.Types.{type_among, type_named, typed_blocks, typing_of, typing_at, type_of_value, shape_by, class_by}
use Rattle.spv_play.specs.Acts.{Kind, Computes, Loads, Stores, Returns, kind_of, constant_named, variable_named, read_by, read, one_id, two_ids, align_in, is_volatile, act_by, act_of}
use Rattle.spv_play.specs.Meaning.{is_placed_class, is_placing, inst_act, spirv_program, no_lanes, parameter_of, parameters_of, start_among, spirv_start, spirv_run}
use Rattle.spv_play.specs.Laws.{PlacesChangeNothing}

abbrev at_start : ℕ → ℕ
at_start place = 0

map-map : {A B C : Type 0} (h : B → C) (k : A → B) (xs : List A) → map h (map k xs) ≡ map (λ x. h (k x)) xs
map-map h k [] = refl
map-map h k (x ∷ xs) = ap (λ more. h (k x) ∷ more) (map-map h k xs)

bind-same : {A B : Type 0} (x : Option A) (g h : A → Option B) → ((a : A) → g a ≡ h a) → (x >>= g) ≡ (x >>= h)
bind-same None g h same = refl
bind-same (Some a) g h same = same a

find-moved : {A : Type 0} (move : A → A) (test : A → Bool) → ((a : A) → test (move a) ≡ test a) → (xs : List A) → find test (map move xs) ≡ option_map move (find test xs)
find-moved move test same [] = refl
find-moved {A} move test same (x ∷ xs) = ap (λ b. cond b (Some (move x)) (find test (map move xs))) (same x) ∙ by_test (test x) (find-moved move test same xs)
  where
    by_test : (b : Bool) → find test (map move xs) ≡ option_map move (find test xs)
        → cond b (Some (move x)) (find test (map move xs)) ≡ option_map move (cond b (Some x) (find test xs))
    by_test true later = refl
    by_test false later = later

type-among : (names : List TypeName) (types : List Ty) (id : ℕ) → type_among (map (type_name_moved at_start) names) types id ≡ type_among names types id
type-among [] types id = refl
type-among (name ∷ names) [] id = refl
type-among (name ∷ names) (type ∷ types) id = ap (cond (name.id == id) (Some type)) (type-among names types id)

blocks-typed : (blocks : List (Block SpvInst ℕ)) → typed_blocks (map (block_moved at_start) blocks) ≡ typed_blocks blocks
blocks-typed [] = refl
blocks-typed (block ∷ blocks) =
    ap₂ (λ xs ys. xs ++ ys) (map-map (λ (i : SpvInst). (i.result, i.ty)) (inst_moved at_start) block.insts) (blocks-typed blocks)

-- what an instruction does, by the types of ids and by what is read
act-from : (ℕ → Option Ty) → (ℕ → Option Ty) → (ℕ → Option Operand) → SpvInst → Kind → Option Act
act-from named typed reads inst (Computes op) =
    named inst.ty >>= λ type. shape_by type >>= λ shape. two_ids inst.operands.ids >>= λ ids.
    reads ids.0 >>= λ a. reads ids.1 >>= λ b. Some (Binary op shape.width inst.result a b)
act-from named typed reads inst Loads =
    one_id inst.operands.ids >>= λ id. typed id >>= λ pointer. class_by pointer >>= λ class.
    named inst.ty >>= λ type. shape_by type >>= λ shape.
    access_of class shape (align_in inst.operands.words) (is_volatile inst.operands.words) >>= λ access.
    reads id >>= λ p. Some (Load access inst.result p)
act-from named typed reads inst Stores =
    two_ids inst.operands.ids >>= λ ids. typed ids.0 >>= λ pointer. class_by pointer >>= λ class.
    typed ids.1 >>= λ type. shape_by type >>= λ shape.
    access_of class shape (align_in inst.operands.words) (is_volatile inst.operands.words) >>= λ access.
    reads ids.1 >>= λ v. reads ids.0 >>= λ p. Some (Store access v p)
act-from named typed reads inst Returns = Some Return

act-is : (m : SpvModule) (frame : Frame) (inst : SpvInst) (kind : Kind) → act_by m frame inst kind ≡ act-from (type_named m) (type_of_value m frame.function) (read m frame) inst kind
unfolding act-from
act-is m frame inst (Computes op) = refl
act-is m frame inst Loads = refl
act-is m frame inst Stores = refl
act-is m frame inst Returns = refl

module _ (m : SpvModule) where
  moved : SpvModule
  unfolding without_places
  moved = without_places m

  named-same : (id : ℕ) → type_named moved id ≡ type_named m id
  unfolding moved without_places
  named-same id = type-among m.types.names m.types.table.types id

  typing-same : (function : Function) (body : Body SpvInst ℕ) → typing_of moved (function_moved at_start function) (body_moved at_start body) ≡ typing_of m function body
  unfolding moved without_places
  typing-same function body =
      ap₂ (λ xs ys. xs ++ ys) (map-map (λ (p : Param). (p.id, p.ty)) (param_moved at_start) function.params)
      (ap₂ (λ xs ys. xs ++ ys) (blocks-typed body.blocks)
      (ap₂ (λ xs ys. xs ++ ys) (map-map (λ (c : Constant). (c.id, c.ty)) (constant_moved at_start) m.constants) (map-map (λ (v : Variable). (v.id, v.ty)) (variable_moved at_start) m.variables)))

  typing-at-same : (place : ℕ) → typing_at moved place ≡ typing_at m place
  unfolding moved without_places
  typing-at-same place =
      ap₂ (λ functions bodies. functions >>= λ function. bodies >>= λ body. Some (typing_of moved function body))
      (slice_get-map (function_moved at_start) m.functions place) (slice_get-map (body_moved at_start) m.bodies place)
      ∙ by_parts (slice_get m.functions place) (slice_get m.bodies place)
    where
      by_parts : (x : Option Function) (y : Option (Body SpvInst ℕ))
          → (option_map (function_moved at_start) x >>= λ function. option_map (body_moved at_start) y >>= λ body. Some (typing_of moved function body))
          ≡ (x >>= λ function. y >>= λ body. Some (typing_of m function body))
      by_parts None y = refl
      by_parts (Some function) None = refl
      by_parts (Some function) (Some body) = ap Some (typing-same function body)

  value-same : (place id : ℕ) → type_of_value moved place id ≡ type_of_value m place id
  value-same place id =
      ap (λ x. x >>= λ typing. lookup (nat_eq id) typing >>= λ type. type_named moved type) (typing-at-same place)
      ∙ bind-same (typing_at m place) (λ typing. lookup (nat_eq id) typing >>= λ type. type_named moved type) (λ typing. lookup (nat_eq id) typing >>= λ type. type_named m type)
      (λ typing. bind-same (lookup (nat_eq id) typing) (type_named moved) (type_named m) named-same)

  read-same : (frame : Frame) (id : ℕ) → read moved frame id ≡ read m frame id
  unfolding moved without_places
  read-same frame id =
      ap₂ (λ constant variable. read_by constant variable (frame.values id))
      (find-moved (constant_moved at_start) (λ (c : Constant). c.id == id) (λ c. refl) m.constants) (find-moved (variable_moved at_start) (λ (v : Variable). v.id == id) (λ v. refl) m.variables)
      ∙ by_parts (constant_named m id) (variable_named m id)
    where
      by_parts : (x : Option Constant) (y : Option Variable)
          → read_by (option_map (constant_moved at_start) x) (option_map (variable_moved at_start) y) (frame.values id) ≡ read_by x y (frame.values id)
      by_parts (Some constant) y = refl
      by_parts None (Some variable) = refl
      by_parts None None = refl

  act-same : (frame : Frame) (inst : SpvInst) → act_of moved frame (inst_moved at_start inst) ≡ act_of m frame inst
  act-same frame inst =
      let named : type_named moved ≡ type_named m = λ i id. named-same id i in
      let typed : type_of_value moved frame.function ≡ type_of_value m frame.function = λ i id. value-same frame.function id i in
      let reads : read moved frame ≡ read m frame = λ i id. read-same frame id i in
      bind-same (kind_of inst.op) (act_by moved frame inst) (act_by m frame inst)
      (λ kind. act-is moved frame inst kind ∙ ((λ i. act-from (named i) (typed i) (reads i) inst kind) ∙ sym (act-is m frame inst kind)))

  filter-moved : (variables : List Variable) (place : ℕ) → is_some (slice_get (filter (λ (v : Variable). is_placed_class v.class) (map (variable_moved at_start) variables)) place)
      ≡ is_some (slice_get (filter (λ (v : Variable). is_placed_class v.class) variables) place)
  filter-moved [] place = refl
  filter-moved (v ∷ variables) place = by_test (is_placed_class v.class) place (λ n. filter-moved variables n)
    where
      kept : List Variable → List Variable
      kept xs = filter (λ (v : Variable). is_placed_class v.class) xs

      by_test : (b : Bool) (n : ℕ) → ((k : ℕ) → is_some (slice_get (kept (map (variable_moved at_start) variables)) k) ≡ is_some (slice_get (kept variables) k))
          → is_some (slice_get (cond b (variable_moved at_start v ∷ kept (map (variable_moved at_start) variables)) (kept (map (variable_moved at_start) variables))) n)
          ≡ is_some (slice_get (cond b (v ∷ kept variables) (kept variables)) n)
      by_test true zero later = refl
      by_test true (suc n) later = later n
      by_test false n later = later n

  programs-same : spirv_program moved ≡ spirv_program m
  unfolding moved without_places
  programs-same =
      program-changed (inst_moved at_start) (block_moved at_start) (body_moved at_start) (λ body. refl) (λ block. refl) m.bodies
      (is_placing moved) (is_placing m) (inst_act moved) (inst_act m) (λ s. filter-moved m.variables (length s.placed)) (λ s frame inst. act-same frame inst)

  parameters-same : (function : Function) → parameters_of moved (function_moved at_start function) ≡ parameters_of m function
  parameters-same function =
      map-map (parameter_of moved) (param_moved at_start) function.params ∙ same function.params
    where
      same : (params : List Param) → map (λ p. parameter_of moved (param_moved at_start p)) params ≡ map (parameter_of m) params
      same [] = refl
      same (p ∷ params) =
          let made : Option Ty → Parameter = λ type. record { name = p.id; shape = unwrap_or (type >>= shape_by) no_lanes } in
          ap₂ (λ first more. first ∷ more) (ap made (named-same p.ty)) (same params)

  among-same : (id : ℕ) (inputs : Inputs) (place : ℕ) (functions : List Function) → start_among moved id inputs place (map (function_moved at_start) functions) ≡ start_among m id inputs place functions
  among-same id inputs place [] = refl
  among-same id inputs place (function ∷ functions) =
      ap₂ (λ params later. cond (function.id == id) (Some (started place params inputs)) later) (parameters-same function) (among-same id inputs (suc place) functions)

  starts-same : (name : List ℕ) (inputs : Inputs) → spirv_start moved name inputs ≡ spirv_start m name inputs
  unfolding moved without_places spirv_start
  starts-same name inputs =
      ap (λ x. x >>= λ (entry : Entry). start_among moved entry.function inputs 0 (map (function_moved at_start) m.functions))
      (find-moved (entry_moved at_start) (λ (entry : Entry). bytes_eq entry.name name) (λ entry. refl) m.entries)
      ∙ by_entry (find (λ (entry : Entry). bytes_eq entry.name name) m.entries)
    where
      by_entry : (x : Option Entry) → (option_map (entry_moved at_start) x >>= λ (entry : Entry). start_among moved entry.function inputs 0 (map (function_moved at_start) m.functions))
          ≡ (x >>= λ (entry : Entry). start_among m entry.function inputs 0 m.functions)
      by_entry None = refl
      by_entry (Some entry) = among-same entry.function inputs 0 m.functions

  runs-same : (name : List ℕ) (inputs : Inputs) (steps : ℕ) → spirv_run moved name inputs steps ≡ spirv_run m name inputs steps
  unfolding spirv_run
  runs-same name inputs steps = ap₂ (λ program start. option_map (λ state. run (machine program) state steps) start) programs-same (starts-same name inputs)

-- a property of a module by that of the module without its places
pub places-change-nothing : PlacesChangeNothing
unfolding moved
places-change-nothing = λ m n same. record {
  programs = sym (programs-same m) ∙ (ap spirv_program same ∙ programs-same n);
  starts = λ name inputs. sym (starts-same m name inputs) ∙ (ap (λ x. spirv_start x name inputs) same ∙ starts-same n name inputs);
  runs = λ name inputs steps. sym (runs-same m name inputs steps) ∙ (ap (λ x. spirv_run x name inputs steps) same ∙ runs-same n name inputs steps);
}
