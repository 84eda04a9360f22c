-- Places don't matter to the meaning of a module.
use Rattle.std.proofs.Common.{◌≡◌, ℕ, suc, cond, List, [], ◌∷◌, Some, None, map, zip, length, slice_get, is_some, option_map, sym, ◌∙◌, ap, ap₂, refl}
use Rattle.std.specs.Prelude.{Option, unwrap_or}
use Rattle.inst_walk.specs.declared.body.Body.{Body}
use Rattle.kern_lanes.specs.Widths.{lane}
use Rattle.kern_types.specs.Layouts.{◌>>=◌}
use Rattle.kern_events.specs.declared.item.Inputs.{Inputs}
use Rattle.kern_runs.specs.Machines.{run}
use Rattle.kern_acts.specs.Shapes.{Shape, access_of}
use Rattle.kern_acts.specs.Acts.{Operand, Act, Binary, Load, Store}
use Rattle.kern_acts.specs.States.{Frame, Parameter, started}
use Rattle.kern_acts.specs.Steps.{machine}
use Rattle.kern_acts.proofs.Changed.{slice_get-map, program-changed}
use Rattle.ll_tree.specs.declared.inst.Inst.{Inst}
use Rattle.ll_tree.specs.declared.module.Function.{Function}
use Rattle.ll_tree.specs.declared.module.LlModule.{LlModule}
use Rattle.ll_tree.specs.declared.module.Param.{Param}
use Rattle.ll_tree.specs.declared.module.Variable.{Variable}
use Rattle.ll_tree.specs.declared.name.Name.{Name}
use Rattle.ll_tree.specs.declared.name.NameText.{NameText}
use Rattle.ll_tree.specs.declared.op.Op.{Op}
use Rattle.ll_tree.specs.declared.op.Op.TheVariants as op
use Rattle.ll_tree.specs.declared.ty.LlType.{LlType}
use Rattle.ll_tree.specs.declared.ty.TypeBase.{TypeBase, Void, Int, Half, Float, Double, Named, Array', Vector', Struct', Packed'}
use Rattle.ll_tree.specs.declared.value.TypedValue.{TypedValue}
use Rattle.ll_tree.specs.declared.value.Value.{Value}
use Rattle.ll_tree.specs.declared.value.Value as value
use Rattle.ll_tree.specs.Insts.{inst_changed}
use Rattle.ll_tree.specs.Modules.{param_changed, function_changed, variable_changed, number_changed, block_changed, body_changed, without_places}
use Rattle.ll_tree.specs.Names.{name_unplaced}
use Rattle.ll_tree.specs.Ops.{op_changed}
use Rattle.ll_tree.specs.Types.{type_changed, base_changed, int_width, base_width}
use Rattle.ll_tree.specs.Values.{value_changed, typed_changed}
use Rattle.ll_play.specs.Types.{width_of, shape_of, shape_by, class_of}
use Rattle.ll_play.specs.Acts.{read, read_typed, act_of}
use Rattle.ll_play.specs.Meaning.{is_placing, inst_act, llvm_program, is_kernel_named, no_lanes, parameter_of, start_among, llvm_start, llvm_run}
use Rattle.ll_play.specs.Laws.{PlacesChangeNothing}

abbrev at_start : ℕ → ℕ
at_start byte = 0

abbrev typed_moved : TypedValue → TypedValue
typed_moved typed = typed_changed name_unplaced (type_changed name_unplaced) typed

base-same : (pointers : List ℕ) (base : TypeBase) → base_width pointers (base_changed name_unplaced base) ≡ base_width pointers base
base-same pointers Void = refl
base-same pointers (Int bits) = refl
base-same pointers Half = refl
base-same pointers Float = refl
base-same pointers Double = refl
base-same pointers (Named name) = refl
base-same pointers (Array' count shape part) = refl
base-same pointers (Vector' count shape part) = refl
base-same pointers (Struct' shape members) = refl
base-same pointers (Packed' shape members) = refl

width-same : (ty : LlType) → int_width (type_changed name_unplaced ty) ≡ int_width ty
width-same ty = base-same ty.pointers ty.base

shape-same : (ty : LlType) → shape_of (type_changed name_unplaced ty) ≡ shape_of ty
shape-same ty = ap (shape_by ty.pointers) (width-same ty)

read-same : (frame : Frame) (ty : LlType) (v : Value) → read frame (type_changed name_unplaced ty) (value_changed name_unplaced (type_changed name_unplaced) v) ≡ read frame ty v
read-same frame ty (value.Local name) = refl
read-same frame ty (value.Global name) = refl
read-same frame ty (value.Int number) =
    ap (λ bits. bits >>= λ count. width_of count >>= λ width. Some (Some (lane width number ∷ []))) (width-same ty)
read-same frame ty (value.Bytes bytes) = refl
read-same frame ty (value.Bool truth) = refl
read-same frame ty value.Null = refl
read-same frame ty value.Zero = refl
read-same frame ty value.Undef = refl
read-same frame ty value.Poison = refl
read-same frame ty (value.Vector' shape parts) = refl
read-same frame ty (value.Array' shape parts) = refl
read-same frame ty (value.Struct' shape parts) = refl
read-same frame ty (value.Packed' shape parts) = refl
read-same frame ty (value.GetElementPtr' inbounds to shape operands) = refl
read-same frame ty (value.Cast' kind shape operand to) = refl

typed-same : (frame : Frame) (typed : TypedValue) → read_typed frame (typed_moved typed) ≡ read_typed frame typed
typed-same frame typed = read-same frame typed.ty typed.value

act-same : (frame : Frame) (defines : Option Name) (o : Op) → act_of frame (option_map name_unplaced defines) (op_changed name_unplaced at_start o) ≡ act_of frame defines o
act-same frame None (op.Binary kind flags ty left right) = refl
act-same frame (Some name) (op.Binary kind flags ty left right) =
    let from : Option Shape → Option Operand → Option Operand → Option Act = λ shaped x y.
    shaped >>= λ shape. x >>= λ a. y >>= λ b. Some (Binary kind shape.width name.number a b) in
    ap (λ shaped. from shaped (read frame (type_changed name_unplaced ty) (value_changed name_unplaced (type_changed name_unplaced) left))
    (read frame (type_changed name_unplaced ty) (value_changed name_unplaced (type_changed name_unplaced) right))) (shape-same ty)
    ∙ ap₂ (from (shape_of ty)) (read-same frame ty left) (read-same frame ty right)
act-same frame None (op.Load volatile ty pointer align) = refl
act-same frame (Some name) (op.Load volatile ty pointer align) =
    ap₂ (λ shaped x. class_of pointer.ty >>= λ class. shaped >>= λ shape. access_of class shape align volatile >>= λ access. x >>= λ p. Some (Load access name.number p))
    (shape-same ty) (typed-same frame pointer)
act-same frame defines (op.Store volatile stored pointer align) =
    let from : Option Shape → Option Operand → Option Operand → Option Act = λ shaped x y.
    class_of pointer.ty >>= λ class. shaped >>= λ shape. access_of class shape align volatile >>= λ access. x >>= λ v. y >>= λ p. Some (Store access v p) in
    ap (λ shaped. from shaped (read_typed frame (typed_moved stored)) (read_typed frame (typed_moved pointer))) (shape-same stored.ty)
    ∙ ap₂ (from (shape_of stored.ty)) (typed-same frame stored) (typed-same frame pointer)
act-same frame defines (op.Compare pred ty left right) = refl
act-same frame defines (op.Select condition accepted rejected) = refl
act-same frame defines (op.Cast kind operand to) = refl
act-same frame defines (op.Phi ty entries) = refl
act-same frame defines (op.Alloca ty count align) = refl
act-same frame defines (op.AtomicLoad ty pointer scope order align) = refl
act-same frame defines (op.AtomicStore stored pointer scope order align) = refl
act-same frame defines (op.CompareExchange pointer comparator stored scope equal unequal align) = refl
act-same frame defines (op.AtomicRmw kind pointer stored scope order align) = refl
act-same frame defines (op.Fence scope order) = refl
act-same frame defines (op.GetElementPtr inbounds ty pointer indexes) = refl
act-same frame defines (op.ExtractElement vector index) = refl
act-same frame defines (op.InsertElement vector element index) = refl
act-same frame defines (op.ShuffleVector left right mask) = refl
act-same frame defines (op.ExtractValue aggregate index) = refl
act-same frame defines (op.Call ty callee arguments) = refl
act-same frame defines op.ReturnVoid = refl
act-same frame defines (op.Return returned) = refl
act-same frame defines (op.Jump target) = refl
act-same frame defines (op.Branch condition accepted rejected) = refl
act-same frame defines (op.Switch selector default cases) = refl
act-same frame defines op.Unreachable = refl

placing-same : (variables : List Variable) (n : ℕ) → is_some (slice_get (map (variable_changed name_unplaced at_start) variables) n) ≡ is_some (slice_get variables n)
placing-same variables n =
    ap (λ x. is_some x) (slice_get-map (variable_changed name_unplaced at_start) variables n) ∙ by_variable (slice_get variables n)
  where
    by_variable : (x : Option Variable) → is_some (option_map (variable_changed name_unplaced at_start) x) ≡ is_some x
    by_variable None = refl
    by_variable (Some v) = refl

parameters-same : (names : List ℕ) (params : List Param)
    → map parameter_of (zip (map (number_changed name_unplaced at_start) names) (map (param_changed name_unplaced at_start) params)) ≡ map parameter_of (zip names params)
parameters-same [] params = refl
parameters-same (name ∷ names) [] = refl
parameters-same (name ∷ names) (param ∷ params) =
    let made : Option Shape → Parameter = λ shape. record { name = name; shape = unwrap_or shape no_lanes } in
    ap₂ (λ first more. first ∷ more) (ap made (shape-same param.ty)) (parameters-same names params)

among-same : (table : List NameText) (name : List ℕ) (inputs : Inputs) (place : ℕ) (functions : List Function) (bodies : List (Body Inst ℕ))
    → start_among table name inputs place (map (function_changed name_unplaced at_start) functions) (map (body_changed name_unplaced at_start) bodies)
    ≡ start_among table name inputs place functions bodies
among-same table name inputs place [] bodies = refl
among-same table name inputs place (function ∷ functions) [] = refl
among-same table name inputs place (function ∷ functions) (body ∷ bodies) =
    ap₂ (λ params later. cond (is_kernel_named table name function) (Some (started place params inputs)) later)
    (parameters-same body.params function.head.params) (among-same table name inputs (suc place) functions bodies)

module _ (m : LlModule) where
  moved : LlModule
  moved = without_places m

  programs-same : llvm_program moved ≡ llvm_program m
  unfolding moved without_places
  programs-same =
      program-changed (inst_changed name_unplaced at_start) (block_changed name_unplaced at_start) (body_changed name_unplaced at_start) (λ body. refl) (λ block. refl) m.bodies
      (is_placing moved) (is_placing m) inst_act inst_act (λ s. placing-same m.variables (length s.placed)) (λ s frame inst. act-same frame inst.defines inst.op)

  starts-same : (name : List ℕ) (inputs : Inputs) → llvm_start moved name inputs ≡ llvm_start m name inputs
  unfolding moved without_places llvm_start
  starts-same name inputs = among-same m.names name inputs 0 m.functions m.bodies

  runs-same : (name : List ℕ) (inputs : Inputs) (steps : ℕ) → llvm_run moved name inputs steps ≡ llvm_run m name inputs steps
  unfolding llvm_run
  runs-same name inputs steps = ap₂ (λ program start. option_map (λ state. run (machine program) state steps) start) programs-same (starts-same name inputs)

pub places-change-nothing : PlacesChangeNothing
unfolding moved
places-change-nothing = λ m n same. record {
  programs = sym (programs-same m) ∙ (ap llvm_program same ∙ programs-same n);
  starts = λ name inputs. sym (starts-same m name inputs) ∙ (ap (λ x. llvm_start x name inputs) same ∙ starts-same n name inputs);
  runs = λ name inputs steps. sym (runs-same m name inputs steps) ∙ (ap (λ x. llvm_run x name inputs steps) same ∙ runs-same n name inputs steps);
}
