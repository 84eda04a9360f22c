-- What is changed into itself.
use Rattle.std.proofs.Common.{◌≡◌, ℕ, List, [], ◌∷◌, map, Option, None, Some, option_map, refl, ap, ap₂}
use mathlib.Core.Former.{Count}
use Rattle.ll_tree.specs.declared.name.Name.{Name}
use Rattle.ll_tree.specs.declared.op.AllocaCount.{AllocaCount}
use Rattle.ll_tree.specs.declared.op.Op.{Op}
use Rattle.ll_tree.specs.declared.op.Op.TheVariants as op
use Rattle.ll_tree.specs.declared.op.PhiEntry.{PhiEntry}
use Rattle.ll_tree.specs.declared.op.SwitchCase.{SwitchCase}
use Rattle.ll_tree.specs.declared.ty.LlType.{LlType}
use Rattle.ll_tree.specs.declared.ty.TypeBase as base
use Rattle.ll_tree.specs.declared.ty.TypeBase.{TypeBase, Row_of-LlType, end_of-LlType, more_of-LlType}
use Rattle.ll_tree.specs.declared.value.TypedValue.{TypedValue}
use Rattle.ll_tree.specs.declared.value.Value.{Value, Local, Global, Int, Bytes, Bool as Truth, Null, Zero, Undef, Poison, Vector', Array', Struct', Packed', GetElementPtr', Cast', Row_of-TypedValue, end_of-TypedValue, more_of-TypedValue}
use Rattle.ll_tree.specs.Types as types
use Rattle.ll_tree.specs.Types.{type_changed, base_changed}
use Rattle.ll_tree.specs.Values.{value_changed, row_changed, typed_changed}
use Rattle.ll_tree.specs.Ops.{op_changed, flag_changed, count_changed, entry_changed, case_changed}

pub map-kept : {A : Type 0} (f : A → A) → ((x : A) → f x ≡ x) → (xs : List A) → map f xs ≡ xs
map-kept f same [] = refl
map-kept f same (x ∷ xs) = ap₂ (λ y ys. y ∷ ys) (same x) (map-kept f same xs)

pub option-kept : {A : Type 0} (f : A → A) → ((x : A) → f x ≡ x) → (o : Option A) → option_map f o ≡ o
option-kept f same None = refl
option-kept f same (Some x) = ap (λ y. Some y) (same x)

abbrev pub itself : Name → Name
itself name = name

mutual
  base-kept : (b : TypeBase) → base_changed itself b ≡ b
  base-kept base.Void = refl
  base-kept (base.Int bits) = refl
  base-kept base.Half = refl
  base-kept base.Float = refl
  base-kept base.Double = refl
  base-kept (base.Named name) = refl
  base-kept (base.Array' count shape part) = ap (λ row. base.Array' count shape row) (row-kept part)
  base-kept (base.Vector' count shape part) = ap (λ row. base.Vector' count shape row) (row-kept part)
  base-kept (base.Struct' shape members) = ap (λ row. base.Struct' shape row) (row-kept members)
  base-kept (base.Packed' shape members) = ap (λ row. base.Packed' shape row) (row-kept members)

  row-kept : {k : Count} (row : Row_of-LlType k) → types.row_changed itself row ≡ row
  row-kept end_of-LlType = refl
  row-kept (more_of-LlType b pointers row) = ap₂ (λ x xs. more_of-LlType x pointers xs) (base-kept b) (row-kept row)

pub type-kept : (t : LlType) → type_changed itself t ≡ t
type-kept t = ap (λ (b : TypeBase). let u : LlType = record { base = b; pointers = t.pointers } in u) (base-kept t.base)

abbrev change : LlType → LlType
change = type_changed itself

mutual
  pub value-kept : (v : Value) → value_changed itself change v ≡ v
  value-kept (Local name) = refl
  value-kept (Global name) = refl
  value-kept (Int number) = refl
  value-kept (Bytes bytes) = refl
  value-kept (Truth truth) = refl
  value-kept Null = refl
  value-kept Zero = refl
  value-kept Undef = refl
  value-kept Poison = refl
  value-kept (Vector' shape parts) = ap (λ row. Vector' shape row) (parts-kept parts)
  value-kept (Array' shape parts) = ap (λ row. Array' shape row) (parts-kept parts)
  value-kept (Struct' shape parts) = ap (λ row. Struct' shape row) (parts-kept parts)
  value-kept (Packed' shape parts) = ap (λ row. Packed' shape row) (parts-kept parts)
  value-kept (GetElementPtr' inbounds t shape operands) = ap₂ (λ u row. GetElementPtr' inbounds u shape row) (type-kept t) (parts-kept operands)
  value-kept (Cast' kind shape operand to') = ap₂ (λ row u. Cast' kind shape row u) (parts-kept operand) (type-kept to')

  parts-kept : {k : Count} (row : Row_of-TypedValue k) → row_changed itself change row ≡ row
  parts-kept end_of-TypedValue = refl
  parts-kept (more_of-TypedValue t v row) = ap₂ (λ (p : LlType × Value) xs. more_of-TypedValue p.0 p.1 xs) (ap₂ (λ (u : LlType) (w : Value). let p : LlType × Value = (u, w) in p) (type-kept t) (value-kept v)) (parts-kept row)

pub typed-kept : (v : TypedValue) → typed_changed itself change v ≡ v
typed-kept v = ap₂ (λ (t : LlType) (w : Value). let u : TypedValue = record { ty = t; value = w } in u) (type-kept v.ty) (value-kept v.value)

abbrev pub kept : ℕ → ℕ
kept byte = byte

entry-kept : (e : PhiEntry) → entry_changed itself kept e ≡ e
entry-kept e = ap (λ (v : Value). let f : PhiEntry = record { value = v; block = e.block } in f) (value-kept e.value)

case-kept : (c : SwitchCase) → case_changed itself kept c ≡ c
case-kept c = ap (λ (v : TypedValue). let f : SwitchCase = record { value = v; target = c.target } in f) (typed-kept c.value)

count-kept : (c : AllocaCount) → count_changed itself kept c ≡ c
count-kept c = ap (λ (u : LlType). let f : AllocaCount = record { ty = u; number = c.number } in f) (type-kept c.ty)

pub op-kept : (o : Op) → op_changed itself kept o ≡ o
op-kept (op.Binary kind flags t left right) = λ i. op.Binary kind (map-kept (flag_changed itself kept) (λ f. refl) flags i) (type-kept t i) (value-kept left i) (value-kept right i)
op-kept (op.Compare p t left right) = λ i. op.Compare p (type-kept t i) (value-kept left i) (value-kept right i)
op-kept (op.Select condition accepted rejected) = λ i. op.Select (typed-kept condition i) (typed-kept accepted i) (typed-kept rejected i)
op-kept (op.Cast kind operand to') = λ i. op.Cast kind (typed-kept operand i) (type-kept to' i)
op-kept (op.Phi t es) = λ i. op.Phi (type-kept t i) (map-kept (entry_changed itself kept) entry-kept es i)
op-kept (op.Alloca t c bytes) = λ i. op.Alloca (type-kept t i) (option-kept (count_changed itself kept) count-kept c i) bytes
op-kept (op.Load volatile t pointer bytes) = λ i. op.Load volatile (type-kept t i) (typed-kept pointer i) bytes
op-kept (op.Store volatile stored pointer bytes) = λ i. op.Store volatile (typed-kept stored i) (typed-kept pointer i) bytes
op-kept (op.AtomicLoad t pointer sc o bytes) = λ i. op.AtomicLoad (type-kept t i) (typed-kept pointer i) sc o bytes
op-kept (op.AtomicStore stored pointer sc o bytes) = λ i. op.AtomicStore (typed-kept stored i) (typed-kept pointer i) sc o bytes
op-kept (op.CompareExchange pointer comparator new sc equal unequal bytes) = λ i. op.CompareExchange (typed-kept pointer i) (typed-kept comparator i) (typed-kept new i) sc equal unequal bytes
op-kept (op.AtomicRmw kind pointer operand sc o bytes) = λ i. op.AtomicRmw kind (typed-kept pointer i) (typed-kept operand i) sc o bytes
op-kept (op.Fence sc o) = refl
op-kept (op.GetElementPtr inbounds t pointer is) = λ i. op.GetElementPtr inbounds (type-kept t i) (typed-kept pointer i) (map-kept (typed_changed itself change) typed-kept is i)
op-kept (op.ExtractElement vector index) = λ i. op.ExtractElement (typed-kept vector i) (typed-kept index i)
op-kept (op.InsertElement vector element index) = λ i. op.InsertElement (typed-kept vector i) (typed-kept element i) (typed-kept index i)
op-kept (op.ShuffleVector left right mask) = λ i. op.ShuffleVector (typed-kept left i) (typed-kept right i) (typed-kept mask i)
op-kept (op.ExtractValue aggregate index) = λ i. op.ExtractValue (typed-kept aggregate i) index
op-kept (op.Call t callee arguments) = λ i. op.Call (type-kept t i) callee (map-kept (typed_changed itself change) typed-kept arguments i)
op-kept op.ReturnVoid = refl
op-kept (op.Return given) = λ i. op.Return (typed-kept given i)
op-kept (op.Jump target) = refl
op-kept (op.Branch condition accepted rejected) = λ i. op.Branch (typed-kept condition i) accepted rejected
op-kept (op.Switch selector default cases) = λ i. op.Switch (typed-kept selector i) default (map-kept (case_changed itself kept) case-kept cases i)
op-kept op.Unreachable = refl
