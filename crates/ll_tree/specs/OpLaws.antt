-- What renaming does to an instruction.
use Rattle.std.proofs.Common.{◌≡◌, ℕ, List, [], ◌∷◌, ◌++◌, map, flat_map, All, option_map, refl, sym, ap, ap₂, ◌∙◌}
use Rattle.std.specs.Option.{option_to_list}
use Rattle.std.proofs.lemmas.List.{map-append}
use Rattle.std.proofs.lemmas.List.Elements.{All-head, All-tail, All-same}
use Rattle.inst_walk.specs.Outline.{Plain, Phi as Choice, values_of, uses_renamed}
use Rattle.ll_tree.specs.declared.name.Name.{Name}
use Rattle.ll_tree.specs.declared.op.Op.{Op}
use Rattle.ll_tree.specs.declared.op.Op.TheVariants as op
use Rattle.ll_tree.specs.declared.op.PhiEntry.{PhiEntry}
use Rattle.ll_tree.specs.declared.op.SwitchCase.{SwitchCase}
use Rattle.ll_tree.specs.declared.value.TypedValue.{TypedValue}
use Rattle.ll_tree.specs.declared.value.Value.{Value}
use Rattle.ll_tree.specs.Names.{name_renamed, number_of}
use Rattle.ll_tree.specs.Ops.{op_values, entry_takes, op_takes, op_callee, op_targets, op_sources, entry_renamed, case_renamed, op_renamed}
use Rattle.ll_tree.specs.Values.{value_names, names_in, bare, value_renamed, typed_renamed}
use Rattle.ll_tree.specs.Pairs.{paired_first}
use Rattle.ll_tree.specs.ValueLaws.{All-front, All-back, Agrees, names_changed, changed_twice, changed_same, renamed_alike}

ap₃ : {A B C D : Type 0} (h : A → B → C → D) {a a' : A} {b b' : B} {c c' : C} → a ≡ a' → b ≡ b' → c ≡ c' → h a b c ≡ h a' b' c'
ap₃ h {a' = a'} {b = b} {c = c} p q r = ap (λ x. h x b c) p ∙ ap₂ (h a') q r

-- two ways through a square, along a list
crossed : {A B C D : Type 0} (p : B → D) (h : A → B) (k : C → D) (q : A → C) → ((x : A) → p (h x) ≡ k (q x)) → (xs : List A) → map p (map h xs) ≡ map k (map q xs)
crossed p h k q same [] = refl
crossed p h k q same (x ∷ xs) = ap₂ (λ y ys. y ∷ ys) (same x) (crossed p h k q same xs)

-- a list whose items are changed twice, or not at all
mapped_twice : {A : Type 0} (g f h : A → A) → ((x : A) → g (f x) ≡ h x) → (xs : List A) → map g (map f xs) ≡ map h xs
mapped_twice g f h same [] = refl
mapped_twice g f h same (x ∷ xs) = ap₂ (λ y ys. y ∷ ys) (same x) (mapped_twice g f h same xs)

mapped_same : {A : Type 0} (f : A → A) → ((x : A) → f x ≡ x) → (xs : List A) → map f xs ≡ xs
mapped_same f same [] = refl
mapped_same f same (x ∷ xs) = ap₂ (λ y ys. y ∷ ys) (same x) (mapped_same f same xs)

module _ (f : ℕ → ℕ) where
  values_renamed : (o : Op) → op_values (op_renamed f o) ≡ map (value_renamed f) (op_values o)
  values_renamed (op.Binary kind flags ty left right) = refl
  values_renamed (op.Compare pred ty left right) = refl
  values_renamed (op.Select condition accepted rejected) = refl
  values_renamed (op.Cast kind operand to) = refl
  values_renamed (op.Phi ty entries) = crossed (λ (e : PhiEntry). e.value) (entry_renamed f) (value_renamed f) (λ (e : PhiEntry). e.value) (λ e. refl) entries
  values_renamed (op.Alloca ty count align) = refl
  values_renamed (op.Load volatile ty pointer align) = refl
  values_renamed (op.Store volatile value pointer align) = refl
  values_renamed (op.AtomicLoad ty pointer scope order align) = refl
  values_renamed (op.AtomicStore value pointer scope order align) = refl
  values_renamed (op.CompareExchange pointer comparator value scope equal unequal align) = refl
  values_renamed (op.AtomicRmw kind pointer value scope order align) = refl
  values_renamed (op.Fence scope order) = refl
  values_renamed (op.GetElementPtr inbounds ty pointer indexes) = ap (λ later. value_renamed f pointer.value ∷ later) (crossed (λ (t : TypedValue). t.value) (typed_renamed f) (value_renamed f) (λ (t : TypedValue). t.value) (λ t. refl) indexes)
  values_renamed (op.ExtractElement vector index) = refl
  values_renamed (op.InsertElement vector element index) = refl
  values_renamed (op.ShuffleVector left right mask) = refl
  values_renamed (op.ExtractValue aggregate index) = refl
  values_renamed (op.Call ty callee arguments) = crossed (λ (t : TypedValue). t.value) (typed_renamed f) (value_renamed f) (λ (t : TypedValue). t.value) (λ t. refl) arguments
  values_renamed op.ReturnVoid = refl
  values_renamed (op.Return value) = refl
  values_renamed (op.Jump target) = refl
  values_renamed (op.Branch condition accepted rejected) = refl
  values_renamed (op.Switch selector default cases) = ap (λ later. value_renamed f selector.value ∷ later) (crossed (λ (c : SwitchCase). c.value.value) (case_renamed f) (value_renamed f) (λ (c : SwitchCase). c.value.value) (λ c. refl) cases)
  values_renamed op.Unreachable = refl

  names_in_renamed : (vs : List Value) → names_in (map (value_renamed f) vs) ≡ map f (names_in vs)
  names_in_renamed [] = refl
  names_in_renamed (v ∷ vs) =
      ap₂ (λ xs ys. xs ++ ys) (names_changed f (λ ty. ty) v) (names_in_renamed vs) ∙ sym (map-append f (value_names v) (names_in vs))

  plainly : (o : Op) → Plain (names_in (op_values (op_renamed f o))) ≡ Plain (map f (names_in (op_values o)))
  plainly o = ap (λ vs. Plain (names_in vs)) (values_renamed o) ∙ ap Plain (names_in_renamed (op_values o))

  entry_takes_renamed : (e : PhiEntry) → entry_takes (entry_renamed f e) ≡ map (λ (p : ℕ × ℕ). (f p.0, f p.1)) (entry_takes e)
  entry_takes_renamed e =
      ap (map (λ value. (value, f e.block.number))) (names_changed f (λ ty. ty) e.value) ∙ crossed (λ value. (value, f e.block.number)) f (λ (p : ℕ × ℕ). (f p.0, f p.1)) (λ value. (value, e.block.number)) (λ x. refl) (value_names e.value)

  entries_take_renamed : (es : List PhiEntry) → flat_map entry_takes (map (entry_renamed f) es) ≡ map (λ (p : ℕ × ℕ). (f p.0, f p.1)) (flat_map entry_takes es)
  entries_take_renamed [] = refl
  entries_take_renamed (e ∷ es) =
      ap₂ (λ xs ys. xs ++ ys) (entry_takes_renamed e) (entries_take_renamed es) ∙ sym (map-append (λ (p : ℕ × ℕ). (f p.0, f p.1)) (entry_takes e) (flat_map entry_takes es))

  pub takes_renamed : (o : Op) → op_takes (op_renamed f o) ≡ uses_renamed f (op_takes o)
  takes_renamed (op.Binary kind flags ty left right) = plainly (op.Binary kind flags ty left right)
  takes_renamed (op.Compare pred ty left right) = plainly (op.Compare pred ty left right)
  takes_renamed (op.Select condition accepted rejected) = plainly (op.Select condition accepted rejected)
  takes_renamed (op.Cast kind operand to) = plainly (op.Cast kind operand to)
  takes_renamed (op.Phi ty entries) = ap Choice (entries_take_renamed entries)
  takes_renamed (op.Alloca ty count align) = plainly (op.Alloca ty count align)
  takes_renamed (op.Load volatile ty pointer align) = plainly (op.Load volatile ty pointer align)
  takes_renamed (op.Store volatile value pointer align) = plainly (op.Store volatile value pointer align)
  takes_renamed (op.AtomicLoad ty pointer scope order align) = plainly (op.AtomicLoad ty pointer scope order align)
  takes_renamed (op.AtomicStore value pointer scope order align) = plainly (op.AtomicStore value pointer scope order align)
  takes_renamed (op.CompareExchange pointer comparator value scope equal unequal align) = plainly (op.CompareExchange pointer comparator value scope equal unequal align)
  takes_renamed (op.AtomicRmw kind pointer value scope order align) = plainly (op.AtomicRmw kind pointer value scope order align)
  takes_renamed (op.Fence scope order) = plainly (op.Fence scope order)
  takes_renamed (op.GetElementPtr inbounds ty pointer indexes) = plainly (op.GetElementPtr inbounds ty pointer indexes)
  takes_renamed (op.ExtractElement vector index) = plainly (op.ExtractElement vector index)
  takes_renamed (op.InsertElement vector element index) = plainly (op.InsertElement vector element index)
  takes_renamed (op.ShuffleVector left right mask) = plainly (op.ShuffleVector left right mask)
  takes_renamed (op.ExtractValue aggregate index) = plainly (op.ExtractValue aggregate index)
  takes_renamed (op.Call ty callee arguments) = plainly (op.Call ty callee arguments)
  takes_renamed op.ReturnVoid = plainly op.ReturnVoid
  takes_renamed (op.Return value) = plainly (op.Return value)
  takes_renamed (op.Jump target) = plainly (op.Jump target)
  takes_renamed (op.Branch condition accepted rejected) = plainly (op.Branch condition accepted rejected)
  takes_renamed (op.Switch selector default cases) = plainly (op.Switch selector default cases)
  takes_renamed op.Unreachable = plainly op.Unreachable

  pub callee_renamed : (o : Op) → option_map number_of (op_callee (op_renamed f o)) ≡ option_map f (option_map number_of (op_callee o))
  callee_renamed (op.Binary kind flags ty left right) = refl
  callee_renamed (op.Compare pred ty left right) = refl
  callee_renamed (op.Select condition accepted rejected) = refl
  callee_renamed (op.Cast kind operand to) = refl
  callee_renamed (op.Phi ty entries) = refl
  callee_renamed (op.Alloca ty count align) = refl
  callee_renamed (op.Load volatile ty pointer align) = refl
  callee_renamed (op.Store volatile value pointer align) = refl
  callee_renamed (op.AtomicLoad ty pointer scope order align) = refl
  callee_renamed (op.AtomicStore value pointer scope order align) = refl
  callee_renamed (op.CompareExchange pointer comparator value scope equal unequal align) = refl
  callee_renamed (op.AtomicRmw kind pointer value scope order align) = refl
  callee_renamed (op.Fence scope order) = refl
  callee_renamed (op.GetElementPtr inbounds ty pointer indexes) = refl
  callee_renamed (op.ExtractElement vector index) = refl
  callee_renamed (op.InsertElement vector element index) = refl
  callee_renamed (op.ShuffleVector left right mask) = refl
  callee_renamed (op.ExtractValue aggregate index) = refl
  callee_renamed (op.Call ty callee arguments) = refl
  callee_renamed op.ReturnVoid = refl
  callee_renamed (op.Return value) = refl
  callee_renamed (op.Jump target) = refl
  callee_renamed (op.Branch condition accepted rejected) = refl
  callee_renamed (op.Switch selector default cases) = refl
  callee_renamed op.Unreachable = refl

  case_targets_renamed : (cs : List SwitchCase) → map number_of (map (λ (c : SwitchCase). c.target) (map (case_renamed f) cs)) ≡ map f (map number_of (map (λ (c : SwitchCase). c.target) cs))
  case_targets_renamed [] = refl
  case_targets_renamed (c ∷ cs) = ap (λ later. f c.target.number ∷ later) (case_targets_renamed cs)

  entry_blocks_renamed : (es : List PhiEntry) → map number_of (map (λ (e : PhiEntry). e.block) (map (entry_renamed f) es)) ≡ map f (map number_of (map (λ (e : PhiEntry). e.block) es))
  entry_blocks_renamed [] = refl
  entry_blocks_renamed (e ∷ es) = ap (λ later. f e.block.number ∷ later) (entry_blocks_renamed es)

  pub targets_renamed : (o : Op) → map number_of (op_targets (op_renamed f o)) ≡ map f (map number_of (op_targets o))
  targets_renamed (op.Binary kind flags ty left right) = refl
  targets_renamed (op.Compare pred ty left right) = refl
  targets_renamed (op.Select condition accepted rejected) = refl
  targets_renamed (op.Cast kind operand to) = refl
  targets_renamed (op.Phi ty entries) = refl
  targets_renamed (op.Alloca ty count align) = refl
  targets_renamed (op.Load volatile ty pointer align) = refl
  targets_renamed (op.Store volatile value pointer align) = refl
  targets_renamed (op.AtomicLoad ty pointer scope order align) = refl
  targets_renamed (op.AtomicStore value pointer scope order align) = refl
  targets_renamed (op.CompareExchange pointer comparator value scope equal unequal align) = refl
  targets_renamed (op.AtomicRmw kind pointer value scope order align) = refl
  targets_renamed (op.Fence scope order) = refl
  targets_renamed (op.GetElementPtr inbounds ty pointer indexes) = refl
  targets_renamed (op.ExtractElement vector index) = refl
  targets_renamed (op.InsertElement vector element index) = refl
  targets_renamed (op.ShuffleVector left right mask) = refl
  targets_renamed (op.ExtractValue aggregate index) = refl
  targets_renamed (op.Call ty callee arguments) = refl
  targets_renamed op.ReturnVoid = refl
  targets_renamed (op.Return value) = refl
  targets_renamed (op.Jump target) = refl
  targets_renamed (op.Branch condition accepted rejected) = refl
  targets_renamed (op.Switch selector default cases) = ap (λ later. f default.number ∷ later) (case_targets_renamed cases)
  targets_renamed op.Unreachable = refl

  pub sources_renamed : (o : Op) → map number_of (op_sources (op_renamed f o)) ≡ map f (map number_of (op_sources o))
  sources_renamed (op.Binary kind flags ty left right) = refl
  sources_renamed (op.Compare pred ty left right) = refl
  sources_renamed (op.Select condition accepted rejected) = refl
  sources_renamed (op.Cast kind operand to) = refl
  sources_renamed (op.Phi ty entries) = entry_blocks_renamed entries
  sources_renamed (op.Alloca ty count align) = refl
  sources_renamed (op.Load volatile ty pointer align) = refl
  sources_renamed (op.Store volatile value pointer align) = refl
  sources_renamed (op.AtomicLoad ty pointer scope order align) = refl
  sources_renamed (op.AtomicStore value pointer scope order align) = refl
  sources_renamed (op.CompareExchange pointer comparator value scope equal unequal align) = refl
  sources_renamed (op.AtomicRmw kind pointer value scope order align) = refl
  sources_renamed (op.Fence scope order) = refl
  sources_renamed (op.GetElementPtr inbounds ty pointer indexes) = refl
  sources_renamed (op.ExtractElement vector index) = refl
  sources_renamed (op.InsertElement vector element index) = refl
  sources_renamed (op.ShuffleVector left right mask) = refl
  sources_renamed (op.ExtractValue aggregate index) = refl
  sources_renamed (op.Call ty callee arguments) = refl
  sources_renamed op.ReturnVoid = refl
  sources_renamed (op.Return value) = refl
  sources_renamed (op.Jump target) = refl
  sources_renamed (op.Branch condition accepted rejected) = refl
  sources_renamed (op.Switch selector default cases) = refl
  sources_renamed op.Unreachable = refl

module _ (f g : ℕ → ℕ) where
  value_twice : (v : Value) → value_renamed g (value_renamed f v) ≡ value_renamed (λ x. g (f x)) v
  value_twice = changed_twice (name_renamed f) (name_renamed g) (λ ty. ty) (λ ty. ty)

  typed_twice : (t : TypedValue) → typed_renamed g (typed_renamed f t) ≡ typed_renamed (λ x. g (f x)) t
  typed_twice t = let P : Value → TypedValue = λ v. record { ty = t.ty; value = v } in ap P (value_twice t.value)

  typeds_twice : (ts : List TypedValue) → map (typed_renamed g) (map (typed_renamed f) ts) ≡ map (typed_renamed (λ x. g (f x))) ts
  typeds_twice = mapped_twice (typed_renamed g) (typed_renamed f) (typed_renamed (λ x. g (f x))) typed_twice

  entry_twice : (e : PhiEntry) → entry_renamed g (entry_renamed f e) ≡ entry_renamed (λ x. g (f x)) e
  entry_twice e = let P : Value → PhiEntry = λ v. record { value = v; block = name_renamed (λ x. g (f x)) e.block } in ap P (value_twice e.value)

  case_twice : (c : SwitchCase) → case_renamed g (case_renamed f c) ≡ case_renamed (λ x. g (f x)) c
  case_twice c = let P : TypedValue → SwitchCase = λ t. record { value = t; target = name_renamed (λ x. g (f x)) c.target } in ap P (typed_twice c.value)

  pub renamed_op_twice : (o : Op) → op_renamed g (op_renamed f o) ≡ op_renamed (λ x. g (f x)) o
  renamed_op_twice (op.Binary kind flags ty left right) = ap₂ (λ x0 x1. op.Binary kind flags ty x0 x1) (value_twice left) (value_twice right)
  renamed_op_twice (op.Compare pred ty left right) = ap₂ (λ x0 x1. op.Compare pred ty x0 x1) (value_twice left) (value_twice right)
  renamed_op_twice (op.Select condition accepted rejected) = ap₃ (λ x0 x1 x2. op.Select x0 x1 x2) (typed_twice condition) (typed_twice accepted) (typed_twice rejected)
  renamed_op_twice (op.Cast kind operand to) = ap (λ x0. op.Cast kind x0 to) (typed_twice operand)
  renamed_op_twice (op.Phi ty entries) = ap (λ x0. op.Phi ty x0) (mapped_twice (entry_renamed g) (entry_renamed f) (entry_renamed (λ x. g (f x))) entry_twice entries)
  renamed_op_twice (op.Alloca ty count align) = refl
  renamed_op_twice (op.Load volatile ty pointer align) = ap (λ x0. op.Load volatile ty x0 align) (typed_twice pointer)
  renamed_op_twice (op.Store volatile value pointer align) = ap₂ (λ x0 x1. op.Store volatile x0 x1 align) (typed_twice value) (typed_twice pointer)
  renamed_op_twice (op.AtomicLoad ty pointer scope order align) = ap (λ x0. op.AtomicLoad ty x0 scope order align) (typed_twice pointer)
  renamed_op_twice (op.AtomicStore value pointer scope order align) = ap₂ (λ x0 x1. op.AtomicStore x0 x1 scope order align) (typed_twice value) (typed_twice pointer)
  renamed_op_twice (op.CompareExchange pointer comparator value scope equal unequal align) = ap₃ (λ x0 x1 x2. op.CompareExchange x0 x1 x2 scope equal unequal align) (typed_twice pointer) (typed_twice comparator) (typed_twice value)
  renamed_op_twice (op.AtomicRmw kind pointer value scope order align) = ap₂ (λ x0 x1. op.AtomicRmw kind x0 x1 scope order align) (typed_twice pointer) (typed_twice value)
  renamed_op_twice (op.Fence scope order) = refl
  renamed_op_twice (op.GetElementPtr inbounds ty pointer indexes) = ap₂ (λ x0 x1. op.GetElementPtr inbounds ty x0 x1) (typed_twice pointer) (typeds_twice indexes)
  renamed_op_twice (op.ExtractElement vector index) = ap₂ (λ x0 x1. op.ExtractElement x0 x1) (typed_twice vector) (typed_twice index)
  renamed_op_twice (op.InsertElement vector element index) = ap₃ (λ x0 x1 x2. op.InsertElement x0 x1 x2) (typed_twice vector) (typed_twice element) (typed_twice index)
  renamed_op_twice (op.ShuffleVector left right mask) = ap₃ (λ x0 x1 x2. op.ShuffleVector x0 x1 x2) (typed_twice left) (typed_twice right) (typed_twice mask)
  renamed_op_twice (op.ExtractValue aggregate index) = ap (λ x0. op.ExtractValue x0 index) (typed_twice aggregate)
  renamed_op_twice (op.Call ty callee arguments) = ap (λ x0. op.Call ty (name_renamed (λ x. g (f x)) callee) x0) (typeds_twice arguments)
  renamed_op_twice op.ReturnVoid = refl
  renamed_op_twice (op.Return value) = ap (λ x0. op.Return x0) (typed_twice value)
  renamed_op_twice (op.Jump target) = refl
  renamed_op_twice (op.Branch condition accepted rejected) = ap (λ x0. op.Branch x0 (name_renamed (λ x. g (f x)) accepted) (name_renamed (λ x. g (f x)) rejected)) (typed_twice condition)
  renamed_op_twice (op.Switch selector default cases) = ap₂ (λ x0 x1. op.Switch x0 (name_renamed (λ x. g (f x)) default) x1) (typed_twice selector) (mapped_twice (case_renamed g) (case_renamed f) (case_renamed (λ x. g (f x))) case_twice cases)
  renamed_op_twice op.Unreachable = refl

typed_same : (t : TypedValue) → typed_renamed (λ x. x) t ≡ t
typed_same t = let P : Value → TypedValue = λ v. record { ty = t.ty; value = v } in ap P (changed_same t.value)

typeds_same : (ts : List TypedValue) → map (typed_renamed (λ x. x)) ts ≡ ts
typeds_same = mapped_same (typed_renamed (λ x. x)) typed_same

value_same : (v : Value) → value_renamed (λ x. x) v ≡ v
value_same = changed_same

entry_same : (e : PhiEntry) → entry_renamed (λ x. x) e ≡ e
entry_same e = let P : Value → PhiEntry = λ v. record { value = v; block = e.block } in ap P (changed_same e.value)

case_same : (c : SwitchCase) → case_renamed (λ x. x) c ≡ c
case_same c = let P : TypedValue → SwitchCase = λ t. record { value = t; target = c.target } in ap P (typed_same c.value)

pub renamed_op_same : (o : Op) → op_renamed (λ x. x) o ≡ o
renamed_op_same (op.Binary kind flags ty left right) = ap₂ (λ x0 x1. op.Binary kind flags ty x0 x1) (value_same left) (value_same right)
renamed_op_same (op.Compare pred ty left right) = ap₂ (λ x0 x1. op.Compare pred ty x0 x1) (value_same left) (value_same right)
renamed_op_same (op.Select condition accepted rejected) = ap₃ (λ x0 x1 x2. op.Select x0 x1 x2) (typed_same condition) (typed_same accepted) (typed_same rejected)
renamed_op_same (op.Cast kind operand to) = ap (λ x0. op.Cast kind x0 to) (typed_same operand)
renamed_op_same (op.Phi ty entries) = ap (λ x0. op.Phi ty x0) (mapped_same (entry_renamed (λ x. x)) entry_same entries)
renamed_op_same (op.Alloca ty count align) = refl
renamed_op_same (op.Load volatile ty pointer align) = ap (λ x0. op.Load volatile ty x0 align) (typed_same pointer)
renamed_op_same (op.Store volatile value pointer align) = ap₂ (λ x0 x1. op.Store volatile x0 x1 align) (typed_same value) (typed_same pointer)
renamed_op_same (op.AtomicLoad ty pointer scope order align) = ap (λ x0. op.AtomicLoad ty x0 scope order align) (typed_same pointer)
renamed_op_same (op.AtomicStore value pointer scope order align) = ap₂ (λ x0 x1. op.AtomicStore x0 x1 scope order align) (typed_same value) (typed_same pointer)
renamed_op_same (op.CompareExchange pointer comparator value scope equal unequal align) = ap₃ (λ x0 x1 x2. op.CompareExchange x0 x1 x2 scope equal unequal align) (typed_same pointer) (typed_same comparator) (typed_same value)
renamed_op_same (op.AtomicRmw kind pointer value scope order align) = ap₂ (λ x0 x1. op.AtomicRmw kind x0 x1 scope order align) (typed_same pointer) (typed_same value)
renamed_op_same (op.Fence scope order) = refl
renamed_op_same (op.GetElementPtr inbounds ty pointer indexes) = ap₂ (λ x0 x1. op.GetElementPtr inbounds ty x0 x1) (typed_same pointer) (typeds_same indexes)
renamed_op_same (op.ExtractElement vector index) = ap₂ (λ x0 x1. op.ExtractElement x0 x1) (typed_same vector) (typed_same index)
renamed_op_same (op.InsertElement vector element index) = ap₃ (λ x0 x1 x2. op.InsertElement x0 x1 x2) (typed_same vector) (typed_same element) (typed_same index)
renamed_op_same (op.ShuffleVector left right mask) = ap₃ (λ x0 x1 x2. op.ShuffleVector x0 x1 x2) (typed_same left) (typed_same right) (typed_same mask)
renamed_op_same (op.ExtractValue aggregate index) = ap (λ x0. op.ExtractValue x0 index) (typed_same aggregate)
renamed_op_same (op.Call ty callee arguments) = ap (λ x0. op.Call ty (callee) x0) (typeds_same arguments)
renamed_op_same op.ReturnVoid = refl
renamed_op_same (op.Return value) = ap (λ x0. op.Return x0) (typed_same value)
renamed_op_same (op.Jump target) = refl
renamed_op_same (op.Branch condition accepted rejected) = ap (λ x0. op.Branch x0 (accepted) (rejected)) (typed_same condition)
renamed_op_same (op.Switch selector default cases) = ap₂ (λ x0 x1. op.Switch x0 (default) x1) (typed_same selector) (mapped_same (case_renamed (λ x. x)) case_same cases)
renamed_op_same op.Unreachable = refl

module _ (f g : ℕ → ℕ) where
  value_alike : (v : Value) → All (Agrees f g) (value_names v) → value_renamed f v ≡ value_renamed g v
  value_alike = renamed_alike f g

  typed_alike : (t : TypedValue) → All (Agrees f g) (value_names t.value) → typed_renamed f t ≡ typed_renamed g t
  typed_alike t h = let P : Value → TypedValue = λ v. record { ty = t.ty; value = v } in ap P (renamed_alike f g t.value h)

  name_alike : (n : Name) → f n.number ≡ g n.number → name_renamed f n ≡ name_renamed g n
  name_alike n e = let P : ℕ → Name = λ x. record { number = x; byte = n.byte } in ap P e

  typeds_alike : (ts : List TypedValue) → All (Agrees f g) (names_in (bare ts)) → map (typed_renamed f) ts ≡ map (typed_renamed g) ts
  typeds_alike [] h = refl
  typeds_alike (t ∷ ts) h =
      ap₂ (λ y ys. y ∷ ys) (typed_alike t (All-front (Agrees f g) _ _ h)) (typeds_alike ts (All-back (Agrees f g) (value_names t.value) _ h))

  case_alike : (c : SwitchCase) → All (Agrees f g) (value_names c.value.value) → f c.target.number ≡ g c.target.number → case_renamed f c ≡ case_renamed g c
  case_alike c h e = let P : TypedValue → Name → SwitchCase = λ t n. record { value = t; target = n } in ap₂ P (typed_alike c.value h) (name_alike c.target e)

  cases_alike : (cs : List SwitchCase) → All (Agrees f g) (names_in (map (λ (c : SwitchCase). c.value.value) cs)) → All (Agrees f g) (map number_of (map (λ (c : SwitchCase). c.target) cs)) → map (case_renamed f) cs ≡ map (case_renamed g) cs
  cases_alike [] h k = refl
  cases_alike (c ∷ cs) h k =
      ap₂ (λ y ys. y ∷ ys) (case_alike c (All-front (Agrees f g) _ _ h) (All-head (Agrees f g) _ _ k)) (cases_alike cs (All-back (Agrees f g) (value_names c.value.value) _ h) (All-tail (Agrees f g) c.target.number _ k))

  entry_values : (e : PhiEntry) (es : List PhiEntry) → value_names e.value ++ map (λ (p : ℕ × ℕ). p.0) (flat_map entry_takes es) ≡ map (λ (p : ℕ × ℕ). p.0) (flat_map entry_takes (e ∷ es))
  entry_values e es =
      ap (λ xs. xs ++ map (λ (p : ℕ × ℕ). p.0) (flat_map entry_takes es)) (sym (paired_first e.block.number (value_names e.value))) ∙ sym (map-append (λ (p : ℕ × ℕ). p.0) (entry_takes e) (flat_map entry_takes es))

  entries_alike : (es : List PhiEntry) → All (Agrees f g) (map (λ (p : ℕ × ℕ). p.0) (flat_map entry_takes es)) → All (Agrees f g) (map number_of (map (λ (e : PhiEntry). e.block) es)) → map (entry_renamed f) es ≡ map (entry_renamed g) es
  entries_alike [] h k = refl
  entries_alike (e ∷ es) h k =
      let all : All (Agrees f g) (value_names e.value ++ map (λ (p : ℕ × ℕ). p.0) (flat_map entry_takes es)) = All-same (Agrees f g) _ _ (entry_values e es) h in
      let P : Value → Name → PhiEntry = λ v n. record { value = v; block = n } in
      ap₂ (λ y ys. y ∷ ys) (ap₂ P (renamed_alike f g e.value (All-front (Agrees f g) _ _ all)) (name_alike e.block (All-head (Agrees f g) _ _ k)))
      (entries_alike es (All-back (Agrees f g) (value_names e.value) _ all) (All-tail (Agrees f g) e.block.number _ k))

  pub renamed_op_alike : (o : Op) → All (Agrees f g) (values_of (op_takes o)) → All (Agrees f g) (option_to_list (option_map number_of (op_callee o))) → All (Agrees f g) (map number_of (op_targets o)) → All (Agrees f g) (map number_of (op_sources o)) → op_renamed f o ≡ op_renamed g o
  renamed_op_alike (op.Binary kind flags ty left right) h k l s = ap₂ (λ x0 x1. op.Binary kind flags ty x0 x1) (value_alike left (All-front (Agrees f g) (value_names left) _ h)) (value_alike right (All-front (Agrees f g) (value_names right) _ (All-back (Agrees f g) (value_names left) _ h)))
  renamed_op_alike (op.Compare pred ty left right) h k l s = ap₂ (λ x0 x1. op.Compare pred ty x0 x1) (value_alike left (All-front (Agrees f g) (value_names left) _ h)) (value_alike right (All-front (Agrees f g) (value_names right) _ (All-back (Agrees f g) (value_names left) _ h)))
  renamed_op_alike (op.Select condition accepted rejected) h k l s = ap₃ (λ x0 x1 x2. op.Select x0 x1 x2) (typed_alike condition (All-front (Agrees f g) (value_names condition.value) _ h)) (typed_alike accepted (All-front (Agrees f g) (value_names accepted.value) _ (All-back (Agrees f g) (value_names condition.value) _ h))) (typed_alike rejected (All-front (Agrees f g) (value_names rejected.value) _ (All-back (Agrees f g) (value_names accepted.value) _ (All-back (Agrees f g) (value_names condition.value) _ h))))
  renamed_op_alike (op.Cast kind operand to) h k l s = ap (λ x0. op.Cast kind x0 to) (typed_alike operand (All-front (Agrees f g) (value_names operand.value) _ h))
  renamed_op_alike (op.Phi ty entries) h k l s = ap (λ x0. op.Phi ty x0) (entries_alike entries h s)
  renamed_op_alike (op.Alloca ty count align) h k l s = refl
  renamed_op_alike (op.Load volatile ty pointer align) h k l s = ap (λ x0. op.Load volatile ty x0 align) (typed_alike pointer (All-front (Agrees f g) (value_names pointer.value) _ h))
  renamed_op_alike (op.Store volatile value pointer align) h k l s = ap₂ (λ x0 x1. op.Store volatile x0 x1 align) (typed_alike value (All-front (Agrees f g) (value_names value.value) _ h)) (typed_alike pointer (All-front (Agrees f g) (value_names pointer.value) _ (All-back (Agrees f g) (value_names value.value) _ h)))
  renamed_op_alike (op.AtomicLoad ty pointer scope order align) h k l s = ap (λ x0. op.AtomicLoad ty x0 scope order align) (typed_alike pointer (All-front (Agrees f g) (value_names pointer.value) _ h))
  renamed_op_alike (op.AtomicStore value pointer scope order align) h k l s = ap₂ (λ x0 x1. op.AtomicStore x0 x1 scope order align) (typed_alike value (All-front (Agrees f g) (value_names value.value) _ h)) (typed_alike pointer (All-front (Agrees f g) (value_names pointer.value) _ (All-back (Agrees f g) (value_names value.value) _ h)))
  renamed_op_alike (op.CompareExchange pointer comparator value scope equal unequal align) h k l s = ap₃ (λ x0 x1 x2. op.CompareExchange x0 x1 x2 scope equal unequal align) (typed_alike pointer (All-front (Agrees f g) (value_names pointer.value) _ h)) (typed_alike comparator (All-front (Agrees f g) (value_names comparator.value) _ (All-back (Agrees f g) (value_names pointer.value) _ h))) (typed_alike value (All-front (Agrees f g) (value_names value.value) _ (All-back (Agrees f g) (value_names comparator.value) _ (All-back (Agrees f g) (value_names pointer.value) _ h))))
  renamed_op_alike (op.AtomicRmw kind pointer value scope order align) h k l s = ap₂ (λ x0 x1. op.AtomicRmw kind x0 x1 scope order align) (typed_alike pointer (All-front (Agrees f g) (value_names pointer.value) _ h)) (typed_alike value (All-front (Agrees f g) (value_names value.value) _ (All-back (Agrees f g) (value_names pointer.value) _ h)))
  renamed_op_alike (op.Fence scope order) h k l s = refl
  renamed_op_alike (op.GetElementPtr inbounds ty pointer indexes) h k l s = ap₂ (λ x0 x1. op.GetElementPtr inbounds ty x0 x1) (typed_alike pointer (All-front (Agrees f g) (value_names pointer.value) _ h)) (typeds_alike indexes (All-back (Agrees f g) (value_names pointer.value) _ h))
  renamed_op_alike (op.ExtractElement vector index) h k l s = ap₂ (λ x0 x1. op.ExtractElement x0 x1) (typed_alike vector (All-front (Agrees f g) (value_names vector.value) _ h)) (typed_alike index (All-front (Agrees f g) (value_names index.value) _ (All-back (Agrees f g) (value_names vector.value) _ h)))
  renamed_op_alike (op.InsertElement vector element index) h k l s = ap₃ (λ x0 x1 x2. op.InsertElement x0 x1 x2) (typed_alike vector (All-front (Agrees f g) (value_names vector.value) _ h)) (typed_alike element (All-front (Agrees f g) (value_names element.value) _ (All-back (Agrees f g) (value_names vector.value) _ h))) (typed_alike index (All-front (Agrees f g) (value_names index.value) _ (All-back (Agrees f g) (value_names element.value) _ (All-back (Agrees f g) (value_names vector.value) _ h))))
  renamed_op_alike (op.ShuffleVector left right mask) h k l s = ap₃ (λ x0 x1 x2. op.ShuffleVector x0 x1 x2) (typed_alike left (All-front (Agrees f g) (value_names left.value) _ h)) (typed_alike right (All-front (Agrees f g) (value_names right.value) _ (All-back (Agrees f g) (value_names left.value) _ h))) (typed_alike mask (All-front (Agrees f g) (value_names mask.value) _ (All-back (Agrees f g) (value_names right.value) _ (All-back (Agrees f g) (value_names left.value) _ h))))
  renamed_op_alike (op.ExtractValue aggregate index) h k l s = ap (λ x0. op.ExtractValue x0 index) (typed_alike aggregate (All-front (Agrees f g) (value_names aggregate.value) _ h))
  renamed_op_alike (op.Call ty callee arguments) h k l s = ap₂ (λ x0 x1. op.Call ty x0 x1) (name_alike callee (All-head (Agrees f g) callee.number [] k)) (typeds_alike arguments h)
  renamed_op_alike op.ReturnVoid h k l s = refl
  renamed_op_alike (op.Return value) h k l s = ap (λ x0. op.Return x0) (typed_alike value (All-front (Agrees f g) (value_names value.value) _ h))
  renamed_op_alike (op.Jump target) h k l s = ap (λ x0. op.Jump x0) (name_alike target (All-head (Agrees f g) target.number [] l))
  renamed_op_alike (op.Branch condition accepted rejected) h k l s = ap₃ (λ x0 x1 x2. op.Branch x0 x1 x2) (typed_alike condition (All-front (Agrees f g) (value_names condition.value) _ h)) (name_alike accepted (All-head (Agrees f g) accepted.number (rejected.number ∷ []) l)) (name_alike rejected (All-head (Agrees f g) rejected.number [] (All-tail (Agrees f g) accepted.number (rejected.number ∷ []) l)))
  renamed_op_alike (op.Switch selector default cases) h k l s = ap₃ (λ x0 x1 x2. op.Switch x0 x1 x2) (typed_alike selector (All-front (Agrees f g) (value_names selector.value) _ h)) (name_alike default (All-head (Agrees f g) _ _ l)) (cases_alike cases (All-back (Agrees f g) (value_names selector.value) _ h) (All-tail (Agrees f g) default.number _ l))
  renamed_op_alike op.Unreachable h k l s = refl
