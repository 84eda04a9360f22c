-- What an instruction takes and where it leads, and the instruction with its names changed or without its
-- places (LLVM 14, Instruction Reference).
use Rattle.std.specs.Prelude.{ℕ, List, [], ◌∷◌, map, flat_map, Option, None, Some, option_map}
use Rattle.inst_walk.specs.Outline.{Uses, Plain, Phi as Choice}
use Rattle.ll_tree.specs.declared.name.Name.{Name}
use Rattle.ll_tree.specs.declared.op.AllocaCount.{AllocaCount}
use Rattle.ll_tree.specs.declared.op.Flag.{Flag}
use Rattle.ll_tree.specs.declared.op.PhiEntry.{PhiEntry}
use Rattle.ll_tree.specs.declared.op.SwitchCase.{SwitchCase}
use Rattle.ll_tree.specs.declared.op.Op.{Op}
use Rattle.ll_tree.specs.declared.op.Op.TheVariants as op
use Rattle.ll_tree.specs.declared.ty.LlType.{LlType}
use Rattle.ll_tree.specs.declared.value.TypedValue.{TypedValue}
use Rattle.ll_tree.specs.declared.value.Value.{Value}
use Rattle.ll_tree.specs.Names.{name_renamed}
use Rattle.ll_tree.specs.Types.{type_changed}
use Rattle.ll_tree.specs.Values.{value_names, names_in, bare, value_renamed, typed_renamed, value_changed, typed_changed}

-- the values of a switch's cases, and of a phi's entries
abbrev pub bare_cases : List SwitchCase → List Value
bare_cases cases = map (λ (c : SwitchCase). c.value.value) cases

abbrev pub bare_entries : List PhiEntry → List Value
bare_entries entries = map (λ (e : PhiEntry). e.value) entries

-- the values that the instruction takes, in the order in which they are written
abbrev pub op_values : Op → List Value
op_values (op.Binary kind flags ty left right) = left ∷ right ∷ []
op_values (op.Compare pred ty left right) = left ∷ right ∷ []
op_values (op.Select condition accepted rejected) = condition.value ∷ accepted.value ∷ rejected.value ∷ []
op_values (op.Cast kind operand to) = operand.value ∷ []
op_values (op.Phi ty entries) = bare_entries entries
op_values (op.Alloca ty count align) = []
op_values (op.Load volatile ty pointer align) = pointer.value ∷ []
op_values (op.Store volatile value pointer align) = value.value ∷ pointer.value ∷ []
op_values (op.AtomicLoad ty pointer scope order align) = pointer.value ∷ []
op_values (op.AtomicStore value pointer scope order align) = value.value ∷ pointer.value ∷ []
op_values (op.CompareExchange pointer comparator value scope equal unequal align) =
    pointer.value ∷ comparator.value ∷ value.value ∷ []
op_values (op.AtomicRmw kind pointer value scope order align) = pointer.value ∷ value.value ∷ []
op_values (op.Fence scope order) = []
op_values (op.GetElementPtr inbounds ty pointer indexes) = pointer.value ∷ bare indexes
op_values (op.ExtractElement vector index) = vector.value ∷ index.value ∷ []
op_values (op.InsertElement vector element index) = vector.value ∷ element.value ∷ index.value ∷ []
op_values (op.ShuffleVector left right mask) = left.value ∷ right.value ∷ mask.value ∷ []
op_values (op.ExtractValue aggregate index) = aggregate.value ∷ []
op_values (op.Call ty callee arguments) = bare arguments
op_values op.ReturnVoid = []
op_values (op.Return value) = value.value ∷ []
op_values (op.Jump target) = []
op_values (op.Branch condition accepted rejected) = condition.value ∷ []
op_values (op.Switch selector default cases) = selector.value ∷ bare_cases cases
op_values op.Unreachable = []

-- the named values that a phi takes where control comes from a block, each with the block
abbrev pub entry_takes : PhiEntry → List (ℕ × ℕ)
entry_takes entry = map (λ value. (value, entry.block.number)) (value_names entry.value)

-- the named values that the instruction takes
abbrev pub op_takes : Op → Uses ℕ
op_takes (op.Phi ty entries) = Choice (flat_map entry_takes entries)
op_takes other = Plain (names_in (op_values other))

-- the function that the instruction calls
abbrev pub op_callee : Op → Option Name
op_callee (op.Call ty callee arguments) = Some callee
op_callee _ = None

-- the blocks that the instruction may lead to, in the order in which they are written
abbrev pub op_targets : Op → List Name
op_targets (op.Jump target) = target ∷ []
op_targets (op.Branch condition accepted rejected) = accepted ∷ rejected ∷ []
op_targets (op.Switch selector default cases) = default ∷ map (λ (c : SwitchCase). c.target) cases
op_targets _ = []

-- the blocks of a phi's entries
abbrev pub op_sources : Op → List Name
op_sources (op.Phi ty entries) = map (λ (e : PhiEntry). e.block) entries
op_sources _ = []

module _ (f : ℕ → ℕ) where
  abbrev pub entry_renamed : PhiEntry → PhiEntry
  entry_renamed entry = record { value = value_renamed f entry.value; block = name_renamed f entry.block }

  abbrev pub case_renamed : SwitchCase → SwitchCase
  case_renamed case = record { value = typed_renamed f case.value; target = name_renamed f case.target }

  -- the instruction with each name of a value, a block or a function replaced
  abbrev pub op_renamed : Op → Op
  op_renamed (op.Binary kind flags ty left right) = op.Binary kind flags ty (value_renamed f left) (value_renamed f right)
  op_renamed (op.Compare pred ty left right) = op.Compare pred ty (value_renamed f left) (value_renamed f right)
  op_renamed (op.Select condition accepted rejected) =
      op.Select (typed_renamed f condition) (typed_renamed f accepted) (typed_renamed f rejected)
  op_renamed (op.Cast kind operand to) = op.Cast kind (typed_renamed f operand) to
  op_renamed (op.Phi ty entries) = op.Phi ty (map entry_renamed entries)
  op_renamed (op.Alloca ty count align) = op.Alloca ty count align
  op_renamed (op.Load volatile ty pointer align) = op.Load volatile ty (typed_renamed f pointer) align
  op_renamed (op.Store volatile value pointer align) =
      op.Store volatile (typed_renamed f value) (typed_renamed f pointer) align
  op_renamed (op.AtomicLoad ty pointer scope order align) =
      op.AtomicLoad ty (typed_renamed f pointer) scope order align
  op_renamed (op.AtomicStore value pointer scope order align) =
      op.AtomicStore (typed_renamed f value) (typed_renamed f pointer) scope order align
  op_renamed (op.CompareExchange pointer comparator value scope equal unequal align) =
      op.CompareExchange (typed_renamed f pointer) (typed_renamed f comparator) (typed_renamed f value) scope equal unequal align
  op_renamed (op.AtomicRmw kind pointer value scope order align) =
      op.AtomicRmw kind (typed_renamed f pointer) (typed_renamed f value) scope order align
  op_renamed (op.Fence scope order) = op.Fence scope order
  op_renamed (op.GetElementPtr inbounds ty pointer indexes) =
      op.GetElementPtr inbounds ty (typed_renamed f pointer) (map (typed_renamed f) indexes)
  op_renamed (op.ExtractElement vector index) = op.ExtractElement (typed_renamed f vector) (typed_renamed f index)
  op_renamed (op.InsertElement vector element index) =
      op.InsertElement (typed_renamed f vector) (typed_renamed f element) (typed_renamed f index)
  op_renamed (op.ShuffleVector left right mask) =
      op.ShuffleVector (typed_renamed f left) (typed_renamed f right) (typed_renamed f mask)
  op_renamed (op.ExtractValue aggregate index) = op.ExtractValue (typed_renamed f aggregate) index
  op_renamed (op.Call ty callee arguments) = op.Call ty (name_renamed f callee) (map (typed_renamed f) arguments)
  op_renamed op.ReturnVoid = op.ReturnVoid
  op_renamed (op.Return value) = op.Return (typed_renamed f value)
  op_renamed (op.Jump target) = op.Jump (name_renamed f target)
  op_renamed (op.Branch condition accepted rejected) =
      op.Branch (typed_renamed f condition) (name_renamed f accepted) (name_renamed f rejected)
  op_renamed (op.Switch selector default cases) =
      op.Switch (typed_renamed f selector) (name_renamed f default) (map case_renamed cases)
  op_renamed op.Unreachable = op.Unreachable

module _ (names : Name → Name) (place : ℕ → ℕ) where
  abbrev changed_type : LlType → LlType
  changed_type = type_changed names

  abbrev changed_value : Value → Value
  changed_value = value_changed names changed_type

  abbrev changed_typed : TypedValue → TypedValue
  changed_typed = typed_changed names changed_type

  abbrev pub flag_changed : Flag → Flag
  flag_changed flag = record { word = flag.word; byte = place flag.byte }

  abbrev pub count_changed : AllocaCount → AllocaCount
  count_changed count = record { ty = changed_type count.ty; number = count.number }

  abbrev pub entry_changed : PhiEntry → PhiEntry
  entry_changed entry = record { value = changed_value entry.value; block = names entry.block }

  abbrev pub case_changed : SwitchCase → SwitchCase
  case_changed case = record { value = changed_typed case.value; target = names case.target }

  -- the instruction with each of its names and places changed
  abbrev pub op_changed : Op → Op
  op_changed (op.Binary kind flags ty left right) =
      op.Binary kind (map flag_changed flags) (changed_type ty) (changed_value left) (changed_value right)
  op_changed (op.Compare pred ty left right) =
      op.Compare pred (changed_type ty) (changed_value left) (changed_value right)
  op_changed (op.Select condition accepted rejected) =
      op.Select (changed_typed condition) (changed_typed accepted) (changed_typed rejected)
  op_changed (op.Cast kind operand to) = op.Cast kind (changed_typed operand) (changed_type to)
  op_changed (op.Phi ty entries) = op.Phi (changed_type ty) (map entry_changed entries)
  op_changed (op.Alloca ty count align) = op.Alloca (changed_type ty) (option_map count_changed count) align
  op_changed (op.Load volatile ty pointer align) =
      op.Load volatile (changed_type ty) (changed_typed pointer) align
  op_changed (op.Store volatile value pointer align) =
      op.Store volatile (changed_typed value) (changed_typed pointer) align
  op_changed (op.AtomicLoad ty pointer scope order align) =
      op.AtomicLoad (changed_type ty) (changed_typed pointer) scope order align
  op_changed (op.AtomicStore value pointer scope order align) =
      op.AtomicStore (changed_typed value) (changed_typed pointer) scope order align
  op_changed (op.CompareExchange pointer comparator value scope equal unequal align) =
      op.CompareExchange (changed_typed pointer) (changed_typed comparator) (changed_typed value) scope equal unequal align
  op_changed (op.AtomicRmw kind pointer value scope order align) =
      op.AtomicRmw kind (changed_typed pointer) (changed_typed value) scope order align
  op_changed (op.Fence scope order) = op.Fence scope order
  op_changed (op.GetElementPtr inbounds ty pointer indexes) =
      op.GetElementPtr inbounds (changed_type ty) (changed_typed pointer) (map changed_typed indexes)
  op_changed (op.ExtractElement vector index) = op.ExtractElement (changed_typed vector) (changed_typed index)
  op_changed (op.InsertElement vector element index) =
      op.InsertElement (changed_typed vector) (changed_typed element) (changed_typed index)
  op_changed (op.ShuffleVector left right mask) =
      op.ShuffleVector (changed_typed left) (changed_typed right) (changed_typed mask)
  op_changed (op.ExtractValue aggregate index) = op.ExtractValue (changed_typed aggregate) index
  op_changed (op.Call ty callee arguments) =
      op.Call (changed_type ty) (names callee) (map changed_typed arguments)
  op_changed op.ReturnVoid = op.ReturnVoid
  op_changed (op.Return value) = op.Return (changed_typed value)
  op_changed (op.Jump target) = op.Jump (names target)
  op_changed (op.Branch condition accepted rejected) =
      op.Branch (changed_typed condition) (names accepted) (names rejected)
  op_changed (op.Switch selector default cases) =
      op.Switch (changed_typed selector) (names default) (map case_changed cases)
  op_changed op.Unreachable = op.Unreachable
