-- The partner of a kernel has its instructions.
use Rattle.std.proofs.Common.{◌≡◌, ℕ, ◌+◌, Bool, true, List, [], ◌∷◌, ◌++◌, Some, map, ap, ap₂, refl, arith, All}
use Rattle.std.specs.Prelude.{Option, flat_map}
use Rattle.std.proofs.lemmas.List.Elements.{All-nil, All-cons}
use Rattle.kern_types.specs.declared.ty.Ty.{Ty}
use Rattle.kernel_tree.specs.declared.kernel.Kernel.{Kernel}
use Rattle.kernel_tree.specs.declared.kernel.KernelInst.{KernelInst}
use Rattle.kernel_tree.specs.declared.kernel.KernelInst.TheVariants as inst
use Rattle.kernel_tree.specs.declared.kernel.KernelParam.{KernelParam}
use Rattle.kernel_tree.specs.declared.kernel.ValueType.{ValueType}
use Rattle.kernel_tree.specs.declared.kernel.ValueType.TheVariants as value
use Rattle.spv_play.specs.Types.{type_named}
use Rattle.to_spirv.specs.KernelTypes.{types_of}
use Rattle.to_spirv.specs.TypeTrees.{Int, place_in}
use Rattle.to_spirv.specs.Partner.{partner, kernel_ids, value_type_id, param_partner, inst_partner, end_of_block}
use Rattle.kernel_runs.specs.Names.{result_typed}
use Rattle.kernel_runs.specs.Images.{IsImage, HasNumbers, inst_image, end_image, unplaced, type_image, param_image, param_seen}
use Rattle.partner_runs.proofs.Listed.{ListsValue, ListsParams, ListsResults, params-listed, results-listed, found}

module _ (kernel : Kernel) where
  -- the id of a value
  abbrev pub value_id : ℕ → ℕ
  value_id number = (kernel_ids kernel).function + number

  abbrev states : KernelInst → Bool
  states i = true

  type-known : (t : ValueType) → ListsValue (types_of kernel) t → type_named (partner kernel) (value_type_id (kernel_ids kernel) t) ≡ Some (type_image (place_in (types_of kernel) Int) t)
  type-known value.Int has = found (types_of kernel) value.Int has.tree
  type-known value.Pointer has = found (types_of kernel) value.Pointer has.tree

  params-are : (params : List KernelParam) → ListsParams (types_of kernel) params
      → map (param_seen (partner kernel)) (map (param_partner (kernel_ids kernel)) params) ≡ map (param_image value_id (place_in (types_of kernel) Int)) params
  params-are [] has = refl
  params-are (param ∷ params) has =
      let seen : Option Ty → ℕ × Option Ty = λ type. (value_id param.name.number, type) in
      ap₂ (λ first more. first ∷ more) (ap seen (type-known param.value_type has.0)) (params-are params has.1)

  numbers-are : (insts : List KernelInst) → ListsResults (types_of kernel) insts → All (HasNumbers (partner kernel) (kernel_ids kernel).int) (flat_map result_typed insts)
  numbers-are [] has = All-nil (HasNumbers (partner kernel) (kernel_ids kernel).int)
  numbers-are (inst.Add sum left right ∷ insts) has =
      All-cons (HasNumbers (partner kernel) (kernel_ids kernel).int) (sum.number, value.Int) (flat_map result_typed insts) (found (types_of kernel) value.Int has.0) (numbers-are insts has.1)
  numbers-are (inst.Load loaded pointer is_aligned ∷ insts) has =
      All-cons (HasNumbers (partner kernel) (kernel_ids kernel).int) (loaded.number, value.Int) (flat_map result_typed insts) (found (types_of kernel) value.Int has.0) (numbers-are insts has.1)
  numbers-are (inst.Store stored pointer is_aligned ∷ insts) has = numbers-are insts has

  insts-are : (insts : List KernelInst) → map unplaced (map (inst_partner (kernel_ids kernel)) insts ++ end_of_block ∷ []) ≡ map (inst_image value_id (kernel_ids kernel).int states) insts ++ end_image ∷ []
  insts-are [] = refl
  insts-are (inst.Add sum left right ∷ insts) = ap (λ more. inst_image value_id (kernel_ids kernel).int states (inst.Add sum left right) ∷ more) (insts-are insts)
  insts-are (inst.Load loaded pointer is_aligned ∷ insts) = ap (λ more. inst_image value_id (kernel_ids kernel).int states (inst.Load loaded pointer is_aligned) ∷ more) (insts-are insts)
  insts-are (inst.Store stored pointer is_aligned ∷ insts) = ap (λ more. inst_image value_id (kernel_ids kernel).int states (inst.Store stored pointer is_aligned) ∷ more) (insts-are insts)

  pub partner-image : IsImage kernel value_id (partner kernel)
  partner-image = record {
    injective = λ a b at_a at_b same. omega (arith, same);
    positive = λ n at same. omega (arith, same);
    no_constant = λ n at. refl;
    no_variables = refl;
    entry = _;
    entries = refl;
    entry_name = refl;
    function = _;
    functions = refl;
    entry_function = refl;
    int = place_in (types_of kernel) Int;
    params = params-are kernel.params (params-listed kernel);
    int_id = (kernel_ids kernel).int;
    numbers = numbers-are kernel.insts (results-listed kernel);
    body = _;
    bodies = refl;
    block = _;
    blocks = refl;
    states_alignment = states;
    insts = insts-are kernel.insts;
  }
