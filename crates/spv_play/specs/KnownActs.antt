-- What opcodes stand for, and the acts of some instructions in a module and a frame whose values are known.
use Rattle.std.specs.Prelude.{◌≡◌, ℕ, ◌+◌, ◌*◌, ◌^◌, true, false, List, [], ◌∷◌, map, Option, Some, None}
use Rattle.kern_lanes.specs.declared.binary.BinOp.TheVariants.{Add, Sub, Mul, UDiv, SDiv, URem, SRem, Shl, LShr, AShr, And, Or, Xor}
use Rattle.kern_lanes.specs.declared.width.Width.TheVariants.{W32, W64}
use Rattle.kern_types.specs.declared.class.Class.TheVariants as class
use Rattle.kern_types.specs.declared.ty.Ty.TheVariants as ty
use Rattle.kern_types.specs.declared.ty.TyId.{TyId}
use Rattle.spv_module.specs.declared.inst.SpvInst.{SpvInst}
use Rattle.spv_module.specs.declared.module.ConstantValue.TheVariants as constant
use Rattle.spv_module.specs.declared.module.Function.{Function}
use Rattle.spv_module.specs.declared.module.SpvModule.{SpvModule}
use Rattle.spv_module.specs.declared.types.TypeName.{TypeName}
use Rattle.spv_module.specs.FirstKernel.{first_kernel}
use Rattle.kern_acts.specs.Shapes.{scalar}
use Rattle.kern_acts.specs.Acts.{Act, Binary, Load, Store, Return}
use Rattle.kern_acts.specs.States.{Frame, Values, none_set, set_to}
use Rattle.spv_play.specs.Acts.{Computes, Loads, Stores, Returns, kind_of, act_of}

-- `%6` is 64, `%7` is 5, and no other id is set
abbrev values : Values
values = set_to (record { name = 6; lanes = 64 ∷ [] }) (set_to (record { name = 7; lanes = 5 ∷ [] }) none_set)

abbrev frame : Frame
frame = record { function = 0; block = 0; before = None; position = 0; values = values }

abbrev type_at : ℕ → TyId
type_at place = record { 0 = place }

abbrev named : ℕ → TypeName
named id = record { id = id; length = None; place = 0 }

-- the first kernel with the constants `%20`, of 32 bits, `%21`, of 64 bits, and `%22`, which is null; the variable `%23` of class Input; and the
-- type `%24` of numbers of 64 bits, whose pointer of class Workgroup is `%25` and is the type of the first parameter
abbrev module_with : SpvModule
module_with = record first_kernel {
  types = record {
    table = record {
      pointer = first_kernel.types.table.pointer;
      types = ty.Void ∷ ty.Int W32 ∷ ty.Pointer class.Input (type_at 1) ∷ ty.Other ∷ ty.Int W64 ∷ ty.Pointer class.Local (type_at 4) ∷ [];
    };
    names = named 1 ∷ named 2 ∷ named 3 ∷ named 4 ∷ named 24 ∷ named 25 ∷ [];
  };
  constants =
      record { id = 20; ty = 2; value = constant.Number 70000 None; place = 0 } ∷ record { id = 21; ty = 24; value = constant.Number 3 (Some 2); place = 0 } ∷
      record { id = 22; ty = 2; value = constant.Null; place = 0 } ∷ [];
  variables = record { id = 23; ty = 3; class = class.Input; initializer = None; place = 0 } ∷ [];
  functions = map (λ (function : Function). record function { params = record { id = 6; ty = 25; place = 0 } ∷ record { id = 7; ty = 2; place = 0 } ∷ [] }) first_kernel.functions;
}

abbrev inst : ℕ → ℕ → ℕ → List ℕ → List ℕ → SpvInst
inst op type result ids words = record { op = op; ty = type; result = result; operands = record { ids = ids; words = words }; place = 0 }

abbrev act : SpvInst → Option Act
act i = act_of module_with frame i

pub record ActsAreKnown : Type 0 where
  pub op_61 : kind_of 61 ≡ Some Loads
  pub op_62 : kind_of 62 ≡ Some Stores
  pub op_253 : kind_of 253 ≡ Some Returns
  pub op_128 : kind_of 128 ≡ Some (Computes Add)
  pub op_130 : kind_of 130 ≡ Some (Computes Sub)
  pub op_132 : kind_of 132 ≡ Some (Computes Mul)
  pub op_134 : kind_of 134 ≡ Some (Computes UDiv)
  pub op_135 : kind_of 135 ≡ Some (Computes SDiv)
  pub op_137 : kind_of 137 ≡ Some (Computes URem)
  pub op_138 : kind_of 138 ≡ Some (Computes SRem)
  pub op_194 : kind_of 194 ≡ Some (Computes LShr)
  pub op_195 : kind_of 195 ≡ Some (Computes AShr)
  pub op_196 : kind_of 196 ≡ Some (Computes Shl)
  pub op_197 : kind_of 197 ≡ Some (Computes Or)
  pub op_198 : kind_of 198 ≡ Some (Computes Xor)
  pub op_199 : kind_of 199 ≡ Some (Computes And)
  pub op_255 : kind_of 255 ≡ None
  -- a constant of 32 bits, and an id that isn't set
  pub with_constant : act (inst 130 2 30 (20 ∷ 31 ∷ []) []) ≡ Some (Binary Sub W32 30 (Some (70000 ∷ [])) None)
  -- a constant of 64 bits
  pub with_words : act (inst 132 24 30 (21 ∷ 6 ∷ []) []) ≡ Some (Binary Mul W64 30 (Some ((3 + 2 * 2 ^ 32) ∷ [])) (Some (64 ∷ [])))
  pub with_null : act (inst 130 2 30 (22 ∷ 7 ∷ []) []) ≡ None
  pub of_other_type : act (inst 130 4 30 (7 ∷ 7 ∷ []) []) ≡ None
  -- the alignment is that of the type, or the one that is stated
  pub loads : act (inst 61 24 30 (6 ∷ []) []) ≡ Some (Load (record { class = class.Local; shape = scalar W64; align = 8; volatile = false }) 30 (Some (64 ∷ [])))
  pub loads_volatile : act (inst 61 24 30 (6 ∷ []) (1 ∷ [])) ≡ Some (Load (record { class = class.Local; shape = scalar W64; align = 8; volatile = true }) 30 (Some (64 ∷ [])))
  pub loads_aligned : act (inst 61 24 30 (6 ∷ []) (2 ∷ 16 ∷ [])) ≡ Some (Load (record { class = class.Local; shape = scalar W64; align = 16; volatile = false }) 30 (Some (64 ∷ [])))
  pub loads_both : act (inst 61 2 30 (6 ∷ []) (3 ∷ 2 ∷ [])) ≡ Some (Load (record { class = class.Local; shape = scalar W32; align = 2; volatile = true }) 30 (Some (64 ∷ [])))
  pub loads_nontemporal : act (inst 61 2 30 (6 ∷ []) (4 ∷ [])) ≡ Some (Load (record { class = class.Local; shape = scalar W32; align = 4; volatile = false }) 30 (Some (64 ∷ [])))
  pub loads_number : act (inst 61 2 30 (7 ∷ []) []) ≡ None
  pub loads_built_in : act (inst 61 2 30 (23 ∷ []) []) ≡ None
  -- the pointer stands before the value, whose type says how much is stored
  pub stores : act (inst 62 0 0 (6 ∷ 21 ∷ []) (2 ∷ 4 ∷ [])) ≡ Some (Store (record { class = class.Local; shape = scalar W64; align = 4; volatile = false }) (Some ((3 + 2 * 2 ^ 32) ∷ [])) (Some (64 ∷ [])))
  pub stores_natural : act (inst 62 0 0 (6 ∷ 7 ∷ []) (1 ∷ [])) ≡ Some (Store (record { class = class.Local; shape = scalar W32; align = 4; volatile = true }) (Some (5 ∷ [])) (Some (64 ∷ [])))
  pub returns : act (inst 253 0 0 [] []) ≡ Some Return
