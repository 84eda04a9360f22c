-- A module and its words: a kernel that adds its second argument to the number that its first argument points to. Its words follow the
-- tables of SPIR-V 1.2, 2.3 and 3.32.
use Rattle.std.specs.Prelude.{ℕ, List, [], ◌∷◌, None}
use Rattle.kern_lanes.specs.declared.width.Width.TheVariants.{W32}
use Rattle.kern_types.specs.declared.class.Class.TheVariants.{Global}
use Rattle.kern_types.specs.declared.class.PointerWidth.TheVariants.{P64}
use Rattle.kern_types.specs.declared.ty.Ty.TheVariants as ty
use Rattle.kern_types.specs.declared.ty.TyId.{TyId}
use Rattle.spv_words.specs.declared.words.Order.TheVariants.{Little}
use Rattle.spv_module.specs.declared.inst.SpvInst.{SpvInst}
use Rattle.spv_module.specs.declared.module.SpvModule.{SpvModule}
use Rattle.spv_module.specs.declared.types.TypeName.{TypeName}

abbrev type_at : ℕ → TyId
type_at place = record { 0 = place }

abbrev named : ℕ → TypeName
named id = record { id = id; length = None; place = 0 }

abbrev inst : ℕ → ℕ → ℕ → List ℕ → List ℕ → SpvInst
inst op ty result ids words = record { op = op; ty = ty; result = result; operands = record { ids = ids; words = words }; place = 0 }

abbrev pub first_kernel : SpvModule
first_kernel = record {
  order = Little;
  version = 0x10200;
  bound = 11;
  capabilities = record { number = 4; place = 0 } ∷ record { number = 6; place = 0 } ∷ [];
  extensions = [];
  imports = [];
  memory_model = record { addressing = 2; memory = 2; place = 0 };
  entries = record { function = 5; name = 97 ∷ []; interface = []; modes = []; place = 0 } ∷ [];
  strings = [];
  source = None;
  decorations = [];
  decoration_groups = [];
  groups = [];
  types = record {
    table = record { pointer = P64; types = ty.Void ∷ ty.Int W32 ∷ ty.Pointer Global (type_at 1) ∷ ty.Function (type_at 0) (type_at 2 ∷ type_at 1 ∷ []) ∷ [] };
    names = named 1 ∷ named 2 ∷ named 3 ∷ named 4 ∷ [];
  };
  constants = [];
  variables = [];
  functions = record { id = 5; result = 1; ty = 4; params = record { id = 6; ty = 3; place = 0 } ∷ record { id = 7; ty = 2; place = 0 } ∷ []; labels = 0 ∷ []; place = 0 } ∷ [];
  bodies = record {
    params = 6 ∷ 7 ∷ [];
    blocks = record {
      name = 8;
      insts =
          inst 61 2 9 (6 ∷ []) (2 ∷ 4 ∷ []) ∷ inst 128 2 10 (9 ∷ 7 ∷ []) [] ∷ inst 62 0 0 (6 ∷ 10 ∷ []) (2 ∷ 4 ∷ []) ∷ inst 253 0 0 [] [] ∷ [];
    } ∷ [];
  } ∷ [];
}

abbrev pub first_kernel_words : List ℕ
first_kernel_words =
    0x07230203 ∷ 0x00010200 ∷ 0 ∷ 11 ∷ 0 ∷
    0x00020011 ∷ 4 ∷ 0x00020011 ∷ 6 ∷ 0x0003000E ∷ 2 ∷ 2 ∷ 0x0004000F ∷ 6 ∷ 5 ∷ 0x00000061 ∷
    0x00020013 ∷ 1 ∷ 0x00040015 ∷ 2 ∷ 0x20 ∷ 0 ∷ 0x00040020 ∷ 3 ∷ 5 ∷ 2 ∷ 0x00050021 ∷ 4 ∷ 1 ∷ 3 ∷ 2 ∷
    0x00050036 ∷ 1 ∷ 5 ∷ 0 ∷ 4 ∷ 0x00030037 ∷ 3 ∷ 6 ∷ 0x00030037 ∷ 2 ∷ 7 ∷ 0x000200F8 ∷ 8 ∷
    0x0006003D ∷ 2 ∷ 9 ∷ 6 ∷ 2 ∷ 4 ∷ 0x00050080 ∷ 2 ∷ 10 ∷ 9 ∷ 7 ∷ 0x0005003E ∷ 6 ∷ 10 ∷ 2 ∷ 4 ∷ 0x000100FD ∷ 0x00010038 ∷ []
