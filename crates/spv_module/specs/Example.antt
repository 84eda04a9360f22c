-- A small module that has something in each of its lists, at the places that a function gives, in either order.
use Rattle.std.specs.Prelude.{ℕ, List, [], ◌∷◌, None, Some}
use Rattle.kern_lanes.specs.declared.width.Width.TheVariants.{W32}
use Rattle.kern_types.specs.declared.class.Class.TheVariants.{Global}
use Rattle.kern_types.specs.declared.class.PointerWidth.TheVariants.{P64}
use Rattle.kern_types.specs.declared.ty.Ty.TheVariants.{Int}
use Rattle.spv_words.specs.declared.words.Order.{Order}
use Rattle.spv_module.specs.declared.inst.SpvInst.{SpvInst}
use Rattle.spv_module.specs.declared.module.ConstantValue.TheVariants.{Number}
use Rattle.spv_module.specs.declared.module.SpvModule.{SpvModule}

module _ (order : Order) (place : ℕ → ℕ) where
  abbrev inst : ℕ → ℕ → ℕ → List ℕ → List ℕ → ℕ → SpvInst
  inst op ty result ids words at = record { op = op; ty = ty; result = result; operands = record { ids = ids; words = words }; place = place at }

  abbrev pub example : SpvModule
  example = record {
    order = order;
    version = 0x10200;
    bound = 20;
    capabilities = record { number = 4; place = place 5 } ∷ [];
    extensions = record { name = 101 ∷ []; place = place 7 } ∷ [];
    imports = record { id = 1; name = 105 ∷ []; place = place 9 } ∷ [];
    memory_model = record { addressing = 2; memory = 2; place = place 12 };
    entries = record { function = 6; name = 107 ∷ []; interface = 5 ∷ []; modes = record { kind = 17; words = 1 ∷ 1 ∷ 1 ∷ []; place = place 20 } ∷ []; place = place 15 } ∷ [];
    strings = record { id = 2; text = 115 ∷ []; place = place 26 } ∷ [];
    source = Some (record { version = 102000; place = place 29 });
    decorations = record { target = 5; member = None; kind = 44; words = 4 ∷ []; place = place 32 } ∷ [];
    decoration_groups = record { id = 12; place = place 33 } ∷ [];
    groups = record { group = 12; targets = 5 ∷ []; place = place 36 } ∷ [];
    types = record { table = record { pointer = P64; types = Int W32 ∷ [] }; names = record { id = 3; length = None; place = place 39 } ∷ [] };
    constants = record { id = 4; ty = 3; value = Number 7 None; place = place 43 } ∷ [];
    variables = record { id = 5; ty = 9; class = Global; initializer = Some 4; place = place 47 } ∷ [];
    functions = record { id = 6; result = 3; ty = 10; params = record { id = 7; ty = 3; place = place 57 } ∷ []; labels = place 60 ∷ []; place = place 52 } ∷ [];
    bodies = record { params = 7 ∷ []; blocks = record { name = 8; insts = inst 128 3 9 (7 ∷ 4 ∷ []) [] 62 ∷ inst 254 0 0 (9 ∷ []) [] 67 ∷ [] } ∷ [] } ∷ [];
  }
