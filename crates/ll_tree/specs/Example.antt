-- A small module that has something with a place in each of its lists, and the places that a function gives.
use Rattle.std.specs.Prelude.{ℕ, false, List, [], ◌∷◌, None, Some, pos}
use Rattle.kern_lanes.specs.declared.binary.BinOp.TheVariants.{Add}
use Rattle.kern_types.specs.declared.class.PointerWidth.TheVariants.{P64}
use Rattle.ll_tree.specs.declared.inst.Inst.{Inst}
use Rattle.ll_tree.specs.declared.module.AttributeKind.TheVariants.{ZeroExt, ByVal}
use Rattle.ll_tree.specs.declared.module.Head.{Head}
use Rattle.ll_tree.specs.declared.module.Linkage.TheVariants.{External}
use Rattle.ll_tree.specs.declared.module.LlModule.{LlModule}
use Rattle.ll_tree.specs.declared.module.NodePart.TheVariants as part
use Rattle.ll_tree.specs.declared.module.NodeRef.{NodeRef}
use Rattle.ll_tree.specs.declared.module.TargetKind.TheVariants.{Triple}
use Rattle.ll_tree.specs.declared.name.Name.{Name}
use Rattle.ll_tree.specs.declared.name.NameKind.TheVariants.{Global, Struct}
use Rattle.ll_tree.specs.declared.name.Spelling.TheVariants.{Number, Text}
use Rattle.ll_tree.specs.declared.op.FlagWord.TheVariants.{Nsw}
use Rattle.ll_tree.specs.declared.op.Op.TheVariants as op
use Rattle.ll_tree.specs.declared.ty.LlType.{LlType}
use Rattle.ll_tree.specs.declared.ty.TypeBase.{Named}
use Rattle.ll_tree.specs.declared.value.Value.{Local as local, Zero}

module _ (place : ℕ → ℕ) where
  abbrev name_at : ℕ → ℕ → Name
  name_at number byte = record { number = number; byte = place byte }

  abbrev struct_at : ℕ → LlType
  struct_at byte = record { base = Named (name_at 0 byte); pointers = [] }

  abbrev node_at : ℕ → NodeRef
  node_at byte = record { number = 0; byte = place byte }

  abbrev head : Head
  head = record {
    byte = place 10;
    name = name_at 2 11;
    linkage = External;
    is_kernel = false;
    attributes = record { kind = ByVal (Some (struct_at 12)); byte = place 13 } ∷ [];
    ty = struct_at 14;
    params = record { ty = struct_at 15; attributes = record { kind = ZeroExt; byte = place 16 } ∷ []; name = Some (name_at 4 17) } ∷ [];
  }

  abbrev insts : List Inst
  insts =
      record { byte = place 20; defines = Some (name_at 6 21); op = op.Binary Add (record { word = Nsw; byte = place 22 } ∷ []) (struct_at 23) (local (name_at 4 24)) Zero } ∷
      record { byte = place 25; defines = None; op = op.Phi (struct_at 26) (record { value = local (name_at 4 27); block = name_at 5 28 } ∷ []) } ∷
      record { byte = place 29; defines = None; op = op.Switch (record { ty = struct_at 30; value = local (name_at 4 31) }) (name_at 5 32) (record { value = record { ty = struct_at 33; value = local (name_at 4 34) }; target = name_at 5 35 } ∷ []) } ∷
      record { byte = place 36; defines = None; op = op.Call (struct_at 37) (name_at 2 38) (record { ty = struct_at 39; value = local (name_at 4 40) } ∷ []) } ∷
      record { byte = place 41; defines = None; op = op.Alloca (struct_at 42) (Some (record { ty = struct_at 43; number = pos 1 })) None } ∷ []

  abbrev pub example : LlModule
  example = record {
    targets = record { kind = Triple; text = 116 ∷ []; byte = place 1 } ∷ [];
    structs = record { name = name_at 0 2; ty = struct_at 3 } ∷ [];
    variables = record { name = name_at 1 4; linkage = External; space = 2; ty = struct_at 5; init = local (name_at 4 6); align = None } ∷ [];
    declares = head ∷ [];
    functions = record { head = head; kernel_arg_type = Some (node_at 50); reqd_work_group_size = Some (node_at 51); work_group_size_hint = Some (node_at 52); labels = place 53 ∷ [] } ∷ [];
    bodies = record { params = 4 ∷ []; blocks = record { name = 5; insts = insts } ∷ [] } ∷ [];
    ocl_version = node_at 60 ∷ [];
    nodes = record { number = 0; parts = part.Node (node_at 61) ∷ part.Value (record { ty = struct_at 62; value = local (name_at 4 63) }) ∷ []; byte = place 64 } ∷ [];
    pointer = P64;
    names = record { kind = Struct; spelling = Number 0 } ∷ record { kind = Global; spelling = Text (118 ∷ []) } ∷ [];
  }
