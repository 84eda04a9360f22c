-- Which module of text and which module of a binary stand for one another, as a table: types, values, instructions, functions and entry
-- points correspond in their order (LLVM 14 Language Reference; SPIR-V 1.2). A value of text at an operand has the type that its
-- definition has, so the types that text repeats there have no partner.
use Rattle.std.specs.Prelude.{◌≡◌, ℕ, Bool, false, List, [], ◌∷◌, Option, Some, None, map, filter, reverse, slice_get}
use Rattle.std.specs.List.{AllZip}
use Rattle.inst_walk.specs.declared.body.Block.{Block}
use Rattle.inst_walk.specs.declared.body.Body.{Body}
use Rattle.kern_lanes.specs.declared.binary.BinOp.TheVariants.{Add as sum_of}
use Rattle.kern_lanes.specs.declared.width.Width.{Width}
use Rattle.kern_lanes.specs.Widths.{bits_of}
use Rattle.kern_types.specs.declared.class.Class.{Class}
use Rattle.kern_types.specs.declared.class.Class.TheVariants as class
use Rattle.kern_types.specs.declared.class.PointerWidth.{PointerWidth}
use Rattle.kern_types.specs.declared.class.PointerWidth.TheVariants.{P32, P64}
use Rattle.kern_types.specs.declared.ty.Ty.{Ty}
use Rattle.kern_types.specs.declared.ty.Ty.TheVariants as ty
use Rattle.kern_types.specs.declared.ty.TyId.{TyId}
use Rattle.ll_tree.specs.declared.inst.Inst.{Inst}
use Rattle.ll_tree.specs.declared.module.Function.{Function as TextFunction}
use Rattle.ll_tree.specs.declared.module.Linkage.TheVariants.{External}
use Rattle.ll_tree.specs.declared.module.LlModule.{LlModule}
use Rattle.ll_tree.specs.declared.module.Param.{Param as TextParam}
use Rattle.ll_tree.specs.declared.name.Name.{Name}
use Rattle.ll_tree.specs.declared.name.NameText.{NameText}
use Rattle.ll_tree.specs.declared.op.Op.{Op}
use Rattle.ll_tree.specs.declared.op.Op.TheVariants as text
use Rattle.ll_tree.specs.declared.ty.LlType.{LlType}
use Rattle.ll_tree.specs.declared.ty.TypeBase.{TypeBase, Int as int_base, Void as void_base}
use Rattle.ll_tree.specs.declared.value.Value.{Value, Local as local}
use Rattle.spv_layout.specs.declared.opcode.Opcode.{Opcode}
use Rattle.spv_layout.specs.declared.opcode.Opcode.TheVariants as op
use Rattle.spv_layout.specs.Forms.{number_of}
use Rattle.spv_module.specs.declared.inst.SpvInst.{SpvInst}
use Rattle.spv_module.specs.declared.module.Entry.{Entry}
use Rattle.spv_module.specs.declared.module.Function.{Function}
use Rattle.spv_module.specs.declared.module.Param.{Param}
use Rattle.spv_module.specs.declared.module.SpvModule.{SpvModule}
use Rattle.spv_module.specs.declared.types.TypeName.{TypeName}
use Rattle.spv_module.specs.NamedTypes.{NamedTypes}
use Rattle.spv_module.specs.Spelled.{id_at}
use Rattle.kernel_tree.specs.Numbered.{bytes_of_entry}

-- the address space of a storage class (OpenCL SPIR-V Environment, 2.9)
abbrev pub space_of : Class → Option ℕ
space_of class.Private = Some 0
space_of class.Global = Some 1
space_of class.Constant = Some 2
space_of class.Local = Some 3
space_of class.Generic = Some 4
space_of class.Input = None

-- an id is that of a type which the module has
pub record HasType (types : NamedTypes) (id : ℕ) (entry : Ty) : Type 0 where
  pub place : ℕ
  pub name : TypeName
  pub named : slice_get types.names place ≡ Some name
  pub has_id : name.id ≡ id
  pub held : slice_get types.table.types place ≡ Some entry

-- an integer type of so many bits
pub record PairsInt (types : NamedTypes) (bits id : ℕ) : Type 0 where
  pub width : Width
  pub wide : bits_of width ≡ bits
  pub held : HasType types id (ty.Int width)

abbrev pub PairsBase : NamedTypes → TypeBase → ℕ → Type 0
PairsBase types void_base id = HasType types id ty.Void
PairsBase types (int_base bits) id = PairsInt types bits id
PairsBase types base id = ⊥

-- a pointer in an address space
pub record PairsPointer (types : NamedTypes) (space id : ℕ) (pointee : ℕ) : Type 0 where
  pub class : Class
  pub to : TyId
  pub held : HasType types id (ty.Pointer class to)
  pub spaced : space_of class ≡ Some space
  pub points : id_at types.names to ≡ pointee

-- a base with pointers, the last `*` of the text first
abbrev pub PairsPointers : NamedTypes → TypeBase → List ℕ → ℕ → Type 0
PairsPointers types base [] id = PairsBase types base id
PairsPointers types base (space ∷ spaces) id = (pointee : ℕ) × PairsPointer types space id pointee × PairsPointers types base spaces pointee

-- a type of text, and the id of a type
abbrev pub PairsType : NamedTypes → LlType → ℕ → Type 0
PairsType types type id = PairsPointers types type.base (reverse type.pointers) id

-- the row of an instruction of text: the opcode of its partner, the type of its result, and the values and the literal words that its
-- partner has as operands, in their order
pub record Row : Type 0 where
  pub opcode : Opcode
  pub result_type : Option LlType
  pub values : List Value
  pub words : List ℕ

abbrev pub row : Opcode → Option LlType → List Value → List ℕ → Option Row
row opcode type values words = Some (record { opcode = opcode; result_type = type; values = values; words = words })

-- the table of instructions. The word 2 before an alignment is the mask Aligned (SPIR-V 1.2, 3.26).
abbrev pub row_of : Op → Option Row
row_of (text.Binary sum_of [] type left right) = row op.IAdd (Some type) (left ∷ right ∷ []) []
row_of (text.Load false type pointer (Some align)) = row op.Load (Some type) (pointer.value ∷ []) (2 ∷ align ∷ [])
row_of (text.Store false value pointer (Some align)) = row op.Store None (pointer.value ∷ value.value ∷ []) (2 ∷ align ∷ [])
row_of text.ReturnVoid = row op.Return None [] []
row_of other = None

-- names correspond by this map from their numbers to ids, and the module has these types
module _ (ids : ℕ → ℕ) (types : NamedTypes) where
  abbrev pub PairsName : Option Name → ℕ → Type 0
  PairsName (Some name) id = ids name.number ≡ id
  PairsName None id = ⊥

  abbrev pub PairsValue : Value → ℕ → Type 0
  PairsValue (local name) id = ids name.number ≡ id
  PairsValue value id = ⊥

  abbrev pub PairsResult : Option Name → Option LlType → SpvInst → Type 0
  PairsResult (Some name) (Some type) spv = PairsType types type spv.ty × (ids name.number ≡ spv.result)
  PairsResult None None spv = (spv.ty ≡ 0) × (spv.result ≡ 0)
  PairsResult name type spv = ⊥

  pub record PairsInst (inst : Inst) (spv : SpvInst) : Type 0 where
    pub found : Row
    pub is : row_of inst.op ≡ Some found
    pub opcode : spv.op ≡ number_of found.opcode
    pub given : PairsResult inst.defines found.result_type spv
    pub values : AllZip PairsValue found.values spv.operands.ids
    pub words : spv.operands.words ≡ found.words

  pub record PairsBlock (block : Block Inst ℕ) (spv : Block SpvInst ℕ) : Type 0 where
    pub name : ids block.name ≡ spv.name
    pub insts : AllZip PairsInst block.insts spv.insts

  pub record PairsBody (body : Body Inst ℕ) (spv : Body SpvInst ℕ) : Type 0 where
    pub params : map ids body.params ≡ spv.params
    pub blocks : AllZip PairsBlock body.blocks spv.blocks

  pub record PairsParam (param : TextParam) (spv : Param) : Type 0 where
    pub attributes : param.attributes ≡ []
    pub type : PairsType types param.ty spv.ty
    pub name : PairsName param.name spv.id

  -- the type of a function is made of those of its result and its parameters
  pub record HasSignature (spv : Function) : Type 0 where
    pub given : TyId
    pub params : List TyId
    pub held : HasType types spv.ty (ty.Function given params)
    pub gives : id_at types.names given ≡ spv.result
    pub takes : map (id_at types.names) params ≡ map (λ param. param.ty) spv.params

  pub record PairsFunction (function : TextFunction) (spv : Function) : Type 0 where
    pub linkage : function.head.linkage ≡ External
    pub attributes : function.head.attributes ≡ []
    pub arg_type : function.kernel_arg_type ≡ None
    pub size : function.reqd_work_group_size ≡ None
    pub hint : function.work_group_size_hint ≡ None
    pub name : ids function.head.name.number ≡ spv.id
    pub given : PairsType types function.head.ty spv.result
    pub params : AllZip PairsParam function.head.params spv.params
    pub signature : HasSignature spv

  -- a kernel, and the entry point of its name
  pub record PairsEntry (names : List NameText) (function : TextFunction) (spv : Entry) : Type 0 where
    pub function_id : ids function.head.name.number ≡ spv.function
    pub name : bytes_of_entry (slice_get names function.head.name.number) ≡ spv.name
    pub interface : spv.interface ≡ []
    pub modes : spv.modes ≡ []

abbrev pub is_kernel : TextFunction → Bool
is_kernel function = function.head.is_kernel

-- the addressing models Physical32 and Physical64 (SPIR-V 1.2, 3.4)
abbrev pub addressing_of : PointerWidth → ℕ
addressing_of P32 = 1
addressing_of P64 = 2

-- of what else modules may have these have nothing
pub record HaveNoMore (l : LlModule) (spv : SpvModule) : Type 0 where
  pub structs : l.structs ≡ []
  pub text_variables : l.variables ≡ []
  pub declares : l.declares ≡ []
  pub ocl_version : l.ocl_version ≡ []
  pub nodes : l.nodes ≡ []
  pub extensions : spv.extensions ≡ []
  pub imports : spv.imports ≡ []
  pub strings : spv.strings ≡ []
  pub source : spv.source ≡ None
  pub decorations : spv.decorations ≡ []
  pub decoration_groups : spv.decoration_groups ≡ []
  pub groups : spv.groups ≡ []
  pub constants : spv.constants ≡ []
  pub variables : spv.variables ≡ []

pub record Pairs (l : LlModule) (spv : SpvModule) : Type 0 where
  -- one map from names to ids, and names that differ have ids that differ
  pub ids : ℕ → ℕ
  pub distinct : (name other : ℕ) → ids name ≡ ids other → name ≡ other
  pub version : spv.version ≡ 0x10200
  -- Addresses and Kernel
  pub capabilities : map (λ capability. capability.number) spv.capabilities ≡ 4 ∷ 6 ∷ []
  pub addressing : spv.memory_model.addressing ≡ addressing_of l.pointer
  -- the memory model OpenCL
  pub memory : spv.memory_model.memory ≡ 2
  pub pointer : spv.types.table.pointer ≡ l.pointer
  pub functions : AllZip (PairsFunction ids spv.types) l.functions spv.functions
  pub bodies : AllZip (PairsBody ids spv.types) l.bodies spv.bodies
  pub entries : AllZip (PairsEntry ids spv.types l.names) (filter is_kernel l.functions) spv.entries
  pub no_more : HaveNoMore l spv
