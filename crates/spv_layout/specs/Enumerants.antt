-- Enumerations and masks (SPIR-V 1.2, 3.3 to 3.31): for each one the values, or the bits, with their names and operands.
use Rattle.std.specs.Prelude.{ℕ, ◌==◌, bit_or, bit_and, Bool, true, false, not, ◌&&◌, if◌then◌else◌, List, [], ◌∷◌, codes, find, fold, Option, is_some, unwrap_or}
use Rattle.std.specs.Option.{option_map}
use Rattle.spv_layout.specs.declared.enumerants.Enumerant.{Enumerant}
use Rattle.spv_layout.specs.declared.operands.ExtraOperand.{ExtraOperand}
use Rattle.spv_layout.specs.declared.operands.ExtraOperand.TheVariants.{W, S, E}
use Rattle.spv_layout.specs.declared.operands.EnumKind.{EnumKind}
use Rattle.spv_layout.specs.declared.operands.EnumKind.TheVariants.{Capability, Addressing, Memory, Model, Language, Mode, Class, Decoration, FuncParamAttr, Linkage, BuiltIn, Access, FunctionControl, SelectionControl, LoopControl}

-- what an enumerant shows
pub record EnumerantRow : Type 0 where
  pub value : ℕ
  pub name : List ℕ
  pub extra : List ExtraOperand

abbrev pub enumerant_row : Enumerant → EnumerantRow
enumerant_row e = record { value = e.value; name = e.name.now; extra = e.extra.now }

abbrev pub row : ℕ → List ℕ → List ExtraOperand → EnumerantRow
row value name extra = record { value = value; name = name; extra = extra }

-- the tables of enumerants
abbrev pub enumerants_of : EnumKind → List EnumerantRow
enumerants_of Capability =
    row 4 (codes "Addresses") [] ∷
    row 5 (codes "Linkage") [] ∷
    row 6 (codes "Kernel") [] ∷
    row 7 (codes "Vector16") [] ∷
    row 11 (codes "Int64") [] ∷
    row 12 (codes "Int64Atomics") [] ∷
    row 22 (codes "Int16") [] ∷
    row 38 (codes "GenericPointer") [] ∷
    row 39 (codes "Int8") [] ∷
    []
enumerants_of Addressing =
    row 1 (codes "Physical32") [] ∷
    row 2 (codes "Physical64") [] ∷
    []
enumerants_of Memory =
    row 2 (codes "OpenCL") [] ∷
    []
enumerants_of Model =
    row 6 (codes "Kernel") [] ∷
    []
enumerants_of Language =
    row 0 (codes "Unknown") [] ∷
    row 3 (codes "OpenCL_C") [] ∷
    row 4 (codes "OpenCL_CPP") [] ∷
    []
enumerants_of Mode =
    row 17 (codes "LocalSize") (W ∷ W ∷ W ∷ []) ∷
    row 18 (codes "LocalSizeHint") (W ∷ W ∷ W ∷ []) ∷
    row 30 (codes "VecTypeHint") (W ∷ []) ∷
    row 31 (codes "ContractionOff") [] ∷
    []
enumerants_of Class =
    row 0 (codes "UniformConstant") [] ∷
    row 1 (codes "Input") [] ∷
    row 4 (codes "Workgroup") [] ∷
    row 5 (codes "CrossWorkgroup") [] ∷
    row 7 (codes "Function") [] ∷
    row 8 (codes "Generic") [] ∷
    []
enumerants_of Decoration =
    row 10 (codes "CPacked") [] ∷
    row 11 (codes "BuiltIn") ((E BuiltIn) ∷ []) ∷
    row 19 (codes "Restrict") [] ∷
    row 20 (codes "Aliased") [] ∷
    row 21 (codes "Volatile") [] ∷
    row 22 (codes "Constant") [] ∷
    row 23 (codes "Coherent") [] ∷
    row 38 (codes "FuncParamAttr") ((E FuncParamAttr) ∷ []) ∷
    row 41 (codes "LinkageAttributes") (S ∷ (E Linkage) ∷ []) ∷
    row 44 (codes "Alignment") (W ∷ []) ∷
    []
enumerants_of FuncParamAttr =
    row 0 (codes "Zext") [] ∷
    row 1 (codes "Sext") [] ∷
    row 2 (codes "ByVal") [] ∷
    row 3 (codes "Sret") [] ∷
    row 4 (codes "NoAlias") [] ∷
    row 5 (codes "NoCapture") [] ∷
    row 6 (codes "NoWrite") [] ∷
    row 7 (codes "NoReadWrite") [] ∷
    []
enumerants_of Linkage =
    row 0 (codes "Export") [] ∷
    row 1 (codes "Import") [] ∷
    []
enumerants_of BuiltIn =
    row 24 (codes "NumWorkgroups") [] ∷
    row 25 (codes "WorkgroupSize") [] ∷
    row 26 (codes "WorkgroupId") [] ∷
    row 27 (codes "LocalInvocationId") [] ∷
    row 28 (codes "GlobalInvocationId") [] ∷
    row 29 (codes "LocalInvocationIndex") [] ∷
    row 30 (codes "WorkDim") [] ∷
    row 31 (codes "GlobalSize") [] ∷
    row 32 (codes "EnqueuedWorkgroupSize") [] ∷
    row 33 (codes "GlobalOffset") [] ∷
    row 34 (codes "GlobalLinearId") [] ∷
    []
enumerants_of Access =
    row 1 (codes "Volatile") [] ∷
    row 2 (codes "Aligned") (W ∷ []) ∷
    row 4 (codes "Nontemporal") [] ∷
    []
enumerants_of FunctionControl =
    row 1 (codes "Inline") [] ∷
    row 2 (codes "DontInline") [] ∷
    row 4 (codes "Pure") [] ∷
    row 8 (codes "Const") [] ∷
    []
enumerants_of SelectionControl =
    row 1 (codes "Flatten") [] ∷
    row 2 (codes "DontFlatten") [] ∷
    []
enumerants_of LoopControl =
    row 1 (codes "Unroll") [] ∷
    row 2 (codes "DontUnroll") [] ∷
    row 4 (codes "DependencyInfinite") [] ∷
    row 8 (codes "DependencyLength") (W ∷ []) ∷
    []

-- whether operands of a kind are masks
abbrev pub is_mask_kind : EnumKind → Bool
is_mask_kind Capability = false
is_mask_kind Addressing = false
is_mask_kind Memory = false
is_mask_kind Model = false
is_mask_kind Language = false
is_mask_kind Mode = false
is_mask_kind Class = false
is_mask_kind Decoration = false
is_mask_kind FuncParamAttr = false
is_mask_kind Linkage = false
is_mask_kind BuiltIn = false
is_mask_kind Access = true
is_mask_kind FunctionControl = true
is_mask_kind SelectionControl = true
is_mask_kind LoopControl = true

-- the enumerant of a value, or of a bit alone
abbrev pub enumerant_at : EnumKind → ℕ → Option EnumerantRow
enumerant_at kind value = find (λ e. e.value == value) (enumerants_of kind)

-- the mask of all bits
abbrev pub bits_of : EnumKind → ℕ
bits_of kind = fold (λ bits e. bit_or bits e.value) 0 (enumerants_of kind)

-- a value is known where the enumeration has it, a mask where the bits of the kind are all that it has
abbrev pub is_known : EnumKind → ℕ → Bool
is_known kind value =
    if is_mask_kind kind then bit_or value (bits_of kind) == bits_of kind else is_some (enumerant_at kind value)

-- whether a word is a value, or has a bit
abbrev pub stands_in : Bool → ℕ → ℕ → Bool
stands_in is_mask word value = if is_mask then not (bit_and word value == 0) else word == value

abbrev pub has_elements : {A : Type 0} → List A → Bool
has_elements [] = false
has_elements (_ ∷ _) = true

-- what follows a word of a kind: one bit of a mask at most is followed by anything
abbrev pub extra_operands_of : EnumKind → ℕ → List ExtraOperand
extra_operands_of kind word =
    unwrap_or (option_map (λ e. e.extra) (find (λ e. stands_in (is_mask_kind kind) word e.value && has_elements e.extra) (enumerants_of kind))) []
