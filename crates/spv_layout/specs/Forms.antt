-- The forms of instructions (SPIR-V 1.2, 3.32 "Instructions"): for each opcode its number, its name and its operands.
use Rattle.std.specs.Prelude.{ℕ, ◌==◌, List, [], ◌∷◌, codes, find, Option}
use Rattle.std.specs.Option.{option_map}
use Rattle.spv_layout.specs.declared.forms.Form.{Form}
use Rattle.spv_layout.specs.declared.opcode.Opcode.{Opcode}
use Rattle.spv_layout.specs.declared.opcode.TheConstants.{OPCODES}
use Rattle.spv_layout.specs.declared.opcode.Opcode.TheVariants.{Nop, SourceContinued, Source, SourceExtension, Name, MemberName, String, Line, Extension, ExtInstImport, ExtInst, MemoryModel, EntryPoint, ExecutionMode, Capability, TypeVoid, TypeBool, TypeInt, TypeVector, TypeArray, TypeStruct, TypePointer, TypeFunction, ConstantTrue, ConstantFalse, Constant, ConstantComposite, ConstantNull, Function, FunctionParameter, FunctionEnd, FunctionCall, Variable, Load, Store, AccessChain, InBoundsAccessChain, PtrAccessChain, InBoundsPtrAccessChain, Decorate, MemberDecorate, DecorationGroup, GroupDecorate, VectorExtractDynamic, VectorInsertDynamic, VectorShuffle, CompositeConstruct, CompositeExtract, CompositeInsert, CopyObject, UConvert, SConvert, ConvertPtrToU, ConvertUToPtr, PtrCastToGeneric, GenericCastToPtr, Bitcast, SNegate, IAdd, ISub, IMul, UDiv, SDiv, UMod, SRem, LogicalEqual, LogicalNotEqual, LogicalOr, LogicalAnd, LogicalNot, Select, IEqual, INotEqual, UGreaterThan, SGreaterThan, UGreaterThanEqual, SGreaterThanEqual, ULessThan, SLessThan, ULessThanEqual, SLessThanEqual, ShiftRightLogical, ShiftRightArithmetic, ShiftLeftLogical, BitwiseOr, BitwiseXor, BitwiseAnd, Not, ControlBarrier, MemoryBarrier, AtomicLoad, AtomicStore, AtomicExchange, AtomicCompareExchange, AtomicIIncrement, AtomicIDecrement, AtomicIAdd, AtomicISub, AtomicSMin, AtomicUMin, AtomicSMax, AtomicUMax, AtomicAnd, AtomicOr, AtomicXor, Phi, LoopMerge, SelectionMerge, Label, Branch, BranchConditional, Switch, Return, ReturnValue, Unreachable, LifetimeStart, LifetimeStop, NoLine, ModuleProcessed}
use Rattle.spv_layout.specs.declared.operands.OperandKind.{OperandKind}
use Rattle.spv_layout.specs.declared.operands.OperandKind.TheVariants.{T, R, I, W, S, N, E, OptI, OptIS, OptWW, OptE, ManyI, ManyW, ManyII, ManyNI}
use Rattle.spv_layout.specs.declared.operands.EnumKind.TheVariants.{Access, Addressing, Capability, Class, Decoration, FunctionControl, Language, LoopControl, Memory, Mode, Model, SelectionControl}

-- what a form shows
pub record FormRow : Type 0 where
  pub number : ℕ
  pub name : List ℕ
  pub operands : List OperandKind

abbrev pub form_row : Form → FormRow
form_row form = record { number = form.op; name = form.name.now; operands = form.operands.now }

abbrev pub row : ℕ → List ℕ → List OperandKind → FormRow
row number name operands = record { number = number; name = name; operands = operands }

-- the table of forms
abbrev pub row_of : Opcode → FormRow
row_of Nop = row 0 (codes "OpNop") []
row_of SourceContinued = row 2 (codes "OpSourceContinued") (S ∷ [])
row_of Source = row 3 (codes "OpSource") ((E Language) ∷ W ∷ OptIS ∷ [])
row_of SourceExtension = row 4 (codes "OpSourceExtension") (S ∷ [])
row_of Name = row 5 (codes "OpName") (I ∷ S ∷ [])
row_of MemberName = row 6 (codes "OpMemberName") (I ∷ W ∷ S ∷ [])
row_of String = row 7 (codes "OpString") (R ∷ S ∷ [])
row_of Line = row 8 (codes "OpLine") (I ∷ W ∷ W ∷ [])
row_of Extension = row 10 (codes "OpExtension") (S ∷ [])
row_of ExtInstImport = row 11 (codes "OpExtInstImport") (R ∷ S ∷ [])
row_of ExtInst = row 12 (codes "OpExtInst") (T ∷ R ∷ I ∷ W ∷ ManyI ∷ [])
row_of MemoryModel = row 14 (codes "OpMemoryModel") ((E Addressing) ∷ (E Memory) ∷ [])
row_of EntryPoint = row 15 (codes "OpEntryPoint") ((E Model) ∷ I ∷ S ∷ ManyI ∷ [])
row_of ExecutionMode = row 16 (codes "OpExecutionMode") (I ∷ (E Mode) ∷ [])
row_of Capability = row 17 (codes "OpCapability") ((E Capability) ∷ [])
row_of TypeVoid = row 19 (codes "OpTypeVoid") (R ∷ [])
row_of TypeBool = row 20 (codes "OpTypeBool") (R ∷ [])
row_of TypeInt = row 21 (codes "OpTypeInt") (R ∷ W ∷ W ∷ [])
row_of TypeVector = row 23 (codes "OpTypeVector") (R ∷ I ∷ W ∷ [])
row_of TypeArray = row 28 (codes "OpTypeArray") (R ∷ I ∷ I ∷ [])
row_of TypeStruct = row 30 (codes "OpTypeStruct") (R ∷ ManyI ∷ [])
row_of TypePointer = row 32 (codes "OpTypePointer") (R ∷ (E Class) ∷ I ∷ [])
row_of TypeFunction = row 33 (codes "OpTypeFunction") (R ∷ I ∷ ManyI ∷ [])
row_of ConstantTrue = row 41 (codes "OpConstantTrue") (T ∷ R ∷ [])
row_of ConstantFalse = row 42 (codes "OpConstantFalse") (T ∷ R ∷ [])
row_of Constant = row 43 (codes "OpConstant") (T ∷ R ∷ N ∷ [])
row_of ConstantComposite = row 44 (codes "OpConstantComposite") (T ∷ R ∷ ManyI ∷ [])
row_of ConstantNull = row 46 (codes "OpConstantNull") (T ∷ R ∷ [])
row_of Function = row 54 (codes "OpFunction") (T ∷ R ∷ (E FunctionControl) ∷ I ∷ [])
row_of FunctionParameter = row 55 (codes "OpFunctionParameter") (T ∷ R ∷ [])
row_of FunctionEnd = row 56 (codes "OpFunctionEnd") []
row_of FunctionCall = row 57 (codes "OpFunctionCall") (T ∷ R ∷ I ∷ ManyI ∷ [])
row_of Variable = row 59 (codes "OpVariable") (T ∷ R ∷ (E Class) ∷ OptI ∷ [])
row_of Load = row 61 (codes "OpLoad") (T ∷ R ∷ I ∷ (OptE Access) ∷ [])
row_of Store = row 62 (codes "OpStore") (I ∷ I ∷ (OptE Access) ∷ [])
row_of AccessChain = row 65 (codes "OpAccessChain") (T ∷ R ∷ I ∷ ManyI ∷ [])
row_of InBoundsAccessChain = row 66 (codes "OpInBoundsAccessChain") (T ∷ R ∷ I ∷ ManyI ∷ [])
row_of PtrAccessChain = row 67 (codes "OpPtrAccessChain") (T ∷ R ∷ I ∷ I ∷ ManyI ∷ [])
row_of InBoundsPtrAccessChain = row 70 (codes "OpInBoundsPtrAccessChain") (T ∷ R ∷ I ∷ I ∷ ManyI ∷ [])
row_of Decorate = row 71 (codes "OpDecorate") (I ∷ (E Decoration) ∷ [])
row_of MemberDecorate = row 72 (codes "OpMemberDecorate") (I ∷ W ∷ (E Decoration) ∷ [])
row_of DecorationGroup = row 73 (codes "OpDecorationGroup") (R ∷ [])
row_of GroupDecorate = row 74 (codes "OpGroupDecorate") (I ∷ ManyI ∷ [])
row_of VectorExtractDynamic = row 77 (codes "OpVectorExtractDynamic") (T ∷ R ∷ I ∷ I ∷ [])
row_of VectorInsertDynamic = row 78 (codes "OpVectorInsertDynamic") (T ∷ R ∷ I ∷ I ∷ I ∷ [])
row_of VectorShuffle = row 79 (codes "OpVectorShuffle") (T ∷ R ∷ I ∷ I ∷ ManyW ∷ [])
row_of CompositeConstruct = row 80 (codes "OpCompositeConstruct") (T ∷ R ∷ ManyI ∷ [])
row_of CompositeExtract = row 81 (codes "OpCompositeExtract") (T ∷ R ∷ I ∷ ManyW ∷ [])
row_of CompositeInsert = row 82 (codes "OpCompositeInsert") (T ∷ R ∷ I ∷ I ∷ ManyW ∷ [])
row_of CopyObject = row 83 (codes "OpCopyObject") (T ∷ R ∷ I ∷ [])
row_of UConvert = row 113 (codes "OpUConvert") (T ∷ R ∷ I ∷ [])
row_of SConvert = row 114 (codes "OpSConvert") (T ∷ R ∷ I ∷ [])
row_of ConvertPtrToU = row 117 (codes "OpConvertPtrToU") (T ∷ R ∷ I ∷ [])
row_of ConvertUToPtr = row 120 (codes "OpConvertUToPtr") (T ∷ R ∷ I ∷ [])
row_of PtrCastToGeneric = row 121 (codes "OpPtrCastToGeneric") (T ∷ R ∷ I ∷ [])
row_of GenericCastToPtr = row 122 (codes "OpGenericCastToPtr") (T ∷ R ∷ I ∷ [])
row_of Bitcast = row 124 (codes "OpBitcast") (T ∷ R ∷ I ∷ [])
row_of SNegate = row 126 (codes "OpSNegate") (T ∷ R ∷ I ∷ [])
row_of IAdd = row 128 (codes "OpIAdd") (T ∷ R ∷ I ∷ I ∷ [])
row_of ISub = row 130 (codes "OpISub") (T ∷ R ∷ I ∷ I ∷ [])
row_of IMul = row 132 (codes "OpIMul") (T ∷ R ∷ I ∷ I ∷ [])
row_of UDiv = row 134 (codes "OpUDiv") (T ∷ R ∷ I ∷ I ∷ [])
row_of SDiv = row 135 (codes "OpSDiv") (T ∷ R ∷ I ∷ I ∷ [])
row_of UMod = row 137 (codes "OpUMod") (T ∷ R ∷ I ∷ I ∷ [])
row_of SRem = row 138 (codes "OpSRem") (T ∷ R ∷ I ∷ I ∷ [])
row_of LogicalEqual = row 164 (codes "OpLogicalEqual") (T ∷ R ∷ I ∷ I ∷ [])
row_of LogicalNotEqual = row 165 (codes "OpLogicalNotEqual") (T ∷ R ∷ I ∷ I ∷ [])
row_of LogicalOr = row 166 (codes "OpLogicalOr") (T ∷ R ∷ I ∷ I ∷ [])
row_of LogicalAnd = row 167 (codes "OpLogicalAnd") (T ∷ R ∷ I ∷ I ∷ [])
row_of LogicalNot = row 168 (codes "OpLogicalNot") (T ∷ R ∷ I ∷ [])
row_of Select = row 169 (codes "OpSelect") (T ∷ R ∷ I ∷ I ∷ I ∷ [])
row_of IEqual = row 170 (codes "OpIEqual") (T ∷ R ∷ I ∷ I ∷ [])
row_of INotEqual = row 171 (codes "OpINotEqual") (T ∷ R ∷ I ∷ I ∷ [])
row_of UGreaterThan = row 172 (codes "OpUGreaterThan") (T ∷ R ∷ I ∷ I ∷ [])
row_of SGreaterThan = row 173 (codes "OpSGreaterThan") (T ∷ R ∷ I ∷ I ∷ [])
row_of UGreaterThanEqual = row 174 (codes "OpUGreaterThanEqual") (T ∷ R ∷ I ∷ I ∷ [])
row_of SGreaterThanEqual = row 175 (codes "OpSGreaterThanEqual") (T ∷ R ∷ I ∷ I ∷ [])
row_of ULessThan = row 176 (codes "OpULessThan") (T ∷ R ∷ I ∷ I ∷ [])
row_of SLessThan = row 177 (codes "OpSLessThan") (T ∷ R ∷ I ∷ I ∷ [])
row_of ULessThanEqual = row 178 (codes "OpULessThanEqual") (T ∷ R ∷ I ∷ I ∷ [])
row_of SLessThanEqual = row 179 (codes "OpSLessThanEqual") (T ∷ R ∷ I ∷ I ∷ [])
row_of ShiftRightLogical = row 194 (codes "OpShiftRightLogical") (T ∷ R ∷ I ∷ I ∷ [])
row_of ShiftRightArithmetic = row 195 (codes "OpShiftRightArithmetic") (T ∷ R ∷ I ∷ I ∷ [])
row_of ShiftLeftLogical = row 196 (codes "OpShiftLeftLogical") (T ∷ R ∷ I ∷ I ∷ [])
row_of BitwiseOr = row 197 (codes "OpBitwiseOr") (T ∷ R ∷ I ∷ I ∷ [])
row_of BitwiseXor = row 198 (codes "OpBitwiseXor") (T ∷ R ∷ I ∷ I ∷ [])
row_of BitwiseAnd = row 199 (codes "OpBitwiseAnd") (T ∷ R ∷ I ∷ I ∷ [])
row_of Not = row 200 (codes "OpNot") (T ∷ R ∷ I ∷ [])
row_of ControlBarrier = row 224 (codes "OpControlBarrier") (I ∷ I ∷ I ∷ [])
row_of MemoryBarrier = row 225 (codes "OpMemoryBarrier") (I ∷ I ∷ [])
row_of AtomicLoad = row 227 (codes "OpAtomicLoad") (T ∷ R ∷ I ∷ I ∷ I ∷ [])
row_of AtomicStore = row 228 (codes "OpAtomicStore") (I ∷ I ∷ I ∷ I ∷ [])
row_of AtomicExchange = row 229 (codes "OpAtomicExchange") (T ∷ R ∷ I ∷ I ∷ I ∷ I ∷ [])
row_of AtomicCompareExchange = row 230 (codes "OpAtomicCompareExchange") (T ∷ R ∷ I ∷ I ∷ I ∷ I ∷ I ∷ I ∷ [])
row_of AtomicIIncrement = row 232 (codes "OpAtomicIIncrement") (T ∷ R ∷ I ∷ I ∷ I ∷ [])
row_of AtomicIDecrement = row 233 (codes "OpAtomicIDecrement") (T ∷ R ∷ I ∷ I ∷ I ∷ [])
row_of AtomicIAdd = row 234 (codes "OpAtomicIAdd") (T ∷ R ∷ I ∷ I ∷ I ∷ I ∷ [])
row_of AtomicISub = row 235 (codes "OpAtomicISub") (T ∷ R ∷ I ∷ I ∷ I ∷ I ∷ [])
row_of AtomicSMin = row 236 (codes "OpAtomicSMin") (T ∷ R ∷ I ∷ I ∷ I ∷ I ∷ [])
row_of AtomicUMin = row 237 (codes "OpAtomicUMin") (T ∷ R ∷ I ∷ I ∷ I ∷ I ∷ [])
row_of AtomicSMax = row 238 (codes "OpAtomicSMax") (T ∷ R ∷ I ∷ I ∷ I ∷ I ∷ [])
row_of AtomicUMax = row 239 (codes "OpAtomicUMax") (T ∷ R ∷ I ∷ I ∷ I ∷ I ∷ [])
row_of AtomicAnd = row 240 (codes "OpAtomicAnd") (T ∷ R ∷ I ∷ I ∷ I ∷ I ∷ [])
row_of AtomicOr = row 241 (codes "OpAtomicOr") (T ∷ R ∷ I ∷ I ∷ I ∷ I ∷ [])
row_of AtomicXor = row 242 (codes "OpAtomicXor") (T ∷ R ∷ I ∷ I ∷ I ∷ I ∷ [])
row_of Phi = row 245 (codes "OpPhi") (T ∷ R ∷ ManyII ∷ [])
row_of LoopMerge = row 246 (codes "OpLoopMerge") (I ∷ I ∷ (E LoopControl) ∷ [])
row_of SelectionMerge = row 247 (codes "OpSelectionMerge") (I ∷ (E SelectionControl) ∷ [])
row_of Label = row 248 (codes "OpLabel") (R ∷ [])
row_of Branch = row 249 (codes "OpBranch") (I ∷ [])
row_of BranchConditional = row 250 (codes "OpBranchConditional") (I ∷ I ∷ I ∷ OptWW ∷ [])
row_of Switch = row 251 (codes "OpSwitch") (I ∷ I ∷ ManyNI ∷ [])
row_of Return = row 253 (codes "OpReturn") []
row_of ReturnValue = row 254 (codes "OpReturnValue") (I ∷ [])
row_of Unreachable = row 255 (codes "OpUnreachable") []
row_of LifetimeStart = row 256 (codes "OpLifetimeStart") (I ∷ W ∷ [])
row_of LifetimeStop = row 257 (codes "OpLifetimeStop") (I ∷ W ∷ [])
row_of NoLine = row 317 (codes "OpNoLine") []
row_of ModuleProcessed = row 330 (codes "OpModuleProcessed") (S ∷ [])

abbrev pub number_of : Opcode → ℕ
number_of opcode = (row_of opcode).number

abbrev pub operands_of : Opcode → List OperandKind
operands_of opcode = (row_of opcode).operands

-- the opcode with this number
abbrev pub opcode_of : ℕ → Option Opcode
opcode_of number = find (λ opcode. number_of opcode == number) OPCODES

-- the form of the instruction with this opcode
abbrev pub form_at : ℕ → Option FormRow
form_at number = option_map row_of (opcode_of number)

abbrev pub name_at : ℕ → Option (List ℕ)
name_at number = option_map (λ form. form.name) (form_at number)
