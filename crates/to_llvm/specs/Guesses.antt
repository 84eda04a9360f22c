-- The kernel that instructions are taken for, whatever they are: it is looked for where the module of a kernel has it, and what is missing
-- is 0 (SPIR-V 1.2, 3.32).
use Rattle.std.specs.Prelude.{ℕ, ◌+◌, ◌-◌, ◌==◌, Bool, true, if◌then◌else◌, List, [], ◌∷◌, Option, None, Some, map, flat_map, drop, length, get_or}
use Rattle.std.specs.List.{range_with_len}
use Rattle.std.specs.Option.{option_to_list}
use Rattle.spv_words.specs.declared.words.Order.TheVariants.{Little}
use Rattle.spv_words.specs.Words.{words_bytes}
use Rattle.spv_layout.specs.declared.opcode.Opcode.{Opcode}
use Rattle.spv_layout.specs.declared.opcode.Opcode.TheVariants as op
use Rattle.spv_layout.specs.Forms.{number_of}
use Rattle.spv_codec.specs.declared.module.RawInst.{RawInst}
use Rattle.ll_tree.specs.declared.name.Name.{Name}
use Rattle.ll_tree.specs.declared.name.NameKind.TheVariants.{Global}
use Rattle.ll_tree.specs.declared.name.NameText.{NameText}
use Rattle.ll_tree.specs.declared.name.Spelling.TheVariants.{Text}
use Rattle.kernel_tree.specs.declared.kernel.Kernel.{Kernel}
use Rattle.kernel_tree.specs.declared.kernel.KernelInst.{KernelInst}
use Rattle.kernel_tree.specs.declared.kernel.KernelInst.TheVariants.{Add, Load, Store}
use Rattle.kernel_tree.specs.declared.kernel.KernelParam.{KernelParam}
use Rattle.kernel_tree.specs.declared.kernel.ValueType.{ValueType}
use Rattle.kernel_tree.specs.declared.kernel.ValueType.TheVariants.{Int, Pointer}
use Rattle.kernel_tree.specs.Canonical.{number_entry}
use Rattle.kernel_tree.specs.Names.{defined_by}
use Rattle.to_llvm.specs.declared.ids.KnownIds.{KnownIds}

abbrev pub is_op : Opcode → RawInst → Bool
is_op opcode inst = inst.op == number_of opcode

-- the operands of the first instruction with this opcode
abbrev pub first_operands : Opcode → List RawInst → List ℕ
first_operands opcode [] = []
first_operands opcode (inst ∷ insts) = if is_op opcode inst then inst.operands else first_operands opcode insts

abbrev pub operand : List ℕ → ℕ → ℕ
operand words at = get_or words at 0

abbrev pub known_ids : List RawInst → KnownIds
known_ids insts = record { function = operand (first_operands op.Function insts) 1; pointer = operand (first_operands op.TypePointer insts) 0 }

-- the ids of names count on from that of the function
abbrev pub name_of : KnownIds → ℕ → Name
name_of ids id = record { number = id - ids.function; byte = 0 }

abbrev pub value_type_of : KnownIds → ℕ → ValueType
value_type_of ids id = if id == ids.pointer then Pointer else Int

abbrev pub param_of : KnownIds → List ℕ → KernelParam
param_of ids words = record { value_type = value_type_of ids (operand words 0); name = name_of ids (operand words 1) }

abbrev pub param_in : KnownIds → RawInst → Option KernelParam
param_in ids inst = if is_op op.FunctionParameter inst then Some (param_of ids inst.operands) else None

abbrev pub params_in : KnownIds → List RawInst → List KernelParam
params_in ids insts = flat_map (λ inst. option_to_list (param_in ids inst)) insts

abbrev pub sum_of : KnownIds → List ℕ → KernelInst
sum_of ids words = Add (name_of ids (operand words 1)) (name_of ids (operand words 2)) (name_of ids (operand words 3))

abbrev pub load_of : KnownIds → List ℕ → KernelInst
load_of ids words = Load (name_of ids (operand words 1)) (name_of ids (operand words 2)) true

-- a store has the pointer before the value
abbrev pub store_of : KnownIds → List ℕ → KernelInst
store_of ids words = Store (name_of ids (operand words 1)) (name_of ids (operand words 0)) true

abbrev pub inst_in : KnownIds → RawInst → Option KernelInst
inst_in ids inst =
    if is_op op.IAdd inst then Some (sum_of ids inst.operands)
    else (if is_op op.Load inst then Some (load_of ids inst.operands)
    else (if is_op op.Store inst then Some (store_of ids inst.operands) else None))

abbrev pub insts_in : KnownIds → List RawInst → List KernelInst
insts_in ids insts = flat_map (λ inst. option_to_list (inst_in ids inst)) insts

abbrev pub block_in : KnownIds → List RawInst → Name
block_in ids insts = name_of ids (operand (first_operands op.Label insts) 0)

-- the bytes before the first zero byte
abbrev pub before_zero : List ℕ → List ℕ
before_zero [] = []
before_zero (byte ∷ bytes) = if byte == 0 then [] else byte ∷ before_zero bytes

-- the text of the literal string behind the execution model and the function of an entry point (SPIR-V 1.2, 2.2.1)
abbrev pub entry_text : List RawInst → List ℕ
entry_text insts = before_zero (words_bytes Little (drop 2 (first_operands op.EntryPoint insts)))

abbrev pub own_entry : List ℕ → NameText
own_entry text = record { kind = Global; spelling = Text text }

-- how many names a kernel with these parameters and instructions defines: these, the block, and the values
abbrev pub name_count : List KernelParam → List KernelInst → ℕ
name_count params insts = length params + 1 + length (flat_map defined_by insts)

abbrev pub kernel_with : List ℕ → List KernelParam → Name → List KernelInst → Kernel
kernel_with text params block insts = record {
  has_targets = true;
  name = record { number = 0; byte = 0 };
  params = params;
  block = block;
  insts = insts;
  names = own_entry text ∷ map number_entry (range_with_len 0 (name_count params insts));
}

abbrev pub guessed_by : KnownIds → List RawInst → Kernel
guessed_by ids insts = kernel_with (entry_text insts) (params_in ids insts) (block_in ids insts) (insts_in ids insts)

unfoldable pub guessed : List RawInst → Kernel
guessed insts = guessed_by (known_ids insts) insts
