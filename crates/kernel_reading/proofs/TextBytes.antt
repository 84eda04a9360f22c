-- The text of a kernel is UTF-8 where its own name is.
use Rattle.std.proofs.Common.{◌≡◌, ℕ, suc, zero, ◌-◌, ◌^◌, ◌<◌, Bool, true, false, List, [], ◌∷◌, ◌++◌, refl, arith}
use Rattle.std.specs.Prelude.{IsUtf8, codes, flat_map, nat_lt, slice_index}
use Rattle.std.specs.List.{list_all}
use Rattle.std.proofs.lemmas.Bool.{and_parts, ltb-true}
use Rattle.std.proofs.lemmas.Fmt.{IsAscii-decimal}
use Rattle.std.proofs.lemmas.Str.{IsUtf8-append, IsUtf8-from_ascii, IsUtf8-nil}
use Rattle.ll_tree.specs.declared.name.Name.{Name}
use Rattle.ll_tree.specs.declared.name.NameText.{NameText}
use Rattle.kernel_tree.specs.declared.kernel.Kernel.{Kernel}
use Rattle.kernel_tree.specs.declared.kernel.KernelInst.{KernelInst}
use Rattle.kernel_tree.specs.declared.kernel.KernelInst.TheVariants.{Add, Load, Store}
use Rattle.kernel_tree.specs.declared.kernel.KernelParam.{KernelParam}
use Rattle.kernel_tree.specs.declared.kernel.ValueType.{ValueType}
use Rattle.kernel_tree.specs.declared.kernel.ValueType.TheVariants.{Int, Pointer}
use Rattle.kernel_tree.specs.Numbered.{name_bytes}
use Rattle.kernel_tree.specs.Text.{access_text, align_text, end_lines, inst_text, kernel_text, label_line, name_line, name_text, param_text, params_behind, params_text, targets_text, type_text}
use Rattle.kernel_reading.proofs.InstReads.{AreNumberedInsts, IsNumberedInst}
use Rattle.kernel_reading.proofs.KernelReads.{HasNumberNames}
use Rattle.kernel_reading.proofs.NameReads.{IsNumberName}
use Rattle.kernel_reading.proofs.ParamReads.{AreNumbered}

abbrev pub is_ascii : List ℕ → Bool
is_ascii bytes = list_all (λ b. nat_lt b 128) bytes

below-128 : (bytes : List ℕ) → is_ascii bytes ≡ true → (i : ℕ) → slice_index bytes i < 128
below-128 [] are i = omega arith
below-128 (b ∷ bytes) are zero = ltb-true b 128 (and_parts _ (is_ascii bytes) are).0
below-128 (b ∷ bytes) are (suc i) = below-128 bytes (and_parts _ (is_ascii bytes) are).1 i

pub ascii : (bytes : List ℕ) → is_ascii bytes ≡ true → IsUtf8 bytes
ascii bytes are = IsUtf8-from_ascii bytes (below-128 bytes are)

-- ASCII before a text
before : (bytes text : List ℕ) → is_ascii bytes ≡ true → IsUtf8 text → IsUtf8 (bytes ++ text)
before bytes text are utf8 = IsUtf8-append bytes text (ascii bytes are) utf8

wide : (n : ℕ) → n < 2 ^ 31 → n < 2 ^ 64
wide n lt = omega (arith, lt)

number-utf8 : (names : List NameText) (name : Name) → IsNumberName names name → IsUtf8 (name_text name)
number-utf8 names name is = IsUtf8-from_ascii (name_text name) (IsAscii-decimal (name.number - 1) (wide _ is.small))

-- a name before a text
number-before : (names : List NameText) (name : Name) (text : List ℕ) → IsNumberName names name → IsUtf8 text → IsUtf8 (name_text name ++ text)
number-before names name text is utf8 = IsUtf8-append (name_text name) text (number-utf8 names name is) utf8

targets-utf8 : (has_targets : Bool) → IsUtf8 (targets_text has_targets)
targets-utf8 true = ascii (targets_text true) refl
targets-utf8 false = IsUtf8-nil

type-utf8 : (value_type : ValueType) → IsUtf8 (type_text value_type)
type-utf8 Int = ascii (type_text Int) refl
type-utf8 Pointer = ascii (type_text Pointer) refl

align-utf8 : (is_aligned : Bool) → IsUtf8 (align_text is_aligned)
align-utf8 true = ascii (align_text true) refl
align-utf8 false = IsUtf8-nil

line-end : IsUtf8 (10 ∷ [])
line-end = ascii (10 ∷ []) refl

module _ (names : List NameText) where
  param-utf8 : (p : KernelParam) → IsNumberName names p.name → IsUtf8 (param_text p)
  param-utf8 p is = IsUtf8-append (type_text p.value_type) _ (type-utf8 p.value_type) (before (codes " %") (name_text p.name) refl (number-utf8 names p.name is))

  behind-utf8 : (ps : List KernelParam) → AreNumbered names ps → IsUtf8 (params_behind ps)
  behind-utf8 [] are = IsUtf8-nil
  behind-utf8 (p ∷ ps) are = IsUtf8-append (codes ", " ++ param_text p) (params_behind ps) (before (codes ", ") (param_text p) refl (param-utf8 p are.0)) (behind-utf8 ps are.1)

  params-utf8 : (ps : List KernelParam) → AreNumbered names ps → IsUtf8 (params_text ps)
  params-utf8 [] are = IsUtf8-nil
  params-utf8 (p ∷ ps) are = IsUtf8-append (param_text p) (params_behind ps) (param-utf8 p are.0) (behind-utf8 ps are.1)

  access-utf8 : (pointer : Name) (is_aligned : Bool) → IsNumberName names pointer → IsUtf8 (access_text pointer is_aligned ++ 10 ∷ [])
  access-utf8 pointer is_aligned is =
      IsUtf8-append (access_text pointer is_aligned) (10 ∷ [])
      (before (codes "i32 addrspace(1)* %") _ refl (number-before names pointer (align_text is_aligned) is (align-utf8 is_aligned))) line-end

  inst-utf8 : (i : KernelInst) → IsNumberedInst names i → IsUtf8 (inst_text i)
  inst-utf8 (Add sum left right) is =
      before (codes "  %") _ refl (number-before names sum _ is.0
      (before (codes " = add i32 %") _ refl (number-before names left _ is.1
      (before (codes ", %") _ refl (number-before names right (10 ∷ []) is.2 line-end)))))
  inst-utf8 (Load loaded pointer is_aligned) is =
      before (codes "  %") _ refl (number-before names loaded _ is.0 (before (codes " = load i32, ") _ refl (access-utf8 pointer is_aligned is.1)))
  inst-utf8 (Store value pointer is_aligned) is =
      before (codes "  store i32 %") _ refl (number-before names value _ is.0 (before (codes ", ") _ refl (access-utf8 pointer is_aligned is.1)))

  insts-utf8 : (insts : List KernelInst) → AreNumberedInsts names insts → IsUtf8 (flat_map inst_text insts)
  insts-utf8 [] are = IsUtf8-nil
  insts-utf8 (i ∷ insts) are = IsUtf8-append (inst_text i) (flat_map inst_text insts) (inst-utf8 i are.0) (insts-utf8 insts are.1)

  label-utf8 : (block : Name) → IsNumberName names block → IsUtf8 (label_line block)
  label-utf8 block is =
      before (codes ") {") _ refl (before (10 ∷ []) _ refl (number-before names block _ is (before (codes ":") (10 ∷ []) refl line-end)))

pub kernel-utf8 : (kernel : Kernel) → HasNumberNames kernel → IsUtf8 (name_bytes kernel) → IsUtf8 (kernel_text kernel)
kernel-utf8 kernel are own =
    IsUtf8-append (targets_text kernel.has_targets) _ (targets-utf8 kernel.has_targets)
    (IsUtf8-append (name_line kernel) _ (before (codes "define spir_kernel void @") _ refl (IsUtf8-append (name_bytes kernel) (codes "(") own (ascii (codes "(") refl)))
    (IsUtf8-append (params_text kernel.params) _ (params-utf8 kernel.names kernel.params are.params)
    (IsUtf8-append (label_line kernel.block) _ (label-utf8 kernel.names kernel.block are.block)
    (IsUtf8-append (flat_map inst_text kernel.insts) end_lines (insts-utf8 kernel.names kernel.insts are.insts) (ascii end_lines refl)))))
