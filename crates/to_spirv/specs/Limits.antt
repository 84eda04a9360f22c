-- What the module of a kernel can hold (SPIR-V 1.2, 2.17 "Universal Limits", and 2.3 for the words of an instruction).
use Rattle.std.specs.Prelude.{◌≢◌, ◌+◌, ◌≤◌, length, All, IsUtf8}
use Rattle.spv_codec.specs.declared.module.RawInst.{RawInst}
use Rattle.spv_module.specs.Sections.{flattened}
use Rattle.kernel_tree.specs.declared.kernel.Kernel.{Kernel}
use Rattle.kernel_tree.specs.Numbered.{name_bytes}
use Rattle.to_spirv.specs.Partner.{bound_of, partner}

-- an instruction has at most so many words, of which the first has the opcode
abbrev pub IsShort : RawInst → Type 0
IsShort inst = length inst.operands + 1 ≤ 65535

pub record IsWithinLimits (kernel : Kernel) : Type 0 where
  pub bound : bound_of kernel ≤ 0x3FFFFF
  pub short : All IsShort (flattened (partner kernel)).insts

-- the bytes of a kernel's name can stand in a literal string (SPIR-V 1.2, 2.2.1)
pub record HasPlainName (kernel : Kernel) : Type 0 where
  pub utf8 : IsUtf8 (name_bytes kernel)
  pub no_zero : All (λ byte. byte ≢ 0) (name_bytes kernel)
