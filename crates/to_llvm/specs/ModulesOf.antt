-- When a module is the one of a kernel.
use Rattle.std.specs.Prelude.{◌≡◌, ℕ, List}
use Rattle.spv_words.specs.declared.words.Order.{Order}
use Rattle.spv_words.specs.Words.{words_bytes}
use Rattle.spv_codec.specs.declared.module.RawModule.{RawModule}
use Rattle.spv_codec.specs.Framing.{module_words}
use Rattle.spv_module.specs.Sections.{flattened}
use Rattle.kernel_tree.specs.declared.kernel.Kernel.{Kernel}
use Rattle.to_spirv.specs.Limits.{HasPlainName, IsWithinLimits}
use Rattle.to_spirv.specs.Partner.{partner}

-- the module is that of the kernel, in either order of the bytes
pub record IsModuleOf (raw : RawModule) (kernel : Kernel) : Type 0 where
  pub within : IsWithinLimits kernel
  pub plain : HasPlainName kernel
  pub same : raw ≡ record (flattened (partner kernel)) { order = raw.order }

-- the bytes are those of the kernel's module, in either order
pub record IsBinaryOf (bytes : List ℕ) (kernel : Kernel) : Type 0 where
  pub within : IsWithinLimits kernel
  pub plain : HasPlainName kernel
  pub order : Order
  pub spelled : bytes ≡ words_bytes order (module_words (flattened (partner kernel)))
