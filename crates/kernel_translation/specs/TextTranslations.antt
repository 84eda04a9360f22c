-- What the text of a binary is, and that translations lead back to where they come from.
use Rattle.std.specs.Prelude.{◌≡◌, ℕ, ◌≤◌, List, None, Some, length}
use Rattle.ports.specs.declared.faults.SpvFault.{SpvFault}
use Rattle.spv_names.specs.NameRules.{names_fault}
use Rattle.spv_codec.specs.declared.module.RawModule.{RawModule}
use Rattle.spv_codec.specs.Framing.{IsFramingFault, IsSpirv}
use Rattle.spv_words.specs.declared.words.Order.{Order}
use Rattle.kernel_tree.specs.declared.kernel.Kernel.{Kernel}
use Rattle.kernel_tree.specs.Text.{kernel_text}
use Rattle.kernel_reading.specs.CanonicalKernels.{IsCanonicalKernel, IsPrinted}
use Rattle.to_llvm.specs.ModulesOf.{IsModuleOf}
use Rattle.kernel_translation.specs.declared.error.BinaryError.{BinaryError}
use Rattle.kernel_translation.specs.declared.error.BinaryError.TheVariants.{NoMemory, Misframed, Invalid, Outside}
use Rattle.kernel_translation.specs.Translations.{IsBinary, IsTranslation, KeepsLimits, ShowTheSame, binary_of}

-- the input is, in this byte order, the binary of the module that pairs with a canonical kernel
pub record IsCanonicalBinary (order : Order) (input : List ℕ) (form : Kernel) : Type 0 where
  pub canonical : IsCanonicalKernel form
  pub limits : KeepsLimits order form
  pub spelled : input ≡ binary_of order form

-- The bytes are the text of the canonical kernel whose binary the input is. They are read again as a kernel with this canonical form, whose
-- module shows what that of the binary shows
pub record IsTextTranslation (input bytes : List ℕ) : Type 0 where
  pub order : Order
  pub form : Kernel
  pub binary : IsCanonicalBinary order input form
  pub framed : IsBinary order input
  pub spelled : bytes ≡ kernel_text form
  pub printed : IsPrinted form
  pub alike : ShowTheSame printed.source form

-- the binary of a text, which is translated back to the text of the canonical form
pub record IsTranslationAndBack (order : Order) (input bytes : List ℕ) : Type 0 where
  pub there : IsTranslation order input bytes
  pub back : IsTextTranslation bytes (kernel_text there.form)

-- the text of a binary, which is translated back to the binary in either order
pub record IsTextTranslationAndBack (input bytes : List ℕ) : Type 0 where
  pub there : IsTextTranslation input bytes
  pub back : (order : Order) → IsTranslation order bytes (binary_of order there.form)

-- the input keeps the rules of framing, and this is the first break of the rules of its sections, ids and functions
pub record IsInvalidBinary (input : List ℕ) (fault : SpvFault) : Type 0 where
  pub raw : RawModule
  pub framed : IsSpirv input raw
  pub breaks : names_fault raw ≡ Some fault

-- the input keeps the rules of framing and those of sections, ids and functions, and is no canonical kernel's binary
pub record IsOutsideBinary (input : List ℕ) : Type 0 where
  pub raw : RawModule
  pub framed : IsSpirv input raw
  pub keeps : names_fault raw ≡ None
  pub none : (order : Order) (form : Kernel) → IsCanonicalBinary order input form → ⊥

-- what is told of a module that breaks a rule of its sections, ids and functions
abbrev pub IsNamesBreak : RawModule → BinaryError → Type 0
IsNamesBreak raw NoMemory = Unit {0}
IsNamesBreak raw (Misframed fault) = ⊥
IsNamesBreak raw (Invalid fault) = names_fault raw ≡ Some fault
IsNamesBreak raw Outside = ⊥

-- what is told of a binary that isn't translated
abbrev pub IsUntranslatedBinary : List ℕ → BinaryError → Type 0
IsUntranslatedBinary input NoMemory = Unit {0}
IsUntranslatedBinary input (Misframed fault) = IsFramingFault input fault
IsUntranslatedBinary input (Invalid fault) = IsInvalidBinary input fault
IsUntranslatedBinary input Outside = IsOutsideBinary input

-- the module is a canonical kernel's, and the bytes are its text, of no more bytes than an input may have
pub record IsModuleText (raw : RawModule) (bytes : List ℕ) : Type 0 where
  pub form : Kernel
  pub canonical : IsCanonicalKernel form
  pub has_module : IsModuleOf raw form
  pub spelled : bytes ≡ kernel_text form
  pub short : length (kernel_text form) ≤ 16777216

-- the module is no canonical kernel's whose text is short enough
abbrev pub HasNoText : RawModule → Type 0
HasNoText raw = (form : Kernel) → IsCanonicalKernel form → IsModuleOf raw form → length (kernel_text form) ≤ 16777216 → ⊥
