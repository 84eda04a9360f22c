-- What the translation of a text is, and why a text has none.
use Rattle.std.specs.Prelude.{◌≡◌, ℕ, ◌+◌, ◌≤◌, true, List, IsUtf8, None, Some, length}
use Rattle.kern_acts.specs.Bodies.{bodies_size}
use Rattle.kern_events.specs.declared.item.Inputs.{Inputs}
use Rattle.ll_play.specs.Meaning.{llvm_run}
use Rattle.spv_play.specs.Meaning.{spirv_run}
use Rattle.kernel_runs.specs.Alike.{SameRuns}
use Rattle.kernel_runs.specs.Laws.{text_size}
use Rattle.ll_tokens.specs.Tokens.{IsTokens, Lexeme}
use Rattle.kernel_text.specs.Grammar.{IsKernelText}
use Rattle.kernel_tree.specs.declared.kernel.Kernel.{Kernel}
use Rattle.kernel_tree.specs.Canonical.{canonical}
use Rattle.kernel_tree.specs.Covered.{first_undefined, is_covered}
use Rattle.kernel_tree.specs.Modules.{text_module}
use Rattle.kernel_tree.specs.Text.{kernel_text}
use Rattle.spv_names.specs.NameRules.{names_fault}
use Rattle.spv_codec.specs.declared.module.RawModule.{RawModule}
use Rattle.spv_codec.specs.Framing.{IsSpirv, module_words}
use Rattle.spv_canon.specs.Canonical.{canonical_spirv}
use Rattle.spv_canon.specs.Sound.{HasSoundIds}
use Rattle.spv_canon.specs.Valid.{IsValid}
use Rattle.spv_module.specs.declared.module.SpvModule.{SpvModule}
use Rattle.spv_module.specs.Sections.{flattened}
use Rattle.spv_words.specs.declared.words.Order.{Order}
use Rattle.spv_words.specs.Words.{words_bytes}
use Rattle.to_spirv.specs.Limits.{HasPlainName, IsWithinLimits}
use Rattle.to_spirv.specs.Pairing.{Pairs}
use Rattle.to_spirv.specs.Partner.{partner}
use Rattle.kernel_translation.specs.declared.error.TranslateError.{TranslateError}
use Rattle.kernel_translation.specs.declared.error.TranslateError.TheVariants.{NoMemory, UndefinedName, Outside}

-- the bytes spell a module in this order, which breaks no rule of its sections, ids and functions
pub record IsBinary (order : Order) (bytes : List ℕ) : Type 0 where
  pub raw : RawModule
  pub ordered : raw.order ≡ order
  pub spirv : IsSpirv bytes raw
  pub keeps : names_fault raw ≡ None

-- the bytes of the module that pairs with a kernel with numbered names
abbrev pub binary_of : Order → Kernel → List ℕ
binary_of order kernel = words_bytes order (module_words (flattened (partner kernel)))

-- the input is the text of this kernel, whatever its names are
pub record IsTextOf (input : List ℕ) (kernel : Kernel) : Type 0 where
  pub utf8 : IsUtf8 input
  pub tokens : List Lexeme
  pub are_tokens : IsTokens input tokens
  pub reads : IsKernelText tokens kernel

-- the input is the text of a kernel of the covered subset, which has this canonical form
pub record IsCanonicalOf (input : List ℕ) (form : Kernel) : Type 0 where
  pub source : Kernel
  pub text : IsTextOf input source
  pub defined : first_undefined source ≡ None
  pub covered : is_covered source ≡ true
  pub canonical : form ≡ canonical source

-- a canonical form keeps the limits, in either format
pub record KeepsLimits (order : Order) (form : Kernel) : Type 0 where
  pub named : HasPlainName form
  pub within : IsWithinLimits form
  pub text : length (kernel_text form) ≤ 16777216
  pub binary : length (binary_of order form) ≤ 16777216

-- the input is the text of a kernel that can be translated, and has this canonical form
pub record IsTranslatable (order : Order) (input : List ℕ) (form : Kernel) : Type 0 where
  pub canonical : IsCanonicalOf input form
  pub limits : KeepsLimits order form

-- whatever kernel is asked for and on whatever item, arguments and answers, the module of the binary shows the events and the outcome that the
-- module of text shows, step by step, and they are alike within the stretch of steps that their sizes give
abbrev pub ShowTheSame : Kernel → Kernel → Type 0
ShowTheSame source form =
    (name : List ℕ) (inputs : Inputs)
    → SameRuns (text_size source + bodies_size (partner form).bodies) (llvm_run (text_module source) name inputs) (spirv_run (partner form) name inputs)

-- every other module with sound ids that makes a pair with the kernel's text has the module that is written as its canonical form
abbrev pub PairsAlone : Kernel → Type 0
PairsAlone form = (m : SpvModule) → HasSoundIds m → Pairs (text_module form) m → canonical_spirv m ≡ partner form

-- The bytes are those of the one module that pairs with the canonical form of the input's kernel. It is valid and canonical, and shows what
-- the input shows, and the bytes break no rule of framing and none of sections, ids and functions
pub record IsTranslation (order : Order) (input bytes : List ℕ) : Type 0 where
  pub form : Kernel
  pub translatable : IsTranslatable order input form
  pub pairs : Pairs (text_module form) (partner form)
  pub alone : PairsAlone form
  pub canonical : canonical_spirv (partner form) ≡ partner form
  pub valid : IsValid (partner form)
  pub alike : ShowTheSame translatable.canonical.source form
  pub spelled : bytes ≡ binary_of order form
  pub binary : IsBinary order bytes

-- the input is the text of a kernel, and the first name in it that is used and defined nowhere stands at this byte
pub record IsUndefinedIn (input : List ℕ) (byte : ℕ) : Type 0 where
  pub source : Kernel
  pub text : IsTextOf input source
  pub undefined : first_undefined source ≡ Some byte

-- no name is undefined in the input, and it has no canonical form
pub record HasNoForm (input : List ℕ) : Type 0 where
  pub defined : (byte : ℕ) → IsUndefinedIn input byte → ⊥
  pub uncovered : (form : Kernel) → IsCanonicalOf input form → ⊥

-- no name is undefined in the input, and it can't be translated
pub record IsOutside (order : Order) (input : List ℕ) : Type 0 where
  pub defined : (byte : ℕ) → IsUndefinedIn input byte → ⊥
  pub untranslatable : (form : Kernel) → IsTranslatable order input form → ⊥

-- what is told of an input that is no kernel's text
abbrev pub IsUnread : List ℕ → TranslateError → Type 0
IsUnread input NoMemory = Unit {0}
IsUnread input (UndefinedName byte) = ⊥
IsUnread input Outside = (kernel : Kernel) → IsTextOf input kernel → ⊥

-- what is told of an input without a canonical form
abbrev pub IsUncovered : List ℕ → TranslateError → Type 0
IsUncovered input NoMemory = Unit {0}
IsUncovered input (UndefinedName byte) = IsUndefinedIn input byte
IsUncovered input Outside = HasNoForm input

-- what is told of an input that isn't translated
abbrev pub IsUntranslated : Order → List ℕ → TranslateError → Type 0
IsUntranslated order input NoMemory = Unit {0}
IsUntranslated order input (UndefinedName byte) = IsUndefinedIn input byte
IsUntranslated order input Outside = IsOutside order input
